use Rattle.std.proofs.Common.{refl, rules}
use Rattle.aes.proofs.Keys.{keys_made}
use Rattle.aes.proofs.schedule.expand.Goals as goal

pub returns : goal.returns
returns c = keys_made _ (λ f. f.0.now) (λ f. f.1.now) (λ f i y q h. (search rules, search rules, search rules)) c.args.key.now c.from_fn.result _ c.from-last.ensures refl c.from_fn.ensures.items
