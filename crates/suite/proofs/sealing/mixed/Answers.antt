use Rattle.std.proofs.Common.{rules}
use Rattle.suite.proofs.Undoing.{row_mix}
use Rattle.suite.proofs.sealing.mixed.Goals as goal

pub returns : goal.returns
returns c = row_mix c.args.words.now c.args.pad.now c.from_fn.result (search rules) (search rules) c.from_fn.ensures.items.long (λ k h. let z = c.from_fn.ensures.items.at k 0 h in search rules)
