use Rattle.std.proofs.Common.{rules, []}
use Rattle.suite.proofs.Bytes.{bytes_eight, words_flat}
use Rattle.suite.proofs.message.message.Goals as goal

pub returns : goal.returns
returns c = words_flat _ c.map.result c.map.ensures.items.long (λ k h. let z = c.map.ensures.items.at k 0 [] h in bytes_eight _ _ (search rules))
