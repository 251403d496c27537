use Rattle.std.proofs.Common.{◌≡◌}
use Rattle.aes.specs.Aes.{after}
use Rattle.aes.specs.Columns.{unpack}
use Rattle.aes.proofs.Aes128.nine_rounds.Given as goal

abbrev pub invariant-loop-key : goal.invariant-loop-key
invariant-loop-key l = unpack l.state ≡ after l.self.key l.block l.key-index
