use Rattle.suite.specs.Kinds.{number_of}
use Rattle.seal.proofs.reading.read_suite.Goals as goal

pub returns-in_err-number_after : goal.returns-in_err-number_after
returns-in_err-number_after c = rw c.from_residual.ensures (λ s. c.in_err-number_after.ensures (number_of s))
