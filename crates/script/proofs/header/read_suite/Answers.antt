use Rattle.script.proofs.header.read_suite.Goals as goal

pub returns-in_err-suite : goal.returns-in_err-suite
returns-in_err-suite c = rw c.from_residual.ensures (λ n h. c.in_err-suite.ensures n h.0)
