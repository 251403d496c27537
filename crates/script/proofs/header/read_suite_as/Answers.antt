use Rattle.script.proofs.Headers.{no_suite}
use Rattle.script.proofs.header.read_suite_as.Goals as goal

pub returns-in_err-number_after : goal.returns-in_err-number_after
returns-in_err-number_after g c = rw c.from_residual.ensures (λ k h. c.in_err-number_after.ensures h.0 h.1)

pub returns-in_err-suite : goal.returns-in_err-suite
returns-in_err-suite g c = rw c.from_residual-in_err-suite.ensures (no_suite c.args.suites.now c.args.line.now _ c.in_ok-number_after.ensures c.in_err-suite.ensures)
