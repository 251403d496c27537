use Rattle.script.proofs.Steps.{step_once, no_letter}
use Rattle.script.proofs.step.read_step.Goals as goal

pub returns-in_err-after-clause-single : goal.returns-in_err-after-clause-single
returns-in_err-after-clause-single c = step_once

pub returns-in_err-letter-clause-single : goal.returns-in_err-letter-clause-single
returns-in_err-letter-clause-single c = step_once

pub returns-in_err-letter-clause-reads : goal.returns-in_err-letter-clause-reads
returns-in_err-letter-clause-reads c = rw c.from_residual-in_err-letter.ensures (no_letter c.args.line.now _ c.in_ok-after.ensures c.in_err-letter.ensures)

pub returns-clause-single : goal.returns-clause-single
returns-clause-single c = step_once
