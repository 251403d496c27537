use Rattle.script.proofs.step.read_one.Goals as goal

pub returns-in_err-value : goal.returns-in_err-value
returns-in_err-value c = rw c.from_residual.ensures (λ a h. c.in_err-value.ensures _ h)
