use Rattle.text.proofs.Decimals.{spaced_here, spaced_none}
use Rattle.text.proofs.next_number.Goals as goal

pub returns-in_err-number : goal.returns-in_err-number
returns-in_err-number c = rw c.from_residual-in_err-number.ensures (spaced_none _ _ _ _ c.in_ok-after.ensures c.cut.ensures c.in_err-number.ensures)

pub returns : goal.returns
returns c = spaced_here _ _ _ _ c.in_ok-after.ensures c.cut.ensures _ c.in_ok-number.ensures
