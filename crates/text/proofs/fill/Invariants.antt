use Rattle.std.proofs.Common.{take}
use Rattle.std.specs.Fn.{FnReturnsAt}
use Rattle.text.specs.Taking.{steps_of, InTurn}
use Rattle.text.proofs.fill.Given as goal

abbrev pub invariant-loop-value : goal.invariant-loop-value
invariant-loop-value g l = InTurn (steps_of (FnReturnsAt g.F.Fn l.next)) l.text (take l.value-index l.value-items) l.rest
