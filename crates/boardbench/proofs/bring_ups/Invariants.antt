use Rattle.std.proofs.Common.{◌≤◌}
use Rattle.boardbench.proofs.bring_ups.Given as goal

abbrev pub invariant-loop : goal.invariant-loop
invariant-loop g l = l.done ≤ l.counter
