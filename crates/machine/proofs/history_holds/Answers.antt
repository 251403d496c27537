-- The theorem is cited.
use Rattle.machine.proofs.history_holds.Goals as goal
use Rattle.machine.proofs.Theorem.{history_holds}
use Rattle.machine.proofs.OneOutcome.{laws_decide}

pub returns : goal.returns
returns c = record { promises = history_holds; decided = laws_decide; limit = c.largest_counter.ensures }
