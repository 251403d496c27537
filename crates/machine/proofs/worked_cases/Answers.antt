-- The cases are cited.
use Rattle.machine.proofs.worked_cases.Goals as goal
use Rattle.machine.proofs.WorkedCases.{worked_cases}

pub returns : goal.returns
returns c = record { cases = worked_cases; lines = c.line_counts.ensures }
