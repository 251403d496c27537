-- The theorem: for every layout that obeys the tree laws, and for those with eight counters to a node.
use Rattle.machine.specs.Promises.{HistoryHolds}
use Rattle.machine.proofs.HistoryHolds.{keeps_promises}
use Rattle.machine.proofs.EightAry.{eight_trees}
use Rattle.machine.proofs.SixteenAry.{sixteen_trees}

pub history_holds : HistoryHolds
history_holds = record { every = keeps_promises; eight = keeps_promises _ eight_trees; sixteen = sixteen_trees }
