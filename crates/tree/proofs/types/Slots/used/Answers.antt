use Rattle.std.proofs.Common.{arith}
use Rattle.tree.specs.SlotTable.{table_in}
use Rattle.tree.proofs.InOrder.{ordered_in}
use Rattle.tree.proofs.Sums.{count_upto}
use Rattle.tree.proofs.types.Slots.used.Goals as goal

pub returns-clause-counted : goal.returns-clause-counted
unfolding table_in
returns-clause-counted c =
    let s = c.args.self.now in
    count_upto s.layout.levels s.table s.used (ordered_in s) s.used (omega arith)
