use Rattle.std.proofs.Common.{◌-◌, sym, refl, ap, arith}
use Rattle.machine.specs.Plans.{is_dirty, slot_counters}
use Rattle.tree.specs.SlotTable.{table_in}
use Rattle.tree.proofs.InOrder.{ordered_in, table_out}
use Rattle.tree.proofs.types.Slots.remove.Goals as goal

pub returns : goal.returns
unfolding table_in
returns c =
    let F = c.in_ok-i.ensures in
    let s = c.args.self.now in
    (ap is_dirty F.1, sym (ap slot_counters F.1), table_out s.layout.levels s.table s.used c.in_ok-i.i (s.used - 1) c.args.at (ordered_in s) s.fit F.0 (omega (arith, F.0)) F.2, omega (arith, F.0), refl)
