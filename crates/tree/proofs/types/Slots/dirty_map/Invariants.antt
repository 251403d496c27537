use Rattle.std.proofs.Common.{◌≡◌, ℕ, length}
use Rattle.machine.specs.Plans.{is_dirty}
use Rattle.tree.specs.Tables.{rows_in}
use Rattle.tree.specs.SlotTable.{map_in}
use Rattle.tree.proofs.types.Slots.dirty_map.Given as goal

abbrev pub invariant-loop-slot : goal.invariant-loop-slot
invariant-loop-slot l = (length l.map ≡ 10) × ((p : ℕ) → map_in l.self.layout.levels l.map p ≡ is_dirty (rows_in l.self.table l.slot-index p))
