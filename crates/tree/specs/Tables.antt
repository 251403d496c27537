-- Slots in a row, as the definitions see them.
use Rattle.std.specs.Prelude.{ℕ, cond, List, [], ◌∷◌, take, ◌==◌}
use Rattle.std.proofs.Math.Option.{some, none}
use Rattle.suite.specs.Words.{row}
use Rattle.machine.specs.Plans.{Table, Slot as DirtyNode}
use Rattle.tree.specs.declared.types.Slot.{Slot}

-- A slot by its meaning.
abbrev pub slot_in : Slot → DirtyNode
slot_in s = record { counters = row s.counters; pending = s.pending }

-- What stands past the end of a row of slots.
abbrev pub no_slot : Slot
no_slot = record { address = 0; counters = []; pending = 0 }

-- A row of slots by address: the first that has it.
abbrev pub row_of : List Slot → Table
row_of [] p = none
row_of (s ∷ ss) p = cond (p == s.address) (some (slot_in s)) (row_of ss p)

-- The first n slots of a row.
unfoldable pub rows_in : List Slot → ℕ → Table
rows_in ss n = row_of (take n ss)
