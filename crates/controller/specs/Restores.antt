-- What restoring the dirty nodes answers, by the definitions.
use Rattle.std.specs.Prelude.{◌≡◌, ℕ, ◌%◌, ◌<◌, ◌≤◌, Bool, true, false, cond, not, ◌&&◌, Ok, Err, Result, nat_le, nat_lt, slice_index}
use Rattle.board.specs.Meaning.{Meaning}
use Rattle.suite.specs.Scheme.{Line, Scheme, right}
use Rattle.machine.specs.Layout.{Shape, sum_to, first, restored, counter_limit}
use Rattle.machine.specs.Store.{Register}
use Rattle.machine.specs.Faults.{fault, Outcome, ok, err, corrupt}
use Rattle.machine.specs.Plans.{Table, View, slot_unless, child_valid}
use Rattle.machine.specs.Plans.{Slot as DirtyNode}
use Rattle.tree.specs.Tables.{slot_in}
use Rattle.tree.specs.SlotTable.{table_in}
use Rattle.machine.specs.declared.layout.Layout.{Layout}
use Rattle.tree.specs.declared.types.Slot.{Slot}
use Rattle.tree.specs.declared.types.Slots.{Slots}
use Rattle.controller.specs.declared.types.TreeFault.{TreeFault}
use Rattle.controller.specs.Views.{tree_fault, node_line_valid, view_in}

-- Whether a child's line is right under its restored counter: a data line by its tag, a node's line by its counters too.
abbrev pub child_line_valid : Scheme → Shape → ℕ → ℕ → Line → Bool
child_line_valid S T a c L = cond (nat_lt a T.data_lines) (right S a c L) (node_line_valid S a c L)

-- A child's restored counter, where it is within the limit and the child's line is right under it; else the child is corrupt.
abbrev pub ChildRestored : Scheme → Shape → ℕ → ℕ → Line → Result ℕ TreeFault → Type 0
ChildRestored S T a s L (Ok c) = (c ≡ restored s (L.tag % 1024)) × (nat_le c counter_limit && child_line_valid S T a c L ≡ true)
ChildRestored S T a s L (Err f) =
    (nat_le (restored s (L.tag % 1024)) counter_limit && child_line_valid S T a (restored s (L.tag % 1024)) L ≡ false) × (tree_fault f ≡ fault corrupt a)

-- A restored slot, or why there is none.
abbrev pub slot_outcome : Result Slot TreeFault → Outcome DirtyNode
slot_outcome (Ok s) = ok (slot_in s)
slot_outcome (Err f) = err (tree_fault f)

-- The slot of node p from its line and its children, or the first child found corrupt.
abbrev pub from_children : Shape → Scheme → (ℕ → Line) → ℕ → Outcome DirtyNode
from_children T S m p = slot_unless T m p (first (T.arity p) (λ i. not (child_valid T S m p i)))

-- A restored slot is that of node a, with counters within the limit.
abbrev pub SlotOf : ℕ → Result Slot TreeFault → Type 0
SlotOf a (Ok s) = (s.address ≡ a) × ((k : ℕ) → k < 8 → slice_index s.counters k ≤ counter_limit)
SlotOf a (Err f) = Unit {0}

-- Nodes below n in the dirty map, counted.
abbrev pub map_below : ℕ → Register → ℕ
map_below n g = sum_to n (λ p. cond (g.dirty p) 1 0)

-- What restoring the dirty nodes answers, and the slots it leaves.
abbrev pub Restores : Outcome View → Meaning → Result (Unit {0}) TreeFault → Table → Type 0
Restores z m (Ok _) t = z ≡ ok (view_in m t)
Restores z m (Err f) t = z ≡ err (tree_fault f)

-- What recovering answers: the slots of the layout, or why not.
abbrev pub Recovers : Outcome Table → Layout → Result Slots TreeFault → Type 0
Recovers z l (Ok s) = (z ≡ ok (table_in s)) × (s.layout ≡ l)
Recovers z l (Err f) = z ≡ err (tree_fault f)
