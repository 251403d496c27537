-- The chip's slots by node address, and what their calls do to them.
use Rattle.std.specs.Prelude.{◌≡◌, ℕ, ◌+◌, ◌-◌, ◌^◌, ◌<◌, ◌≤◌, Bool, true, false, ◌&&◌, List, Some, None, Option as Maybe, ◌≢◌, nat_le, slice_index_or}
use Rattle.std.proofs.Math.Option.{Option, some, none}
use Rattle.suite.specs.Scheme.{Body}
use Rattle.suite.specs.Words.{row}
use Rattle.machine.specs.Layout.{Shape, update, counter_limit}
use Rattle.machine.specs.Words.{bit}
use Rattle.machine.specs.Plans.{Table, Slot as DirtyNode, is_dirty, slot_counters, overdue, raised, lowest}
use Rattle.machine.specs.Layouts.{shape_in}
use Rattle.tree.specs.Limits.{WithinLimit}
use Rattle.tree.specs.Tables.{slot_in, no_slot, rows_in}
use Rattle.tree.specs.declared.types.Slot.{Slot}
use Rattle.tree.specs.declared.types.Slots.{Slots}

-- The slots by node address.
unfoldable pub table_in : Slots → Table
table_in s = rows_in s.table s.used

-- Which slot is that of node a.
abbrev pub Finds : Slots → ℕ → Maybe ℕ → Type 0
Finds s a (Some i) = (i < s.used) × (table_in s a ≡ some (slot_in (slice_index_or s.table i no_slot))) × ((slice_index_or s.table i no_slot).address ≡ a) × ((k : ℕ) → k < i → (slice_index_or s.table k no_slot).address ≢ a)
Finds s a None = table_in s a ≡ none

-- No node is dirty.
abbrev pub no_slots : Table
no_slots = λ p. none

-- A dirty map of h levels, by node address.
abbrev pub map_in : ℕ → List ℕ → ℕ → Bool
map_in h map p = nat_le (8 ^ h) p && bit map (p - 8 ^ h)

-- Counter i of a node, if it is dirty and i is below 8.
abbrev pub Counter : Option DirtyNode → ℕ → Maybe ℕ → Type 0
Counter o i (Some c) = (is_dirty o ≡ true) × (i < 8) × (slot_counters o i ≡ c)
Counter o i None = i < 8 → o ≡ none

-- A node's slot, or a fresh one with these counters.
abbrev pub slot_or : Option DirtyNode → Body → DirtyNode
slot_or (some s) f = s
slot_or none f = record { counters = f; pending = 0 }

-- A slot is free, and node a of the layout can have it with the counters f.
pub record HasRoom (s : Slots) (a : ℕ) (f : Body) : Type 0 where
  pub room : s.used < 64
  pub node : (shape_in s.layout).data_lines ≤ a
  pub range : a < (shape_in s.layout).lines
  pub within : WithinLimit f

-- Counter i of node a can be raised to c: a is a node of the layout and not overdue, and c is within the limit; unless a is dirty,
-- a slot is free and the counters f are within the limit.
pub record FitToRaise (s : Slots) (a i c : ℕ) (f : Body) : Type 0 where
  pub index : i < 8
  pub node : (shape_in s.layout).data_lines ≤ a
  pub range : a < (shape_in s.layout).lines
  pub within : c ≤ counter_limit
  pub in_time : overdue (table_in s a) ≡ false
  pub room : table_in s a ≡ none → s.used < 64
  pub fresh : table_in s a ≡ none → WithinLimit f

-- The slots after a raise: done exactly where it fits, else unchanged.
abbrev pub Raised : Slots → ℕ → ℕ → ℕ → Body → Bool → Slots → Type 0
Raised s a i c f true s' = FitToRaise s a i c f × (table_in s' ≡ update (table_in s) a (some (raised (slot_or (table_in s a) f) i c))) × (s'.layout ≡ s.layout)
Raised s a i c f false s' = (FitToRaise s a i c f → ⊥) × (s' ≡ s)

-- A slot can be added: a slot is free, and it is that of a node of the layout that has none, with counters within the limit.
pub record FitToPush (s : Slots) (x : Slot) : Type 0 where
  pub room : s.used < 64
  pub node : (shape_in s.layout).data_lines ≤ x.address
  pub range : x.address < (shape_in s.layout).lines
  pub clean : table_in s x.address ≡ none
  pub within : WithinLimit (row x.counters)

-- The slots after one was added: done exactly where it fits, else unchanged.
abbrev pub Pushed : Slots → Slot → Bool → Slots → Type 0
Pushed s x true s' = FitToPush s x × (table_in s' ≡ update (table_in s) x.address (some (slot_in x))) × (s'.used ≡ s.used + 1) × (s'.layout ≡ s.layout)
Pushed s x false s' = (FitToPush s x → ⊥) × (s' ≡ s)

-- The slots after that of node a was taken away, which gives its counters; unchanged if a is not dirty.
abbrev pub Removed : Slots → ℕ → Maybe (List ℕ) → Slots → Type 0
Removed s a (Some ws) s' = (is_dirty (table_in s a) ≡ true) × (row ws ≡ slot_counters (table_in s a)) × (table_in s' ≡ update (table_in s) a none) × (s'.used + 1 ≡ s.used) × (s'.layout ≡ s.layout)
Removed s a None s' = (table_in s a ≡ none) × (s' ≡ s)

-- The dirty node of lowest address.
pub record Lowest (T : Shape) (t : Table) (a : ℕ) : Type 0 where
  pub is : lowest T t ≡ some a
  pub node : T.data_lines ≤ a
  pub range : a < T.lines
  pub dirty : is_dirty (t a) ≡ true
  pub below : (q : ℕ) → q < a → is_dirty (t q) ≡ false

-- The same, if any is dirty.
abbrev pub LowestIs : Shape → Table → Maybe ℕ → Type 0
LowestIs T t (Some a) = Lowest T t a
LowestIs T t None = (p : ℕ) → t p ≡ none
