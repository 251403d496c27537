-- What the slots' invariant says of them as a table.
use Rattle.std.proofs.Common.{◌≡◌, ℕ, ◌^◌, ◌<◌, ◌≤◌, true, ◌⊎◌, sym, ◌∙◌, get_or, refl, ap, inl, inr, arith}
use mathlib.Core.Option.{some, none}
use Rattle.machine.specs.Layout.{lines_of}
use Rattle.machine.specs.Plans.{Slot, is_dirty, dirty_count}
use Rattle.machine.specs.Layouts.{shape_in}
use Rattle.tree.specs.Tables.{slot_in, no_slot, rows_in}
use Rattle.tree.specs.SlotTable.{table_in, no_slots}
use Rattle.tree.specs.declared.types.Slots.{Slots}
use Rattle.machine.specs.declared.layout.Layout.{Layout}
use Rattle.std.proofs.lemmas.Bool.{cases_lt, both_ways}
use Rattle.tree.proofs.InOrder.{ordered_in, table_at}
use Rattle.tree.proofs.Sums.{count_upto}
use Rattle.tree.proofs.Rows.{table_missing}

-- As many slots are in use as nodes are dirty.
pub used_is : (s : Slots) → s.used ≡ dirty_count (shape_in s.layout) (table_in s)
unfolding table_in
used_is s = count_upto s.layout.levels s.table s.used (ordered_in s) s.used (omega arith)

-- A slot in use is that of a node.
pub first_slot : (s : Slots) → 0 < s.used → (p : ℕ) × (x : Slot) × (table_in s p ≡ some x) × (8 ^ s.layout.levels ≤ p) × (p < lines_of s.layout.levels)
unfolding table_in
first_slot s k =
    ((get_or s.table 0 no_slot).address, slot_in (get_or s.table 0 no_slot), table_at s.layout.levels s.table s.used (ordered_in s) s.fit (get_or s.table 0 no_slot).address 0 k refl, s.node 0 k, s.range 0 k)

-- Without a slot in use no node is dirty.
pub unused_clean : (s : Slots) → s.used ≡ 0 → table_in s ≡ no_slots
unfolding table_in rows_in
unused_clean s e = ap (λ n. rows_in s.table n) e

-- Beyond the lines no node is dirty.
pub beyond_clean : (s : Slots) (p : ℕ) → lines_of s.layout.levels ≤ p → table_in s p ≡ none
unfolding table_in
beyond_clean s p n = table_missing s.table s.used p (λ i k e. omega (arith, s.range i k))

pub dirty_within : (s : Slots) (p : ℕ) → is_dirty (table_in s p) ≡ true → p < lines_of s.layout.levels
dirty_within s p e = go (cases_lt p (lines_of s.layout.levels))
  where
    go : (p < lines_of s.layout.levels) ⊎ (lines_of s.layout.levels ≤ p) → p < lines_of s.layout.levels
    go (inl k) = k
    go (inr k) = absurd (both_ways true (sym e ∙ ap is_dirty (beyond_clean s p k)) refl)

-- Slots of other levels than those in use would be are not in use.
pub other_clean : (s : Slots) (l : Layout) → (0 < s.used → l.levels ≡ s.layout.levels) → (l.levels ≡ s.layout.levels → ⊥) → table_in s ≡ no_slots
other_clean s l f n = go (cases_lt 0 s.used)
  where
    go : (0 < s.used) ⊎ (s.used ≤ 0) → table_in s ≡ no_slots
    go (inl k) = absurd (n (f k))
    go (inr k) = unused_clean s (omega arith)
