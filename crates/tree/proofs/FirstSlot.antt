-- The first slot in use that has an address is the node's, and where none has it the node has no slot.
use Rattle.std.proofs.Common.{◌≡◌, ℕ, ◌<◌, Some, None, ◌≢◌, length, get_or, take, sym, ap, ◌∙◌, length-take, arith}
use Rattle.std.specs.List.{AllWithin}
use Rattle.std.proofs.lemmas.List.{get_or-take}
use Rattle.tree.specs.declared.types.Slot.{Slot}
use Rattle.tree.specs.declared.types.Slots.{Slots}
use Rattle.tree.specs.Tables.{no_slot}
use Rattle.tree.specs.SlotTable.{table_in, Finds}
use Rattle.tree.proofs.Rows.{table_found, table_missing}

module _ (s : Slots) (a : ℕ) where
  in_use : (k : ℕ) → k < s.used → get_or (take s.used s.table) k no_slot ≡ get_or s.table k no_slot
  in_use k h = get_or-take s.used s.table k no_slot h

  pub first_at : (i : ℕ) → i < length (take s.used s.table) → (get_or (take s.used s.table) i no_slot).address ≡ a → AllWithin (λ (x : Slot). x.address ≢ a) (take s.used s.table) 0 i → Finds s a (Some i)
  unfolding table_in
  first_at i low here before =
      let used : i < s.used = omega (arith, s.fit, length-take s.used s.table) in
      let is : (get_or s.table i no_slot).address ≡ a = ap (λ (x : Slot). x.address) (sym (in_use i used)) ∙ here in
      let apart : (k : ℕ) → k < i → (get_or s.table k no_slot).address ≢ a = λ k h e. before k no_slot (omega arith) h (ap (λ (x : Slot). x.address) (in_use k (omega arith)) ∙ e) in
      (used, table_found s.table s.used a i used s.fit is apart, is, apart)

  pub none_at : AllWithin (λ (x : Slot). x.address ≢ a) (take s.used s.table) 0 (length (take s.used s.table)) → Finds s a None
  unfolding table_in
  none_at past =
      table_missing s.table s.used a (λ k h e. past k no_slot (omega arith) (omega (arith, s.fit, length-take s.used s.table)) (ap (λ (x : Slot). x.address) (in_use k h) ∙ e))
