-- Slots in a row, as a table by address.
use Rattle.std.proofs.Common.{◌≡◌, ℕ, zero, suc, ◌+◌, ◌<◌, ◌≤◌, cond, eqb, List, [], ◌∷◌, length, get_or, take, set, sym, refl, ap, ◌∙◌, arith}
use mathlib.Core.Path.{fun_ext}
use mathlib.Core.Option.{some, none}
use Rattle.std.proofs.lemmas.Bool.Decides.{nat_tests}
use Rattle.std.proofs.lemmas.Bool.{eq-eqb, ne_eqb}
use Rattle.std.proofs.lemmas.List.{get_or-set_same, get_or-set_other}
use Rattle.tree.specs.declared.types.Slot.{Slot}
use Rattle.machine.specs.Layout.{update}
use Rattle.machine.specs.Plans.{Slot as DirtyNode, raised}
use Rattle.suite.specs.Words.{row}
use Rattle.tree.specs.Tables.{slot_in, no_slot, row_of, rows_in}
use Rattle.tree.specs.SlotTable.{slot_or}

pub table_found : (ss : List Slot) (used at i : ℕ) → i < used → used ≤ length ss → (get_or ss i no_slot).address ≡ at → ((k : ℕ) → k < i → (get_or ss k no_slot).address ≡ at → ⊥) → rows_in ss used at ≡ some (slot_in (get_or ss i no_slot))
unfolding rows_in
table_found [] used at i h n e f = absurd (omega arith)
table_found (s ∷ ss) zero at i h n e f = absurd (omega arith)
table_found (s ∷ ss) (suc used) at zero h n e f = rw (eq-eqb at s.address (sym e))
table_found (s ∷ ss) (suc used) at (suc i) h n e f = rw (ne_eqb at s.address (λ x. f zero (omega arith) (sym x))) (table_found ss used at i (omega arith) (omega arith) e (λ k x. f (suc k) (omega arith)))

pub table_missing : (ss : List Slot) (used at : ℕ) → ((k : ℕ) → k < used → (get_or ss k no_slot).address ≡ at → ⊥) → rows_in ss used at ≡ none
unfolding rows_in
table_missing [] zero at f = refl
table_missing [] (suc used) at f = refl
table_missing (s ∷ ss) zero at f = refl
table_missing (s ∷ ss) (suc used) at f = rw (ne_eqb at s.address (λ x. f zero (omega arith) (sym x))) (table_missing ss used at (λ k x. f (suc k) (omega arith)))

-- A write into the first slot of an address.
pub table_set : (ss : List Slot) (used at i : ℕ) (s : Slot) → i < used → used ≤ length ss → (get_or ss i no_slot).address ≡ at → ((k : ℕ) → k < i → (get_or ss k no_slot).address ≡ at → ⊥) → s.address ≡ at → (q : ℕ) → rows_in (set ss i s) used q ≡ update (rows_in ss used) at (some (slot_in s)) q
unfolding rows_in
table_set [] used at i s h n e f g q = absurd (omega arith)
table_set (x ∷ ss) zero at i s h n e f g q = absurd (omega arith)
table_set (x ∷ ss) (suc used) at zero s h n e f g q = grind (arith, nat_tests)
table_set (x ∷ ss) (suc used) at (suc i) s h n e f g q = grind (arith, nat_tests, table_set ss used at i s (omega arith) (omega arith) e (λ k y. f (suc k) (omega arith)) g q, f zero (omega arith))

-- A slot more, at an address that had none.
pub table_push : (ss : List Slot) (used at : ℕ) (s : Slot) → used < length ss → rows_in ss used at ≡ none → s.address ≡ at → (q : ℕ) → rows_in (set ss used s) (suc used) q ≡ update (rows_in ss used) at (some (slot_in s)) q
unfolding rows_in
table_push [] used at s n e g q = absurd (omega arith)
table_push (x ∷ ss) zero at s n e g q = ap (λ a. cond (eqb q a) (some (slot_in s)) none) g
table_push (x ∷ ss) (suc used) at s n e g q = grind (arith, nat_tests, (λ (y : row_of (take used ss) at ≡ none). table_push ss used at s (omega arith) y g q))

-- Words with one changed, as a function.
pub row_set : (ws : List ℕ) (i x : ℕ) → i < length ws → row (set ws i x) ≡ update (row ws) i x
row_set ws i x h = fun_ext (λ k. grind (arith, nat_tests, get_or-set_same ws i x 0 h, get_or-set_other ws i k x 0))

-- A slot raised in place.
pub slot_raised : (ws : List ℕ) (i c n : ℕ) → i < length ws → ◌≡◌ {A = DirtyNode} (record { counters = row (set ws i c); pending = n + 1 }) (raised (record { counters = row ws; pending = n }) i c)
slot_raised ws i c n h = λ j. record { counters = row_set ws i c h j; pending = plus j }
  where
    plus : n + 1 ≡ suc n
    plus = omega arith

-- What raising does to the table.
module _ (ss : List Slot) (used at index counter : ℕ) (n : used ≤ length ss) where
  pub raise_held : (i : ℕ) (s : Slot) (fresh : ℕ → ℕ) → i < used → rows_in ss used at ≡ some (slot_in (get_or ss i no_slot)) → (get_or ss i no_slot).address ≡ at → ((k : ℕ) → k < i → (get_or ss k no_slot).address ≡ at → ⊥) → s.address ≡ (get_or ss i no_slot).address → slot_in s ≡ raised (slot_in (get_or ss i no_slot)) index counter → rows_in (set ss i s) used ≡ update (rows_in ss used) at (some (raised (slot_or (rows_in ss used at) fresh) index counter))
  raise_held i s fresh b t a f k e =
      fun_ext (λ q. table_set ss used at i s b n a f (k ∙ a) q)
      ∙ ap (λ (z : DirtyNode). update (rows_in ss used) at (some z)) (e ∙ ap (λ o. raised (slot_or o fresh) index counter) (sym t))
