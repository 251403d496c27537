-- The dirty map of the slots, one bit at a time.
use Rattle.std.proofs.Common.{w64, ◌≡◌, ℕ, zero, suc, ◌+◌, ◌-◌, ◌/◌, ◌%◌, ◌^◌, ◌<◌, ◌≤◌, Bool, true, false, ◌&&◌, eqb, leb, ◌⊎◌, List, length, get_or, replicate, sym, refl, ap, ◌∙◌, inl, inr, arith}
use mathlib.Core.Option.{some}
use lib.Bits.{bit_or}
use Rattle.std.specs.Int.{bit_at}
use Rattle.std.proofs.lemmas.Nat.Bits.{bit_at-zero, bit_at-lt, bit_at-pow_same, bit_at-pow_other, bit_at_or, bit_at_set_same, bit_at_set_other}
use Rattle.std.proofs.lemmas.Bool.{cases_eq, le-leb, lt-leb, cases_lt}
use Rattle.std.proofs.lemmas.List.{get_or-set_same, get_or-set_other}
use Rattle.machine.specs.Layout.{update}
use Rattle.machine.specs.Plans.{Table, is_dirty}
use Rattle.machine.proofs.Basics.{update_same, update_other}
use Rattle.tree.proofs.Rows.{table_missing}
use Rattle.tree.proofs.Sums.{table_grown}
use Rattle.tree.specs.declared.types.Slot.{Slot}
use Rattle.machine.specs.Words.{bit}
use Rattle.tree.specs.Tables.{slot_in, no_slot, rows_in}
use Rattle.tree.specs.SlotTable.{map_in}
use Rattle.tree.specs.DirtyMap.{with_bit}
use Rattle.tree.proofs.InOrder.{Ordered}

pub or_same : (x k : ℕ) → bit_or x (2 ^ k) / 2 ^ k % 2 ≡ 1
or_same x k = omega (arith, bit_at_or x (2 ^ k) k, bit_at-pow_same k, bit_at-lt x k)

pub or_other : (x k q : ℕ) → (k ≡ q → ⊥) → bit_or x (2 ^ k) / 2 ^ q % 2 ≡ x / 2 ^ q % 2
or_other x k q d = omega (arith, bit_at_or x (2 ^ k) q, bit_at-pow_other k q (λ e. d (sym e)))

zero_at : (n x : ℕ) → ◌≡◌ {A = ℕ} (get_or (replicate n 0) x 0) 0
zero_at zero zero = refl
zero_at zero (suc x) = refl
zero_at (suc n) zero = refl
zero_at (suc n) (suc x) = zero_at n x

-- No bit is set for no slots.
pub map_none : (h : ℕ) (ss : List Slot) (p : ℕ) → map_in h (replicate 10 0) p ≡ is_dirty (rows_in ss 0 p)
map_none h ss p =
    ap (λ w. leb (8 ^ h) p && eqb (bit_at w ((p - 8 ^ h) % 64)) 1) (zero_at 10 ((p - 8 ^ h) / 64)) ∙ ap (λ x. leb (8 ^ h) p && eqb x 1) (bit_at-zero ((p - 8 ^ h) % 64)) ∙ off (leb (8 ^ h) p)
    ∙ sym (ap is_dirty (table_missing ss 0 p (λ k b f. omega arith)))
  where
    off : (b : Bool) → (b && false) ≡ false
    off true = refl
    off false = refl

-- Bit j is set by a write, and no other.
module _ (ms : List ℕ) (j : ℕ) (l : j / 64 < length ms) where
  set_same : bit (with_bit ms j) j ≡ true
  set_same = ap (λ w. eqb (bit_at w (j % 64)) 1) (get_or-set_same ms (j / 64) _ 0 l) ∙ ap (λ x. eqb x 1) (bit_at_set_same w64 (get_or ms (j / 64) 0) (j % 64) (omega arith))

  set_other : (q : ℕ) → (q ≡ j → ⊥) → bit (with_bit ms j) q ≡ bit ms q
  set_other q d = ap (λ x. eqb x 1) (go (cases_eq (q / 64) (j / 64)))
    where
      go : (q / 64 ≡ j / 64) ⊎ (q / 64 ≡ j / 64 → ⊥) → bit_at (get_or (with_bit ms j) (q / 64) 0) (q % 64) ≡ bit_at (get_or ms (q / 64) 0) (q % 64)
      go (inl c) =
          ap (λ w. bit_at w (q % 64)) (ap (λ z. get_or (with_bit ms j) z 0) c ∙ get_or-set_same ms (j / 64) _ 0 l)
          ∙ bit_at_set_other w64 (get_or ms (j / 64) 0) (j % 64) (omega arith) (q % 64) (λ z. d (omega (arith, c, z)))
          ∙ ap (λ z. bit_at (get_or ms z 0) (q % 64)) (sym c)
      go (inr c) = ap (λ w. bit_at w (q % 64)) (get_or-set_other ms (j / 64) (q / 64) _ 0 c)

-- One slot more, one bit more.
pub map_more : (h : ℕ) (ss : List Slot) (used i : ℕ) (ms : List ℕ) (j : ℕ) → Ordered h ss used → i < used → j / 64 < length ms → j ≡ (get_or ss i no_slot).address - 8 ^ h → ((p : ℕ) → map_in h ms p ≡ is_dirty (rows_in ss i p)) → (p : ℕ) → map_in h (with_bit ms j) p ≡ is_dirty (rows_in ss (i + 1) p)
map_more h ss used i ms j T k l e f p = go (cases_eq p (get_or ss i no_slot).address) ∙ sym (ap (λ (t : Table). is_dirty (t p)) (table_grown h ss used T i k))
  where
    go : (p ≡ (get_or ss i no_slot).address) ⊎ (p ≡ (get_or ss i no_slot).address → ⊥) → map_in h (with_bit ms j) p ≡ is_dirty (update (rows_in ss i) (get_or ss i no_slot).address (some (slot_in (get_or ss i no_slot))) p)
    go (inl d) =
        let x : p - 8 ^ h ≡ j = ap (λ z. z - 8 ^ h) d ∙ sym e in
        let up : 8 ^ h ≤ p = omega (arith, T.node i k, d) in
        ap (λ b. b && bit (with_bit ms j) (p - 8 ^ h)) (le-leb (8 ^ h) p up) ∙ ap (bit (with_bit ms j)) x ∙ set_same ms j l
        ∙ sym (ap is_dirty (update_same (rows_in ss i) (get_or ss i no_slot).address (some (slot_in (get_or ss i no_slot))) p d))
    go (inr d) = other (cases_lt p (8 ^ h)) ∙ f p ∙ sym (ap is_dirty (update_other (rows_in ss i) (get_or ss i no_slot).address (some (slot_in (get_or ss i no_slot))) p d))
      where
        other : (p < 8 ^ h) ⊎ (8 ^ h ≤ p) → map_in h (with_bit ms j) p ≡ map_in h ms p
        other (inl b) = ap (λ z. z && bit (with_bit ms j) (p - 8 ^ h)) (lt-leb (8 ^ h) p b) ∙ sym (ap (λ z. z && bit ms (p - 8 ^ h)) (lt-leb (8 ^ h) p b))
        other (inr b) = ap (λ z. leb (8 ^ h) p && z) (set_other ms j l (p - 8 ^ h) (λ z. d (omega (arith, z, e, T.node i k))))
