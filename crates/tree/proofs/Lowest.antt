-- The lowest of the dirty nodes.
use Rattle.std.proofs.Common.{◌≡◌, ℕ, zero, suc, ◌<◌, ◌≤◌, Bool, true, false, cond, ◌⊎◌, List, get_or, sym, refl, ap, ◌∙◌, inl, inr, arith}
use mathlib.Core.Option.{some, none}
use Rattle.std.proofs.lemmas.Bool.{cases_lt}
use Rattle.machine.specs.Layout.{eight_ary, lines_of, first, or_last}
use Rattle.machine.specs.Plans.{is_dirty}
use Rattle.machine.proofs.Basics.{none_first}
use Rattle.tree.specs.declared.types.Slot.{Slot}
use Rattle.tree.specs.Tables.{no_slot, rows_in}
use Rattle.tree.specs.SlotTable.{Lowest}
use Rattle.tree.proofs.Rows.{table_missing}
use Rattle.tree.proofs.InOrder.{Ordered, table_at}

pub first_is : (n : ℕ) (f : ℕ → Bool) (a : ℕ) → a < n → f a ≡ true → ((i : ℕ) → i < a → f i ≡ false) → first n f ≡ some a
unfolding first
first_is zero f a h e g = absurd (omega arith)
first_is (suc n) f a h e g = go (cases_lt a n) (λ x. first_is n f a x e g)
  where
    go : (a < n) ⊎ (n ≤ a) → (a < n → first n f ≡ some a) → or_last n (first n f) (f n) ≡ some a
    go (inl x) ih = ap (λ o. or_last n o (f n)) (ih x)
    go (inr x) ih =
        let z : a ≡ n = omega arith in
        ap (λ o. or_last n o (f n)) (none_first n f (λ i b. g i (omega arith))) ∙ ap (λ b. cond b (some n) none) (ap f (sym z) ∙ e) ∙ ap some (sym z)

pub lowest_is : (h : ℕ) (ss : List Slot) (n b : ℕ) → Ordered h ss n → b < n → ((k : ℕ) → k < n → (get_or ss b no_slot).address ≤ (get_or ss k no_slot).address) → Lowest (eight_ary h) (rows_in ss n) (get_or ss b no_slot).address
lowest_is h ss n b T k f =
    let up : is_dirty (rows_in ss n (get_or ss b no_slot).address) ≡ true = ap is_dirty (table_at h ss n T T.fit (get_or ss b no_slot).address b k refl) in
    let low : (i : ℕ) → i < (get_or ss b no_slot).address → is_dirty (rows_in ss n i) ≡ false = λ i x. ap is_dirty (table_missing ss n i (λ j y z. omega (arith, f j y))) in
    record {
      is = first_is (lines_of h) (λ p. is_dirty (rows_in ss n p)) (get_or ss b no_slot).address (T.range b k) up low;
      node = T.node b k;
      range = T.range b k;
      dirty = up;
      below = low;
    }
