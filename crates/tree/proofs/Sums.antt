-- Sums over the slots.
use Rattle.std.proofs.Common.{◌≡◌, ℕ, zero, suc, ◌+◌, ◌*◌, ◌<◌, ◌≤◌, cond, ◌⊎◌, List, [], ◌∷◌, length, get_or, take, fold, sum, sum_by, length-take, sym, refl, ap, ◌∙◌, subst, inl, inr, arith}
use mathlib.Core.Path.{fun_ext}
use mathlib.Core.Option.{Option, some, none}
use Rattle.std.proofs.lemmas.Bool.{cases_lt}
use Rattle.std.specs.List.{All}
use Rattle.std.proofs.lemmas.List.{get_or-take, set-get_or}
use Rattle.std.proofs.lemmas.List.Elements.{All-from_get_or}
use Rattle.std.proofs.lemmas.List.Sums.{sum_by-le}
use Rattle.suite.specs.Words.{row}
use Rattle.machine.specs.Layout.{update, sum_to, lines_of, counter_limit, eight_ary}
use Rattle.machine.specs.Plans.{Table, Slot as DirtyNode, is_dirty, slot_counters, dirty_count, sum_of}
use Rattle.machine.proofs.Basics.{sum_same, sum_zero, update_same, update_other}
use Rattle.tree.specs.declared.types.Slot.{Slot}
use Rattle.tree.specs.Limits.{WithinLimit}
use Rattle.tree.specs.Tables.{slot_in, no_slot, rows_in}
use Rattle.tree.proofs.Rows.{table_push, table_missing}
use Rattle.tree.proofs.InOrder.{Ordered}

pub sum_none : (f : ℕ → ℕ) → 0 ≡ sum_to 0 f
unfolding sum_to
sum_none f = refl

pub sum_more : (f : ℕ → ℕ) (n : ℕ) → sum_to n f + f n ≡ sum_to (n + 1) f
unfolding sum_to
sum_more f n = let e : suc n ≡ n + 1 = omega arith in ap (λ k. sum_to k f) e

-- A count that each element raises by what f gives of it ends at the sum over the list.
pub sum_by_steps : {X : Type 0} (f : X → ℕ) (upto : ℕ → ℕ) (xs : List X) (d : X) → 0 ≡ upto 0 → ((i : ℕ) → i < length xs → upto i + f (get_or xs i d) ≡ upto (i + 1)) → sum_by f xs ≡ upto (length xs)
sum_by_steps {X} f upto xs d start step = go upto xs 0 start step
  where
    go : (upto : ℕ → ℕ) (xs : List X) (a : ℕ) → a ≡ upto 0 → ((i : ℕ) → i < length xs → upto i + f (get_or xs i d) ≡ upto (i + 1)) → fold (λ s x. s + f x) a xs ≡ upto (length xs)
    go upto [] a e s = e
    go upto (x ∷ xs) a e s =
        go (λ i. upto (suc i)) xs (a + f x) (ap (λ n. n + f x) e ∙ s 0 (omega arith)) (λ i h. s (suc i) (omega arith) ∙ ap upto (let z : suc i + 1 ≡ suc (i + 1) = omega arith in z))

-- The sum of a node's counters.
pub counters_value : (ws : List ℕ) → length ws ≡ 8 → sum ws ≡ sum_to 8 (row ws)
counters_value ws e = sum_by_steps (λ w. w) (λ n. sum_to n (row ws)) ws 0 (sum_none (row ws)) (λ i h. sum_more (row ws) i) ∙ ap (λ n. sum_to n (row ws)) e

pub counters_small : (ws : List ℕ) → length ws ≡ 8 → WithinLimit (row ws) → sum ws ≤ 8 * counter_limit
counters_small ws e small = omega (arith, sum_by-le (λ w. w) counter_limit ws (All-from_get_or (λ w. w ≤ counter_limit) ws 0 (λ i h. small i (omega arith))))

sum_small : (f : ℕ → ℕ) → WithinLimit f → sum_to 8 f ≤ 8 * counter_limit
unfolding sum_to
sum_small f h = omega (arith, h 0 (omega arith), h 1 (omega arith), h 2 (omega arith), h 3 (omega arith), h 4 (omega arith), h 5 (omega arith), h 6 (omega arith), h 7 (omega arith))

-- One term that was 0 set, the others the same.
sum_put : (n : ℕ) (f g : ℕ → ℕ) (j x : ℕ) → j < n → f j ≡ 0 → g j ≡ x → ((i : ℕ) → (i ≡ j → ⊥) → g i ≡ f i) → sum_to n g ≡ sum_to n f + x
unfolding sum_to
sum_put zero f g j x k a b h = absurd (omega arith)
sum_put (suc n) f g j x k a b h = go (cases_lt j n) (λ y. sum_put n f g j x y a b h)
  where
    go : (j < n) ⊎ (n ≤ j) → (j < n → sum_to n g ≡ sum_to n f + x) → sum_to n g + g n ≡ sum_to n f + f n + x
    go (inl y) ih = omega (arith, ih y, h n (λ z. omega arith))
    go (inr y) ih =
        let z : j ≡ n = omega arith in
        omega (arith, subst (λ m. g m ≡ x) z b, subst (λ m. f m ≡ 0) z a, sum_same n g f (λ i w. h i (λ y. omega arith)))

module _ (h : ℕ) (ss : List Slot) (used : ℕ) (T : Ordered h ss used) where
  missing : (i : ℕ) → i < used → rows_in ss i (get_or ss i no_slot).address ≡ none
  missing i k = table_missing ss i (get_or ss i no_slot).address (λ j x e. T.apart j i x k e)

  -- One slot more of the row.
  pub table_grown : (i : ℕ) → i < used → rows_in ss (i + 1) ≡ update (rows_in ss i) (get_or ss i no_slot).address (some (slot_in (get_or ss i no_slot)))
  table_grown i k =
      let plus : i + 1 ≡ suc i = omega arith in
      ap (rows_in ss) plus ∙ ap (λ xs. rows_in xs (suc i)) (sym (set-get_or ss i no_slot))
      ∙ fun_ext (λ q. table_push ss i (get_or ss i no_slot).address (get_or ss i no_slot) (omega (arith, T.fit)) (missing i k) refl q)

  -- A sum over all addresses of what each slot gives, where no slot gives 0.
  module _ (F : Option DirtyNode → ℕ) (nil : F none ≡ 0) where
    pub over_none : 0 ≡ sum_to (lines_of h) (λ p. F (rows_in ss 0 p))
    over_none = sym (sum_zero (lines_of h) (λ p. F (rows_in ss 0 p)) (λ p x. ap F (table_missing ss 0 p (λ j y z. omega arith)) ∙ nil))

    pub over_more : (i : ℕ) → i < used → sum_to (lines_of h) (λ p. F (rows_in ss i p)) + F (some (slot_in (get_or ss i no_slot))) ≡ sum_to (lines_of h) (λ p. F (rows_in ss (i + 1) p))
    over_more i k =
        sym
        (ap (λ (t : Table). sum_to (lines_of h) (λ p. F (t p))) (table_grown i k)
        ∙ sum_put (lines_of h) (λ p. F (rows_in ss i p)) (λ p. F (update (rows_in ss i) (get_or ss i no_slot).address (some (slot_in (get_or ss i no_slot))) p)) (get_or ss i no_slot).address (F (some (slot_in (get_or ss i no_slot)))) (T.range i k)
        (ap F (missing i k) ∙ nil)
        (ap F (update_same (rows_in ss i) (get_or ss i no_slot).address (some (slot_in (get_or ss i no_slot))) (get_or ss i no_slot).address refl))
        (λ q d. ap F (update_other (rows_in ss i) (get_or ss i no_slot).address (some (slot_in (get_or ss i no_slot))) q d)))

  -- The dirty sum, one slot at a time.
  pub sum_start : 0 ≡ sum_of (eight_ary h) (rows_in ss 0)
  unfolding sum_of
  sum_start = over_none (λ o. cond (is_dirty o) (sum_to 8 (slot_counters o)) 0) refl

  pub sum_next : (i : ℕ) → i < used → sum_of (eight_ary h) (rows_in ss i) + sum_to 8 (row (get_or ss i no_slot).counters) ≡ sum_of (eight_ary h) (rows_in ss (i + 1))
  unfolding sum_of
  sum_next i k = over_more (λ o. cond (is_dirty o) (sum_to 8 (slot_counters o)) 0) refl i k

  -- As many nodes are dirty as slots are used.
  pub count_upto : (i : ℕ) → i ≤ used → i ≡ dirty_count (eight_ary h) (rows_in ss i)
  unfolding dirty_count
  count_upto zero k = over_none (λ o. cond (is_dirty o) 1 0) refl
  count_upto (suc i) k =
      let plus : suc i ≡ i + 1 = omega arith in
      plus ∙ ap (λ n. n + 1) (count_upto i (omega arith)) ∙ over_more (λ o. cond (is_dirty o) 1 0) refl i (omega arith)
      ∙ ap (λ n. sum_to (lines_of h) (λ p. cond (is_dirty (rows_in ss n p)) 1 0)) (sym plus)

  -- So it is the sum over the slots in use, each of eight counters within the limit.
  pub slots_value : sum_by (λ (s : Slot). sum_to 8 (row s.counters)) (take used ss) ≡ sum_of (eight_ary h) (rows_in ss used)
  slots_value =
      let long : length (take used ss) ≡ used = omega (arith, length-take used ss, T.fit) in
      sum_by_steps (λ (s : Slot). sum_to 8 (row s.counters)) (λ n. sum_of (eight_ary h) (rows_in ss n)) (take used ss) no_slot sum_start
      (λ i k. ap (λ (s : Slot). sum_of (eight_ary h) (rows_in ss i) + sum_to 8 (row s.counters)) (get_or-take used ss i no_slot (omega arith)) ∙ sum_next i (omega arith))
      ∙ ap (λ n. sum_of (eight_ary h) (rows_in ss n)) long

  -- No counter of a slot in use is above the limit.
  pub slots_each : All (λ (s : Slot). WithinLimit (row s.counters)) (take used ss)
  slots_each =
      All-from_get_or (λ (s : Slot). WithinLimit (row s.counters)) (take used ss) no_slot
      (λ i h. subst (λ (s : Slot). WithinLimit (row s.counters)) (sym (get_or-take used ss i no_slot (omega (arith, length-take used ss)))) (T.small i (omega (arith, length-take used ss))))

  pub slots_small : sum_by (λ (s : Slot). sum_to 8 (row s.counters)) (take used ss) ≤ used * (8 * counter_limit)
  slots_small =
      let long : length (take used ss) ≡ used = omega (arith, length-take used ss, T.fit) in
      subst (λ n. sum_by (λ (s : Slot). sum_to 8 (row s.counters)) (take used ss) ≤ n * (8 * counter_limit)) long
      (sum_by-le (λ (s : Slot). sum_to 8 (row s.counters)) (8 * counter_limit) (take used ss) (λ i d h. sum_small (row (get_or (take used ss) i d).counters) (slots_each i d h)))
