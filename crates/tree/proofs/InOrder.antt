-- Slots kept in order by a raise, a new slot and one taken out.
use Rattle.std.proofs.Common.{◌≡◌, ℕ, zero, suc, ◌+◌, ◌^◌, ◌<◌, ◌≤◌, Bool, true, false, cond, eqb, ◌⊎◌, List, [], ◌∷◌, length, get_or, take, set, sym, ap, ◌∙◌, subst, inl, inr, arith}
use mathlib.Core.Path.{fun_ext}
use mathlib.Core.Option.{some, none}
use Rattle.std.proofs.lemmas.Bool.Decides.{nat_tests}
use Rattle.std.proofs.lemmas.Bool.{cases_eq, cases_lt}
use Rattle.std.proofs.lemmas.List.{get_or-set_same, get_or-set_other}
use Rattle.std.proofs.lemmas.Grind.{common_steps}
use Rattle.suite.specs.Words.{row}
use Rattle.machine.specs.Layout.{update, lines_of, counter_limit}
use Rattle.machine.specs.Plans.{Slot as DirtyNode, raised}
use Rattle.machine.proofs.Basics.{update_same, update_other}
use Rattle.tree.specs.declared.types.Slot.{Slot}
use Rattle.tree.specs.declared.types.Slots.{Slots}
use Rattle.tree.specs.Limits.{WithinLimit}
use Rattle.tree.specs.Tables.{slot_in, no_slot, row_of, rows_in}
use Rattle.tree.proofs.Rows.{table_found, table_missing}

-- The first `used` slots of a row are of nodes of h levels, one to each, with counters within the limit.
pub record Ordered (h : ℕ) (ss : List Slot) (used : ℕ) : Type 0 where
  pub fit : used ≤ length ss
  pub apart : (i j : ℕ) → i < j → j < used → (get_or ss i no_slot).address ≡ (get_or ss j no_slot).address → ⊥
  pub range : (i : ℕ) → i < used → (get_or ss i no_slot).address < lines_of h
  pub node : (i : ℕ) → i < used → 8 ^ h ≤ (get_or ss i no_slot).address
  pub small : (i : ℕ) → i < used → WithinLimit (row (get_or ss i no_slot).counters)

-- So are the chip's.
pub ordered_in : (s : Slots) → Ordered s.layout.levels s.table s.used
ordered_in s = record { fit = s.fit; apart = s.apart; range = s.range; node = s.node; small = s.small }

-- A counter raised is within the limit.
pub raised_small : (ws : ℕ → ℕ) (index counter j : ℕ) → counter ≤ counter_limit → ws j ≤ counter_limit → update ws index counter j ≤ counter_limit
raised_small ws index counter j a b = go (eqb j index)
  where
    go : (x : Bool) → cond x counter (ws j) ≤ counter_limit
    go true = a
    go false = b

-- At an address that the table lacks, no slot stands.
pub missing_apart : (ss : List Slot) (used at : ℕ) → rows_in ss used at ≡ none → used ≤ length ss → (k : ℕ) → k < used → (get_or ss k no_slot).address ≡ at → ⊥
unfolding rows_in
missing_apart [] used at e n k h f = omega arith
missing_apart (s ∷ ss) zero at e n k h f = omega arith
missing_apart (s ∷ ss) (suc used) at e n zero h f = grind (arith, nat_tests)
missing_apart (s ∷ ss) (suc used) at e n (suc k) h f = grind (arith, nat_tests, (λ (z : row_of (take used ss) at ≡ none). missing_apart ss used at z (omega arith) k (omega arith) f))

module _ (h : ℕ) (ss : List Slot) (used : ℕ) (T : Ordered h ss used) (n : used ≤ length ss) where
  -- A slot replaced by one of the same address.
  pub ordered_set : (i : ℕ) (s : Slot) → i < used → s.address ≡ (get_or ss i no_slot).address → WithinLimit (row s.counters) → Ordered h (set ss i s) used
  ordered_set i s k e f =
      record {
        fit = grind (arith, common_steps);
        apart = λ x y a b z. grind (arith, common_steps, T.apart x y a b);
        range = λ x a. grind (arith, common_steps, T.range x a);
        node = λ x a. grind (arith, common_steps, T.node x a);
        small = λ x a j b. grind (arith, common_steps, T.small x a j b, f j b);
      }

  -- A slot more.
  pub ordered_push : (s : Slot) → used < length ss → 8 ^ h ≤ s.address → s.address < lines_of h → rows_in ss used s.address ≡ none → WithinLimit (row s.counters) → Ordered h (set ss used s) (used + 1)
  ordered_push s k u r e f =
      record {
        fit = grind (arith, common_steps);
        apart = λ x y a b z. grind (arith, common_steps, T.apart x y a, missing_apart ss used s.address e n x);
        range = λ x a. grind (arith, common_steps, T.range x);
        node = λ x a. grind (arith, common_steps, T.node x);
        small = λ x a j b. grind (arith, common_steps, (λ (y : x < used). T.small x y j b), f j b);
      }

  -- A slot of the address is the one that the table has.
  pub table_at : (q k : ℕ) → k < used → (get_or ss k no_slot).address ≡ q → rows_in ss used q ≡ some (slot_in (get_or ss k no_slot))
  table_at q k a e = table_found ss used q k a n e (λ j b f. T.apart j k b a (f ∙ sym e))

-- A raise keeps the slots in order.
pub ordered_held : (h : ℕ) (ss : List Slot) (used i index counter : ℕ) (s : Slot) → Ordered h ss used → used ≤ length ss → i < used → s.address ≡ (get_or ss i no_slot).address → slot_in s ≡ raised (slot_in (get_or ss i no_slot)) index counter → counter ≤ counter_limit → Ordered h (set ss i s) used
ordered_held h ss used i index counter s T n k e f c = ordered_set h ss used T n i s k e (λ j b. subst (λ (z : DirtyNode). z.counters j ≤ counter_limit) (sym f) (raised_small (row (get_or ss i no_slot).counters) index counter j c (T.small i k j b)))

-- The last slot put in the place of one taken out.
module _ (h : ℕ) (ss : List Slot) (used i n at : ℕ) (T : Ordered h ss used) (l : used ≤ length ss) (k : i < used) (e : n + 1 ≡ used) (a : (get_or ss i no_slot).address ≡ at) where
  abbrev rest : List Slot
  rest = set ss i (get_or ss n no_slot)

  here : get_or rest i no_slot ≡ get_or ss n no_slot
  here = get_or-set_same ss i (get_or ss n no_slot) no_slot (omega arith)

  there : (x : ℕ) → (x ≡ i → ⊥) → get_or rest x no_slot ≡ get_or ss x no_slot
  there x d = get_or-set_other ss i x (get_or ss n no_slot) no_slot d

  pub ordered_out : Ordered h (set ss i (get_or ss n no_slot)) n
  ordered_out =
      record {
        fit = grind (arith, common_steps);
        apart = λ x y b c f. grind (arith, common_steps, T.apart x y b, T.apart x n, T.apart y n);
        range = λ x b. grind (arith, common_steps, T.range x, T.range n);
        node = λ x b. grind (arith, common_steps, T.node x, T.node n);
        small = λ x b j c. grind (arith, common_steps, (λ (y : x < used). T.small x y j c), (λ (y : n < used). T.small n y j c));
      }

  gone : (x : ℕ) → x < n → (get_or rest x no_slot).address ≡ at → ⊥
  gone x b f = grind (arith, common_steps, T.apart x i, T.apart i x, T.apart i n)

  locate : (m q : ℕ) → ((y : ℕ) × (y < m) × ((get_or ss y no_slot).address ≡ q)) ⊎ ((y : ℕ) → y < m → (get_or ss y no_slot).address ≡ q → ⊥)
  locate zero q = inr (λ y b f. omega arith)
  locate (suc m) q = go (cases_eq (get_or ss m no_slot).address q) (locate m q)
    where
      go : ((get_or ss m no_slot).address ≡ q) ⊎ ((get_or ss m no_slot).address ≡ q → ⊥) → ((y : ℕ) × (y < m) × ((get_or ss y no_slot).address ≡ q)) ⊎ ((y : ℕ) → y < m → (get_or ss y no_slot).address ≡ q → ⊥) → ((y : ℕ) × (y < suc m) × ((get_or ss y no_slot).address ≡ q)) ⊎ ((y : ℕ) → y < suc m → (get_or ss y no_slot).address ≡ q → ⊥)
      go (inl f) w = inl (m, omega arith, f)
      go (inr f) (inl (y, b, g)) = inl (y, omega arith, g)
      go (inr f) (inr g) = inr (λ y b z. grind (arith, g y))

  pub table_out : rows_in rest n ≡ update (rows_in ss used) at none
  table_out = fun_ext (λ q. go q (cases_eq q at))
    where
      go : (q : ℕ) → (q ≡ at) ⊎ (q ≡ at → ⊥) → rows_in rest n q ≡ update (rows_in ss used) at none q
      go q (inl d) = table_missing rest n q (λ x b f. gone x b (f ∙ d)) ∙ sym (update_same (rows_in ss used) at none q d)
      go q (inr d) = at_other (locate used q) ∙ sym (update_other (rows_in ss used) at none q d)
        where
          at_other : ((y : ℕ) × (y < used) × ((get_or ss y no_slot).address ≡ q)) ⊎ ((y : ℕ) → y < used → (get_or ss y no_slot).address ≡ q → ⊥) → rows_in rest n q ≡ rows_in ss used q
          at_other (inr g) = table_missing rest n q (λ x b f. grind (arith, common_steps, g x, g n)) ∙ sym (table_missing ss used q g)
          at_other (inl (y, b, f)) = pick (cases_lt y n) ∙ sym (table_at h ss used T l q y b f)
            where
              other : y ≡ i → ⊥
              other z = d (sym f ∙ ap (λ x. (get_or ss x no_slot).address) z ∙ a)

              pick : (y < n) ⊎ (n ≤ y) → rows_in rest n q ≡ some (slot_in (get_or ss y no_slot))
              pick (inl c) = table_at h rest n ordered_out ordered_out.fit q y c (ap (λ (z : Slot). z.address) (there y other) ∙ f) ∙ ap (λ (z : Slot). some (slot_in z)) (there y other)
              pick (inr c) =
                  let z : y ≡ n = omega arith in
                  let x : get_or rest i no_slot ≡ get_or ss y no_slot = here ∙ ap (λ m. get_or ss m no_slot) (sym z) in
                  table_at h rest n ordered_out ordered_out.fit q i (omega (arith, other)) (ap (λ (w : Slot). w.address) x ∙ f) ∙ ap (λ (w : Slot). some (slot_in w)) x
