-- Turns of evicting the lowest node.
use Rattle.std.proofs.Common.{◌≡◌, ℕ, zero, suc, ◌+◌, ◌/◌, ◌^◌, ◌<◌, ◌-◌, ◌*◌, ◌≤◌, true, false, cond, leb, ◌⊎◌, sym, refl, ap, ◌∙◌, subst, inl, inr, arith}
use mathlib.Core.Option.{Option, some, none}
use Rattle.std.proofs.lemmas.Bool.{le-leb, lt-leb, cases_lt, cases_eq, cases_order, both_ways}
use Rattle.suite.specs.Scheme.{Scheme}
use Rattle.board.specs.Meaning.{Meaning, Power, endless, writes}
use Rattle.machine.specs.Layout.{eight_ary, lines_of, update}
use Rattle.machine.specs.Store.{Cut, after_writes, commits_in}
use Rattle.machine.specs.Faults.{Fault}
use Rattle.machine.specs.Plans.{Table, View, Run, is_dirty, stay, and_then, dirty_count, evict, evict_lowest, lowest, evict_until}
use Rattle.tree.specs.SlotTable.{Lowest}
use Rattle.controller.specs.Views.{view_in, Fits}
use Rattle.controller.specs.Runs.{Went}
use Rattle.controller.specs.Registers.{LeftSlot}
use Rattle.machine.proofs.Basics.{sum_zero, first_some, update_same, update_other, none≢some}
use Rattle.machine.proofs.EightAry.{eight_trees}
use Rattle.controller.proofs.Chains.{went_both, went_first}

-- Nothing to do is done.
pub went_stay : (m : Meaning) (t : Table) (n : ℕ) → Went (stay (view_in m t)) m none m t n n
unfolding after_writes commits_in
went_stay m t n = record { done = 0; cut = still m.power; left_is = refl; says = refl; whole = λ _. refl; counted = omega arith; still = λ _. refl; lost = λ x e c. absurd (none≢some e) }
  where
    still : (p : Power) → Cut p 0 0 p
    still endless = refl
    still (writes n) = (omega arith, omega arith, (λ h. absurd (omega arith)), λ _. refl)

module _ (h : ℕ) (S : Scheme) (m : Meaning) (t : Table) (n keep : ℕ) (u : n ≡ dirty_count (eight_ary h) t) where
  abbrev v : View
  v = view_in m t

  pub until_enough : (f : ℕ) → n ≤ keep → evict_until (eight_ary h) S keep f v ≡ stay v
  unfolding evict_until
  until_enough zero k = refl
  until_enough (suc f) k = ap (λ b. cond b (stay v) (and_then (evict_lowest (eight_ary h) S v (lowest (eight_ary h) t)) (evict_until (eight_ary h) S keep f))) (ap (λ x. leb x keep) (sym u) ∙ le-leb n keep k)

  pub until_over : evict_until (eight_ary h) S keep 0 v ≡ stay v
  unfolding evict_until
  until_over = refl

  pub until_more : (f a : ℕ) → keep < n → Lowest (eight_ary h) t a → and_then (evict (eight_ary h) S v a) (evict_until (eight_ary h) S keep f) ≡ evict_until (eight_ary h) S keep (suc f) v
  unfolding evict_until
  until_more f a k L =
      sym (ap (λ b. cond b (stay v) (and_then (evict_lowest (eight_ary h) S v (lowest (eight_ary h) t)) (evict_until (eight_ary h) S keep f))) (ap (λ x. leb x keep) (sym u) ∙ lt-leb n keep k)
      ∙ ap (λ o. and_then (evict_lowest (eight_ary h) S v o) (evict_until (eight_ary h) S keep f)) L.is)

-- How many turns are left at most: the lines from the lowest dirty node up.
turns_from : ℕ → Option ℕ → ℕ
turns_from h (some a) = lines_of h - a
turns_from h none = 0

pub turns_left : ℕ → Table → ℕ
turns_left h t = turns_from h (lowest (eight_ary h) t)

-- A turn leaves fewer.
pub turns_fall : (h : ℕ) {m : Meaning} → Fits h m → (t t' : Table) (a : ℕ) → Lowest (eight_ary h) t a → LeftSlot (eight_ary h) a t none t' → turns_left h t' < turns_left h t
unfolding turns_left turns_from
turns_fall h F t t' a L O = subst (λ o. turns_from h (lowest (eight_ary h) t') < turns_from h o) (sym L.is) (go (lowest (eight_ary h) t') refl)
  where
    up : a < 8 ^ h + a / 8
    up = (eight_trees h F.low F.high).parent_above a L.range

    clean : (q : ℕ) → q < a + 1 → is_dirty (t' q) ≡ false
    clean q n = at (cases_eq q a)
      where
        at : (q ≡ a) ⊎ (q ≡ a → ⊥) → is_dirty (t' q) ≡ false
        at (inl e) = ap is_dirty (O refl q (omega (arith, up)) ∙ update_same t a none q e)
        at (inr e) = ap is_dirty (O refl q (omega (arith, up)) ∙ update_other t a none q e) ∙ L.below q (omega (arith, e))

    go : (o : Option ℕ) → lowest (eight_ary h) t' ≡ o → turns_from h o < lines_of h - a
    go none e = omega (arith, L.range)
    go (some b) e = past (first_some (lines_of h) (λ p. is_dirty (t' p)) b e) (cases_lt a b)
      where
        past : (b < lines_of h) × (is_dirty (t' b) ≡ true) × ((i : ℕ) → i < b → is_dirty (t' i) ≡ false) → (a < b) ⊎ (b ≤ a) → lines_of h - b < lines_of h - a
        past d (inl k) = omega (arith, L.range)
        past d (inr k) = absurd (both_ways true (sym d.1 ∙ clean b (omega arith)) refl)

-- The run w from board m₀ and n₀ commits has come to these: so many turns are left, and whatever comes of them comes of the whole.
pub record Turns (h : ℕ) (S : Scheme) (keep : ℕ) (w : Run) (m₀ : Meaning) (n₀ : ℕ) (m : Meaning) (t : Table) (n : ℕ) : Type 0 where
  pub left : ℕ
  pub enough : turns_left h t ≤ left
  pub most : left ≤ lines_of h
  pub tally : n + 4680 * left ≤ n₀ + 4680 * lines_of h
  pub comes : (o : Option Fault) (m' : Meaning) (t' : Table) (n' : ℕ) → Went (evict_until (eight_ary h) S keep left (view_in m t)) m o m' t' n n' → Went w m₀ o m' t' n₀ n'

-- All turns are left.
pub turns_start : (h : ℕ) (S : Scheme) (keep : ℕ) (m : Meaning) (t : Table) (n : ℕ) → Turns h S keep (evict_until (eight_ary h) S keep (lines_of h) (view_in m t)) m n m t n
unfolding turns_left turns_from
turns_start h S keep m t n = record { left = lines_of h; enough = from (lowest (eight_ary h) t); most = omega arith; tally = omega arith; comes = λ o m' t' n' W. W }
  where
    from : (o : Option ℕ) → turns_from h o ≤ lines_of h
    from (some a) = omega arith
    from none = omega arith

module _ {h : ℕ} {S : Scheme} {keep : ℕ} {w : Run} {m₀ : Meaning} {n₀ : ℕ} {m : Meaning} {t : Table} {n : ℕ} (d : Turns h S keep w m₀ n₀ m t n) (u : ℕ) (e : u ≡ dirty_count (eight_ary h) t) where
  -- At most so many are dirty.
  pub turns_done : u ≤ keep → Went w m₀ none m t n₀ n
  turns_done k = d.comes none m t n (subst (λ (r : Run). Went r m none m t n n) (sym (until_enough h S m t u keep e d.left k)) (went_stay m t n))

  module _ (a : ℕ) (k : keep < u) (L : Lowest (eight_ary h) t a) where
    some_left : (f : ℕ) → turns_left h t ≤ f → (g : ℕ) × (suc g ≡ f)
    unfolding turns_left turns_from
    some_left zero j = absurd (omega (arith, subst (λ o. turns_from h o ≤ 0) L.is j, L.range))
    some_left (suc g) j = (g, refl)

    -- One more turn's commits.
    pub turns_tally : n + 4680 ≤ n₀ + 4680 * lines_of h
    turns_tally = let f = some_left d.left d.enough in omega (arith, d.tally, f.1)

    one : (g : ℕ) → suc g ≡ d.left → and_then (evict (eight_ary h) S (view_in m t) a) (evict_until (eight_ary h) S keep g) ≡ evict_until (eight_ary h) S keep d.left (view_in m t)
    one g f = until_more h S m t u keep e g a k L ∙ ap (λ x. evict_until (eight_ary h) S keep x (view_in m t)) f

    pub turns_stop : {m₁ : Meaning} {t₁ : Table} {n₁ : ℕ} (x : Fault) → Went (evict (eight_ary h) S (view_in m t) a) m (some x) m₁ t₁ n n₁ → Went w m₀ (some x) m₁ t₁ n₀ n₁
    turns_stop {m₁} {t₁} {n₁} x y = let f = some_left d.left d.enough in d.comes (some x) m₁ t₁ n₁ (went_first (evict_until (eight_ary h) S keep f.0) (one f.0 f.1) y)

    pub turns_more : {m₁ : Meaning} {t₁ : Table} {n₁ : ℕ} → Fits h m → Went (evict (eight_ary h) S (view_in m t) a) m none m₁ t₁ n n₁ → n₁ ≤ n + 4680 → LeftSlot (eight_ary h) a t none t₁ → Turns h S keep w m₀ n₀ m₁ t₁ n₁
    turns_more {m₁} {t₁} {n₁} F y j O =
        let f = some_left d.left d.enough in
        record {
          left = f.0;
          enough = omega (arith, turns_fall h F t t₁ a L O, d.enough, f.1);
          most = omega (arith, d.most, f.1);
          tally = omega (arith, d.tally, f.1, j);
          comes = λ o m' t' n' z. d.comes o m' t' n' (went_both (evict_until (eight_ary h) S keep f.0) (one f.0 f.1) y z);
        }

-- After a turn, no node up to the one evicted is dirty.
pub next_below : (h : ℕ) (t t' : Table) (a i : ℕ) {m : Meaning} → Fits h m → Lowest (eight_ary h) t a → ((q : ℕ) → q < i → is_dirty (t q) ≡ false) → LeftSlot (eight_ary h) a t none t' → (q : ℕ) → q < i + 1 → is_dirty (t' q) ≡ false
next_below h t t' a i F L f O q n = go (cases_order q a)
  where
    up : a < 8 ^ h + a / 8
    up = (eight_trees h F.low F.high).parent_above a L.range

    late : i ≤ a
    late = pick (cases_lt a i)
      where
        pick : (a < i) ⊎ (i ≤ a) → i ≤ a
        pick (inl x) = absurd (both_ways (is_dirty (t a)) (f a x) L.dirty)
        pick (inr x) = x

    go : (q ≡ a) ⊎ ((q < a) ⊎ (a < q)) → is_dirty (t' q) ≡ false
    go (inl e) = ap is_dirty (O refl q (omega (arith, up)) ∙ update_same t a none q e)
    go (inr (inl e)) = ap is_dirty (O refl q (omega (arith, up)) ∙ update_other t a none q (λ x. omega arith)) ∙ L.below q e
    go (inr (inr e)) = absurd (omega (arith, late))

-- A leaf that is not dirty is not after a turn.
pub next_leaf : (h : ℕ) (t t' : Table) (a : ℕ) → Lowest (eight_ary h) t a → LeftSlot (eight_ary h) a t none t' → (q : ℕ) → q < 8 ^ h + 8 ^ h / 8 → t q ≡ none → t' q ≡ none
next_leaf h t t' a L O q k f = O refl q (omega (arith, L.node)) ∙ go (cases_eq q a)
  where
    go : (q ≡ a) ⊎ (q ≡ a → ⊥) → update t a none q ≡ none
    go (inl x) = update_same t a none q x
    go (inr x) = update_other t a none q x ∙ f

-- Where no node is dirty, none is counted.
pub all_clean : (h : ℕ) (t : Table) → ((q : ℕ) → q < lines_of h → is_dirty (t q) ≡ false) → dirty_count (eight_ary h) t ≡ 0
unfolding dirty_count
all_clean h t f = sum_zero (lines_of h) (λ p. cond (is_dirty (t p)) 1 0) (λ p k. ap (λ b. cond b 1 0) (f p k))
