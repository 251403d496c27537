-- Evicting a node, one step at a time.
use Rattle.std.proofs.Common.{◌≡◌, ℕ, zero, suc, ◌+◌, ◌/◌, ◌%◌, ◌^◌, ◌<◌, ◌≤◌, Bool, true, false, cond, eqb, leb, nat_lt, ◌⊎◌, sym, refl, ap, ◌∙◌, subst, inl, inr, arith}
use mathlib.Core.Option.{Option, some, none}
use Rattle.std.proofs.lemmas.Bool.{lt-ltb, le-ltb, leb-true, leb-false, and_parts, both_ways, cases_Bool, cases_lt}
use Rattle.suite.specs.Scheme.{Body, Scheme, right}
use Rattle.board.specs.Meaning.{Meaning, Power, endless, writes}
use Rattle.machine.specs.Layout.{TreeLaws, update, eight_ary, lines_of, every, counter_limit}
use Rattle.machine.specs.Store.{Cut, after_writes, commits_in}
use Rattle.machine.specs.Words.{register_in, memory_in}
use Rattle.machine.specs.Faults.{Fault, number, fault, Outcome, ok, err, corrupt, power_lost, at_limit}
use Rattle.machine.specs.Plans.{Table, View, Run, Slot, is_dirty, slot_counters, held, in_line, node_valid, stay, stop, and_then, counter_at, counter_of, commit_under, commit_at, commit, overdue, evict_now, evict_overdue, evict}
use Rattle.machine.specs.Layouts.{shape_in}
use Rattle.machine.specs.declared.layout.Layout.{Layout}
use Rattle.controller.specs.Views.{view_in, Fits}
use Rattle.controller.specs.Runs.{Went}
use Rattle.controller.specs.Registers.{Room, RoomAt, SmallAt, LeftSlot, SameBelow, next_counter}
use Rattle.machine.proofs.Basics.{update_same, update_other, every_at, err≢ok, some_inj}
use Rattle.machine.proofs.Trails.{raise_other}
use Rattle.machine.proofs.EightAry.{eight_trees}
use Rattle.machine.proofs.Steps.{evict_under_root, evict_under_node}
use Rattle.controller.proofs.Chains.{went_view}
use Rattle.controller.proofs.CounterSteps.{counter_node}

-- A fault before any write.
pub went_none : (m : Meaning) (t : Table) (x : Fault) (n : ℕ) → (x.cause ≡ power_lost → ⊥) → Went (stop (view_in m t) x) m (some x) m t n n
unfolding after_writes commits_in
went_none m t x n h = record { done = 0; cut = still m.power; left_is = refl; says = refl; whole = λ _. refl; counted = omega arith; still = λ _. refl; lost = λ y e c. absurd (h (ap (λ (z : Fault). z.cause) (some_inj e) ∙ c)) }
  where
    still : (p : Power) → Cut p 0 0 p
    still endless = refl
    still (writes n) = (omega arith, omega arith, (λ h. absurd (omega arith)), λ _. refl)

-- A commit by the counter after the current one.
module _ (h : ℕ) (S : Scheme) (v : View) (t : Table) (a : ℕ) (b : Body) where
  pub commit_stops : (o : Outcome ℕ) (x : Fault) → err x ≡ next_counter a o → commit_at (eight_ary h) S v t a b o ≡ stop v x
  commit_stops (err y) x e = cc
  commit_stops (ok c) x e = go (nat_lt c counter_limit) e
    where
      go : (z : Bool) → err x ≡ cond z (ok (suc c)) (err (fault at_limit a)) → cond z (commit_under (eight_ary h) S v.memory v.register t a b (suc c)) (stop v (fault at_limit a)) ≡ stop v x
      go true e = absurd (cc)
      go false e = cc

  pub commit_goes : (o : Outcome ℕ) (c : ℕ) → ok c ≡ next_counter a o → commit_under (eight_ary h) S v.memory v.register t a b c ≡ commit_at (eight_ary h) S v t a b o
  commit_goes (err y) c e = absurd (cc)
  commit_goes (ok d) c e = go (nat_lt d counter_limit) e
    where
      go : (z : Bool) → ok c ≡ cond z (ok (suc d)) (err (fault at_limit a)) → commit_under (eight_ary h) S v.memory v.register t a b c ≡ cond z (commit_under (eight_ary h) S v.memory v.register t a b (suc d)) (stop v (fault at_limit a))
      go true e = cc
      go false e = absurd (cc)

-- The next counter is within the limit, and there is a current one before it.
pub next_within : (a c : ℕ) (o : Outcome ℕ) → ok c ≡ next_counter a o → (c ≤ counter_limit) × ((d : ℕ) × (ok d ≡ o))
next_within a c (err y) e = absurd (cc)
next_within a c (ok d) e = go (cases_lt d counter_limit)
  where
    go : (d < counter_limit) ⊎ (counter_limit ≤ d) → (c ≤ counter_limit) × ((x : ℕ) × (ok x ≡ ok d))
    go (inl k) = let f : ok c ≡ ok (suc d) = e ∙ ap (λ z. cond z (ok (suc d)) (err (fault at_limit a))) (lt-ltb d counter_limit k) in let g : c ≡ suc d = cc in (omega (arith, g), (d, refl))
    go (inr k) = let f : ok c ≡ err (fault at_limit a) = e ∙ ap (λ z. cond z (ok (suc d)) (err (fault at_limit a))) (le-ltb d counter_limit k) in absurd (cc)

pub went_refused : {r : Run} (m : Meaning) (t : Table) (x : Fault) (n : ℕ) → r ≡ stop (view_in m t) x → (x.cause ≡ power_lost → ⊥) → Went r m (some x) m t n n
went_refused m t x n e h = subst (λ (r : Run). Went r m (some x) m t n n) (sym e) (went_none m t x n h)

module _ (h : ℕ) (S : Scheme) (m : Meaning) (t : Table) (a : ℕ) where
  abbrev v : View
  v = view_in m t

  pub now_stops : (x : Fault) → err x ≡ next_counter a (counter_of (eight_ary h) S v a) → evict_now (eight_ary h) S v a ≡ stop v x
  unfolding evict_now commit
  now_stops x e = commit_stops h S v (update t a none) a (slot_counters (t a)) (counter_of (eight_ary h) S v a) x e

  pub now_commits : (c : ℕ) → ok c ≡ next_counter a (counter_of (eight_ary h) S v a) → (t' : Table) → t' ≡ update t a none → (b : Body) → b ≡ slot_counters (t a) → commit_under (eight_ary h) S (memory_in m.lines) (register_in m.register) t' a b c ≡ evict_now (eight_ary h) S v a
  unfolding evict_now commit
  now_commits c e t' f b g = (λ i. commit_under (eight_ary h) S v.memory v.register (f i) a (g i) c) ∙ commit_goes h S v (update t a none) a (slot_counters (t a)) (counter_of (eight_ary h) S v a) c e

  module _ (F : Fits h m) (k : a < lines_of h) where
    L : TreeLaws (eight_ary h)
    L = eight_trees h F.low F.high

    up : a < 8 ^ h + a / 8
    up = L.parent_above a k

    -- The parent's slot is another than the node's.
    pub parent_kept : (t' : Table) → t' ≡ update t a none → t' (8 ^ h + a / 8) ≡ t (8 ^ h + a / 8)
    parent_kept t' e = ap (λ (w : Table). w (8 ^ h + a / 8)) e ∙ update_other t a none (8 ^ h + a / 8) (λ x. omega (arith, up))

    pub room_after : (t' : Table) (used : ℕ) → t' ≡ update t a none → (8 ^ h + a / 8 < lines_of h → overdue (t (8 ^ h + a / 8)) ≡ false) → used < 64 → RoomAt (eight_ary h) a used t'
    room_after t' used e f n x = subst (Room used) (sym (parent_kept t' e)) (at (t (8 ^ h + a / 8)) (f x))
      where
        at : (o : Option Slot) → overdue o ≡ false → Room used o
        at (some s) y = leb-false 1023 s.pending y
        at none y = n

    pub small_after : (c : ℕ) → ok c ≡ counter_of (eight_ary h) S v a → (t' : Table) → t' ≡ update t a none → SmallAt (eight_ary h) a (view_in m t')
    unfolding node_valid
    small_after c e t' f x y j z = leb-true ((memory_in m.lines (8 ^ h + a / 8)).words j) counter_limit (every_at 8 (λ i. leb ((memory_in m.lines (8 ^ h + a / 8)).words i) counter_limit) (and_parts (right S (8 ^ h + a / 8) fine.0 (memory_in m.lines (8 ^ h + a / 8))) (every 8 (λ i. leb ((memory_in m.lines (8 ^ h + a / 8)).words i) counter_limit)) fine.1).1 j z)
      where
        from : (r : Outcome ℕ) → ok c ≡ in_line (eight_ary h) S (memory_in m.lines) (8 ^ h + a / 8) (a % 8) r → (d : ℕ) × (node_valid (eight_ary h) S (memory_in m.lines) (8 ^ h + a / 8) d ≡ true)
        from (ok d) g = (d, go (cases_Bool (node_valid (eight_ary h) S (memory_in m.lines) (8 ^ h + a / 8) d)))
          where
            go : (node_valid (eight_ary h) S (memory_in m.lines) (8 ^ h + a / 8) d ≡ true) ⊎ (node_valid (eight_ary h) S (memory_in m.lines) (8 ^ h + a / 8) d ≡ false) → node_valid (eight_ary h) S (memory_in m.lines) (8 ^ h + a / 8) d ≡ true
            go (inl u) = u
            go (inr u) = absurd (err≢ok (sym (g ∙ ap (λ b. cond b (ok ((memory_in m.lines (8 ^ h + a / 8)).words (a % 8))) (err (fault corrupt (8 ^ h + a / 8)))) u)))
        from (err r) g = absurd (err≢ok (sym g))

        fine : (d : ℕ) × (node_valid (eight_ary h) S (memory_in m.lines) (8 ^ h + a / 8) d ≡ true)
        fine = from (counter_of (eight_ary h) S v (8 ^ h + a / 8)) (e ∙ counter_node (eight_ary h) L S v a k x ∙ ap (λ o. held o (a % 8) (in_line (eight_ary h) S (memory_in m.lines) (8 ^ h + a / 8) (a % 8) (counter_of (eight_ary h) S v (8 ^ h + a / 8)))) (sym (parent_kept t' f) ∙ y))

    -- The next counter comes after a current one.
    pub next_small_after : (c : ℕ) → ok c ≡ next_counter a (counter_of (eight_ary h) S v a) → (t' : Table) → t' ≡ update t a none → SmallAt (eight_ary h) a (view_in m t')
    next_small_after c e = let now = (next_within a c (counter_of (eight_ary h) S v a) e).1 in small_after now.0 now.1

    pub left_after : (t' : Table) → t' ≡ update t a none → (b : Body) (c : ℕ) (o : Option Fault) (m'' : Meaning) (t'' : Table) (n n' : ℕ) → Went (commit_under (eight_ary h) S (memory_in m.lines) (register_in m.register) t' a b c) m o m'' t'' n n' → LeftSlot (eight_ary h) a t o t''
    left_after t' f b c o m'' t'' n n' w e q x =
        let g = went_view (commit_under (eight_ary h) S (memory_in m.lines) (register_in m.register) t' a b c) m m'' t'' n n' (subst (λ (z : Option Fault). Went (commit_under (eight_ary h) S (memory_in m.lines) (register_in m.register) t' a b c) m z m'' t'' n n') e w) in
        ap (λ (z : View). z.table q) g ∙ raise_other (eight_ary h) S ((eight_ary h).depth (8 ^ h + a / 8)) (view_in m t') t' a c q (λ y. omega (arith, up)) ∙ ap (λ (z : Table). z q) f

pub overdue_dirty : (o : Option Slot) → true ≡ overdue o → is_dirty o ≡ true
overdue_dirty (some s) e = refl
overdue_dirty none e = absurd (both_ways true e refl)

-- The parent's address, by the layout as the code read it, and that it is above the line's.
pub parent_is : {y z : Layout} (a : ℕ) {p : ℕ} → y ≡ z → p ≡ (shape_in y).parent a → p ≡ 8 ^ z.levels + a / 8
parent_is a e q = q ∙ ap (λ (x : Layout). (shape_in x).parent a) e

pub above : {h a p : ℕ} {m : Meaning} → Fits h m → a < lines_of h → p ≡ 8 ^ h + a / 8 → a < p
above {h} {a} F k q = omega (arith, q, (eight_trees h F.low F.high).parent_above a k)

module _ (h : ℕ) (S : Scheme) (m : Meaning) (t : Table) (a : ℕ) (F : Fits h m) (k : a < lines_of h) (p : ℕ) (q : p ≡ 8 ^ h + a / 8) where
  -- An overdue parent first; the root has no slot.
  pub evict_steps : (lines_of h ≤ p → t p ≡ none) → and_then (evict_overdue (eight_ary h) S (view_in m t) p) (λ u. evict_now (eight_ary h) S u a) ≡ evict (eight_ary h) S (view_in m t) a
  evict_steps f = go (cases_lt p (lines_of h))
    where
      either : (b : Bool) → and_then (cond b (evict (eight_ary h) S (view_in m t) p) (stay (view_in m t))) (λ u. evict_now (eight_ary h) S u a) ≡ cond b (and_then (evict (eight_ary h) S (view_in m t) p) (λ u. evict_now (eight_ary h) S u a)) (evict_now (eight_ary h) S (view_in m t) a)
      either true = refl
      either false = refl

      go : (p < lines_of h) ⊎ (lines_of h ≤ p) → and_then (evict_overdue (eight_ary h) S (view_in m t) p) (λ u. evict_now (eight_ary h) S u a) ≡ evict (eight_ary h) S (view_in m t) a
      go (inl n) =
          either (overdue (t p))
          ∙ ap (λ x. cond (overdue (t x)) (and_then (evict (eight_ary h) S (view_in m t) x) (λ u. evict_now (eight_ary h) S u a)) (evict_now (eight_ary h) S (view_in m t) a)) q
          ∙ sym (evict_under_node (eight_ary h) (eight_trees h F.low F.high) a S (view_in m t) (subst (λ x. x < lines_of h) q n))
      go (inr n) =
          ap (λ o. and_then (cond (overdue o) (evict (eight_ary h) S (view_in m t) p) (stay (view_in m t))) (λ u. evict_now (eight_ary h) S u a)) (f n)
          ∙ sym (evict_under_root (eight_ary h) (eight_trees h F.low F.high) a S (view_in m t) (omega (arith, q, (eight_trees h F.low F.high).parent_in a k)))

  pub evict_first : p < lines_of h → true ≡ overdue (t p) → and_then (evict (eight_ary h) S (view_in m t) p) (λ u. evict_now (eight_ary h) S u a) ≡ evict (eight_ary h) S (view_in m t) a
  evict_first n o =
      ap (λ x. and_then (evict (eight_ary h) S (view_in m t) x) (λ u. evict_now (eight_ary h) S u a)) q
      ∙ ap (λ b. cond b (and_then (evict (eight_ary h) S (view_in m t) (8 ^ h + a / 8)) (λ u. evict_now (eight_ary h) S u a)) (evict_now (eight_ary h) S (view_in m t) a)) (o ∙ ap (λ x. overdue (t x)) q)
      ∙ sym (evict_under_node (eight_ary h) (eight_trees h F.low F.high) a S (view_in m t) (subst (λ x. x < lines_of h) q n))

  pub evict_only : (p < lines_of h → overdue (t p) ≡ false) → evict_now (eight_ary h) S (view_in m t) a ≡ evict (eight_ary h) S (view_in m t) a
  evict_only f = go (cases_lt p (lines_of h))
    where
      go : (p < lines_of h) ⊎ (lines_of h ≤ p) → evict_now (eight_ary h) S (view_in m t) a ≡ evict (eight_ary h) S (view_in m t) a
      go (inl n) = ap (λ b. cond b (and_then (evict (eight_ary h) S (view_in m t) (8 ^ h + a / 8)) (λ u. evict_now (eight_ary h) S u a)) (evict_now (eight_ary h) S (view_in m t) a)) (sym (f n) ∙ ap (λ x. overdue (t x)) q) ∙ sym (evict_under_node (eight_ary h) (eight_trees h F.low F.high) a S (view_in m t) (subst (λ x. x < lines_of h) q n))
      go (inr n) = sym (evict_under_root (eight_ary h) (eight_trees h F.low F.high) a S (view_in m t) (omega (arith, q, (eight_trees h F.low F.high).parent_in a k)))

-- An evicted node is not overdue, and below it the slots are those of before.
module _ (h a : ℕ) (m : Meaning) (F : Fits h m) (k : a < lines_of h) (t t' : Table) (o : Option Fault) (O : LeftSlot (eight_ary h) a t o t') where
  pub left_rested : o ≡ none → overdue (t' a) ≡ false
  left_rested e = ap overdue (O e a ((eight_trees h F.low F.high).parent_above a k) ∙ update_same t a none a refl)

  pub left_below : SameBelow a t o t'
  left_below e q n = O e q (omega (arith, (eight_trees h F.low F.high).parent_above a k)) ∙ update_other t a none q (λ x. omega arith)

-- After the parent the node is as dirty as before, the parent's slot is not overdue, and the node leaves of the slots what it alone leaves.
module _ (h : ℕ) (S : Scheme) (m : Meaning) (t : Table) (a : ℕ) (F : Fits h m) (k : a < lines_of h) (p : ℕ) (q : p ≡ 8 ^ h + a / 8) (t₁ : Table) (O : LeftSlot (eight_ary h) p t none t₁) (j : p < lines_of h) where
  pub still_dirty : is_dirty (t a) ≡ true → is_dirty (t₁ a) ≡ true
  still_dirty e = ap is_dirty (left_below h p m F j t t₁ none O refl a (above F k q)) ∙ e

  pub evicted_rested : overdue (t₁ (8 ^ h + a / 8)) ≡ false
  evicted_rested = ap (λ x. overdue (t₁ x)) (sym q) ∙ left_rested h p m F j t t₁ none O refl

  pub left_both : (o : Option Fault) (t₂ : Table) → LeftSlot (eight_ary h) a t₁ o t₂ → LeftSlot (eight_ary h) a t o t₂
  left_both o t₂ P e x n = P e x n ∙ ap (λ z. cond (eqb x a) none z) (left_below h p m F j t t₁ none O refl x (omega (arith, q)))

-- The way to a counter is refused by corrupt lines only.
counter_at_corrupt : (h : ℕ) (S : Scheme) (v : View) (r a : ℕ) (x : Fault) → err x ≡ counter_at (eight_ary h) S v r a → x.cause ≡ corrupt
unfolding counter_at
counter_at_corrupt h S v zero a x e = absurd (err≢ok e)
counter_at_corrupt h S v (suc r) a x e = slot (v.table (8 ^ h + a / 8)) (λ y i. counter_at_corrupt h S v r (8 ^ h + a / 8) y i) e
  where
    line_of : (z : Outcome ℕ) → ((y : Fault) → err y ≡ z → y.cause ≡ corrupt) → err x ≡ in_line (eight_ary h) S v.memory (8 ^ h + a / 8) (a % 8) z → x.cause ≡ corrupt
    line_of (err y) f g = f x g
    line_of (ok c) f g = go (node_valid (eight_ary h) S v.memory (8 ^ h + a / 8) c) g
      where
        go : (b : Bool) → err x ≡ cond b (ok ((v.memory (8 ^ h + a / 8)).words (a % 8))) (err (fault corrupt (8 ^ h + a / 8))) → x.cause ≡ corrupt
        go true k = absurd (err≢ok k)
        go false k = ap (λ (y : Fault). y.cause) (err_inj k)
          where
            err_inj : {y z : Fault} → ◌≡◌ {A = Outcome ℕ} (err y) (err z) → y ≡ z
            err_inj {y} {z} i = ap from i
              where
                from : Outcome ℕ → Fault
                from (ok c) = y
                from (err w) = w

    slot : (o : Option Slot) → ((y : Fault) → err y ≡ counter_at (eight_ary h) S v r (8 ^ h + a / 8) → y.cause ≡ corrupt) → err x ≡ held o (a % 8) (in_line (eight_ary h) S v.memory (8 ^ h + a / 8) (a % 8) (counter_at (eight_ary h) S v r (8 ^ h + a / 8))) → x.cause ≡ corrupt
    slot (some s) ih g = absurd (err≢ok g)
    slot none ih g = line_of (counter_at (eight_ary h) S v r (8 ^ h + a / 8)) ih g

pub next_kept : (h : ℕ) (S : Scheme) (v : View) (a : ℕ) (x : Fault) → err x ≡ next_counter a (counter_of (eight_ary h) S v a) → x.cause ≡ power_lost → ⊥
unfolding counter_of
next_kept h S v a x e f = go (counter_of (eight_ary h) S v a) refl e
  where
    go : (o : Outcome ℕ) → o ≡ counter_of (eight_ary h) S v a → err x ≡ next_counter a o → ⊥
    go (err y) g e = let z : x ≡ y = cc in omega (arith, ap number (sym (counter_at_corrupt h S v ((eight_ary h).depth (8 ^ h + a / 8)) a y g) ∙ sym (ap (λ (r : Fault). r.cause) z) ∙ f))
    go (ok c) g e = at (nat_lt c counter_limit) e
      where
        at : (z : Bool) → err x ≡ cond z (ok (suc c)) (err (fault at_limit a)) → ⊥
        at true e = cc
        at false e = let z : x ≡ fault at_limit a = cc in omega (arith, ap number (sym (ap (λ (r : Fault). r.cause) z) ∙ f))
