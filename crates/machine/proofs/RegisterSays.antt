-- The register and the slots say what was committed.
use Rattle.std.proofs.Common.{◌≡◌, ℕ, ◌<◌, ◌≤◌, Bool, true, false, cond, ◌&&◌, ltb, ◌⊎◌, sym, refl, ap, ◌∙◌, subst, inl, inr, arith}
use mathlib.Core.Path.{fun_ext}
use mathlib.Core.Option.{Option, some, none}
use Rattle.std.proofs.lemmas.Bool.{cases_lt, lt-ltb, le-ltb, both_ways}
use Rattle.suite.specs.Scheme.{Body, Scheme}
use Rattle.machine.specs.Layout.{Shape, clip}
use Rattle.machine.specs.Store.{Register, Log}
use Rattle.machine.specs.Plans.{Slot, Table, is_dirty, dirty_count}
use Rattle.machine.specs.History.{counter_in}
use Rattle.machine.specs.CommitLaws.{pending_in, counters_in, dirty_in, RegisterLaw}
use Rattle.machine.proofs.Invariant.{Durable, Exact, Raised, SlotsHold}
use Rattle.machine.proofs.Basics.{sum_same, sum_zero}

module _ (T : Shape) (S : Scheme) (l : Log) (g : Register) (D : Durable T S l g) where
  -- A node not in the dirty map is not dirty.
  pub pending_zero : (p : ℕ) → p < T.lines → g.dirty p ≡ false → pending_in T l p ≡ 0
  pending_zero p k u = go (cases_lt p T.data_lines)
    where
      go : (p < T.data_lines) ⊎ (T.data_lines ≤ p) → pending_in T l p ≡ 0
      go (inl y) = D.flat p y
      go (inr y) = D.since p y k ∙ sum_zero (T.arity p) _ (λ i j. omega (arith, D.level p y k u i j))

  abbrev Is : ℕ → Bool
  Is p = ltb p T.lines && ltb 0 (pending_in T l p)

  pub dirty_say : (p : ℕ) → g.dirty p ≡ Is p
  dirty_say p = go (g.dirty p) refl (cases_lt p T.lines)
    where
      go : (b : Bool) → g.dirty p ≡ b → (p < T.lines) ⊎ (T.lines ≤ p) → b ≡ Is p
      go true u y = rw (lt-ltb p T.lines (D.inner p u).1, lt-ltb 0 (pending_in T l p) (D.moved p u))
      go false u (inl y) = rw (lt-ltb p T.lines y, pending_zero p y u)
      go false u (inr y) = rw (le-ltb p T.lines y)

  pub register_says : g.suite ≡ S.number → RegisterLaw S T g l
  unfolding counters_in
  register_says e =
      record {
        number = e;
        roots = D.roots;
        dirty = dirty_say;
        dirty_sum = D.dirty_sum ∙ sum_same T.lines _ _ (λ p k. ap (λ n. cond (g.dirty p) n 0) (sum_same (T.arity p) (λ i. counter_in l (T.child p i)) (clip (T.arity p) (λ i. counter_in l (T.child p i))) (λ i j. rw (lt-ltb i (T.arity p) j))));
        journal = D.newest;
        inside = D.known;
        small = D.small;
      }

  slot_is : (c d : Body) (m n : ℕ) → c ≡ d → m ≡ n → ◌≡◌ {A = Slot} (record { counters = c; pending = m }) (record { counters = d; pending = n })
  slot_is c d m n e f = λ i. record { counters = e i; pending = f i }

  -- A function that has a node's counters, and nothing else, is they.
  pub counters_are : (p : ℕ) (f : Body) → ((i : ℕ) → i < T.arity p → f i ≡ counter_in l (T.child p i)) → ((i : ℕ) → T.arity p ≤ i → f i ≡ 0) → f ≡ counters_in T l p
  unfolding counters_in
  counters_are p f x y = fun_ext (λ i. at i (cases_lt i (T.arity p)))
    where
      at : (i : ℕ) → (i < T.arity p) ⊎ (T.arity p ≤ i) → f i ≡ clip (T.arity p) (λ i. counter_in l (T.child p i)) i
      at i (inl k) = rw (lt-ltb i (T.arity p) k) (x i k)
      at i (inr k) = rw (le-ltb i (T.arity p) k) (y i k)

  module _ (t : Table) (O : SlotsHold T l g.dirty t) where
    pub slots : (p : ℕ) → t p ≡ cond (ltb p T.lines && ltb 0 (pending_in T l p)) (some (record { counters = counters_in T l p; pending = pending_in T l p })) none
    slots p = go (t p) refl (O.exact p) (O.raised p)
      where
        go : (o : Option Slot) → t p ≡ o → Exact T l g.dirty o p → Raised T l o p → o ≡ cond (Is p) (some (record { counters = counters_in T l p; pending = pending_in T l p })) none
        go (some s) e x r =
            let (n, k) = D.inner p x.0 in
            rw (sym (dirty_say p), x.0) (ap some (slot_is s.counters (counters_in T l p) s.pending (pending_in T l p) (counters_are p s.counters x.1 (O.bare p s e)) (r ∙ sym (D.since p n k))))
        go none e x r = rw (sym (dirty_say p), x)

    -- Slots in use are the nodes dirty.
    pub used_dirty : dirty_count T t ≡ dirty_in T l
    unfolding dirty_count dirty_in
    used_dirty = sum_same T.lines _ _ (λ p k. go p k (t p) (O.exact p))
      where
        go : (p : ℕ) → p < T.lines → (o : Option Slot) → Exact T l g.dirty o p → ◌≡◌ {A = ℕ} (cond (is_dirty o) 1 0) (cond (ltb 0 (pending_in T l p)) 1 0)
        go p k (some s) x = rw (lt-ltb 0 (pending_in T l p) (D.moved p x.0))
        go p k none x = rw (pending_zero p k x)

    pub held_pending : (p : ℕ) → is_dirty (t p) ≡ true → 0 < pending_in T l p
    held_pending p h = go (t p) (O.exact p) h
      where
        go : (o : Option Slot) → Exact T l g.dirty o p → is_dirty o ≡ true → 0 < pending_in T l p
        go (some s) x h = D.moved p x.0
        go none x h = absurd (both_ways _ refl h)

    pub free_level : (p : ℕ) → p < T.lines → is_dirty (t p) ≡ false → pending_in T l p ≡ 0
    free_level p k h = go (t p) (O.exact p) h
      where
        go : (o : Option Slot) → Exact T l g.dirty o p → is_dirty o ≡ false → pending_in T l p ≡ 0
        go (some s) x h = absurd (both_ways _ h refl)
        go none x h = pending_zero p k x

    pub slot_pending : (p : ℕ) (s : Slot) → t p ≡ some s → s.pending ≡ pending_in T l p
    slot_pending p s e = go (subst (λ o. Exact T l g.dirty o p) e (O.exact p)) (subst (λ o. Raised T l o p) e (O.raised p))
      where
        go : Exact T l g.dirty (some s) p → Raised T l (some s) p → s.pending ≡ pending_in T l p
        go x r = let (n, k) = D.inner p x.0 in r ∙ sym (D.since p n k)
