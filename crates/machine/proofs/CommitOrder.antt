-- The orders of commits over the log alone: what evicting leaves, and that every order can be carried out.
use Rattle.std.proofs.Common.{◌≡◌, ℕ, zero, suc, ◌+◌, ◌<◌, ◌≤◌, cond, ltb, ◌⊎◌, [], ◌∷◌, ◌++◌, sym, refl, ap, ◌∙◌, subst, inl, inr, arith}
use mathlib.Core.Option.{Option, some, none}
use Rattle.std.proofs.lemmas.Bool.{cases_lt, ltb-true, ltb-false}
use Rattle.std.proofs.lemmas.List.{append_assoc}
use Rattle.suite.specs.Scheme.{Body}
use Rattle.machine.specs.Layout.{Shape, TreeLaws, first}
use Rattle.machine.specs.Store.{Commit, Log}
use Rattle.machine.specs.History.{counter_in}
use Rattle.machine.specs.CommitLaws.{pending_in, dirty_in, counters_in, with_next, Evicted, alone, parent_first, EvictedUntil, enough, lowest_first, to_come}
use Rattle.machine.proofs.Basics.{sum_zero, first_none, first_some, none≢some}
use Rattle.machine.proofs.Pending.{pending_own, pending_other}
use Rattle.machine.proofs.TrustedCounter.{root_parent, inner_parent, depth_next}

pub to_come_cons : (x : Commit) (zs : Log) (q : ℕ) → to_come zs ≡ some q → to_come (x ∷ zs) ≡ some q
unfolding to_come
to_come_cons x [] q e = absurd (none≢some e)
to_come_cons x (z ∷ zs) q e = e

pub to_come_front : (xs ys : Log) (q : ℕ) → to_come ys ≡ some q → to_come (xs ++ ys) ≡ some q
to_come_front [] ys q e = e
to_come_front (x ∷ xs) ys q e = to_come_cons x (xs ++ ys) q (to_come_front xs ys q e)

pub to_come_one : (x : Commit) → to_come (x ∷ []) ≡ some x.at
unfolding to_come
to_come_one x = refl

module _ (T : Shape) (L : TreeLaws T) where
  -- Evicting A leaves the nodes below A as they were, and A level.
  next_low : (l : Log) (A : ℕ) (b : Body) → A < T.lines → (q : ℕ) → q < A → pending_in T (with_next l A b) q ≡ pending_in T l q
  next_low l A b k q h = pending_other T l _ q (λ e. omega (arith, e)) (λ e. omega (arith, e, L.parent_above A k))

  pub out_low : {l k : Log} {A : ℕ} → A < T.lines → Evicted T l A k → (q : ℕ) → q < A → pending_in T k q ≡ pending_in T l q
  out_low {l} {k} {A} i (alone x) q h = next_low l A _ i q h
  out_low {l} {k} {A} i (parent_first {k = j} x y o) q h = next_low j A _ i q h ∙ out_low x o q (omega (arith, L.parent_above A i))

  pub out_own : {l k : Log} {A : ℕ} → Evicted T l A k → pending_in T k A ≡ 0
  out_own {l} {k} {A} (alone x) = pending_own T l _ A refl
  out_own {l} {k} {A} (parent_first {k = j} x y o) = pending_own T j _ A refl

  -- A node can always be evicted.
  pub out_sum : (r : ℕ) (l : Log) (A : ℕ) → A < T.lines → T.depth (T.parent A) ≡ r → (new : Log) × Evicted T l A (new ++ l)
  out_sum zero l A k e = (record { at = A; counter = suc (counter_in l A); body = counters_in T l A } ∷ [], alone (inl (root_parent T L A k e)))
  out_sum (suc r) l A k e = go (cases_lt (pending_in T l (T.parent A)) 1023) (out_sum r l (T.parent A) j (depth_next T L A r j e))
    where
      j : T.parent A < T.lines
      j = inner_parent T L A r k e

      go : (pending_in T l (T.parent A) < 1023) ⊎ (1023 ≤ pending_in T l (T.parent A)) → ((new : Log) × Evicted T l (T.parent A) (new ++ l)) → (new : Log) × Evicted T l A (new ++ l)
      go (inl y) ih = (record { at = A; counter = suc (counter_in l A); body = counters_in T l A } ∷ [], alone (inr y))
      go (inr y) (new, o) = (record { at = A; counter = suc (counter_in (new ++ l) A); body = counters_in T (new ++ l) A } ∷ new, parent_first j y o)

  level_dirty : (l : Log) → ((q : ℕ) → q < T.lines → pending_in T l q ≡ 0) → dirty_in T l ≡ 0
  unfolding dirty_in
  level_dirty l h = sum_zero T.lines _ (λ q k. ap (λ n. cond (ltb 0 n) 1 0) (h q k))

  pub level_few : (m : ℕ) (l : Log) → ((q : ℕ) → q < T.lines → pending_in T l q ≡ 0) → dirty_in T l ≤ m
  level_few m l h = omega (arith, level_dirty l h)

  -- What is dirty after the lowest-first was evicted.
  pub out_clears : {l k : Log} {A : ℕ} (f : ℕ) → A < T.lines → 0 < pending_in T l A → ((q : ℕ) → q < A → pending_in T l q ≡ 0) → ((q : ℕ) → q + suc f < T.lines → pending_in T l q ≡ 0) → Evicted T l A k → (q : ℕ) → q + f < T.lines → pending_in T k q ≡ 0
  out_clears {l} {k} {A} f i pos low h o q j = at (cases_lt q A)
    where
      near : (A + suc f < T.lines) ⊎ (T.lines ≤ A + suc f) → q ≤ A
      near (inl x) = absurd (omega (arith, h A x, pos))
      near (inr x) = omega arith

      at : (q < A) ⊎ (A ≤ q) → pending_in T k q ≡ 0
      at (inl y) = out_low i o q y ∙ low q y
      at (inr y) =
          let e : q ≡ A = omega (arith, near (cases_lt (A + suc f) T.lines)) in
          ap (pending_in T k) e ∙ out_own o

  freed_by : (m f : ℕ) (l : Log) → ((q : ℕ) → q + f < T.lines → pending_in T l q ≡ 0) → (new : Log) × EvictedUntil T m l (new ++ l)
  freed_by m zero l h = ([], enough (level_few m l (λ q k. h q (omega arith))))
  freed_by m (suc f) l h = go (cases_lt m (dirty_in T l)) (λ k. freed_by m f k)
    where
      dirty_few : (o : Option ℕ) → first T.lines (λ p. ltb 0 (pending_in T l p)) ≡ o → m < dirty_in T l → ((k : Log) → ((q : ℕ) → q + f < T.lines → pending_in T k q ≡ 0) → (new : Log) × EvictedUntil T m k (new ++ k)) → (new : Log) × EvictedUntil T m l (new ++ l)
      dirty_few none e y ih = absurd (omega (arith, y, level_dirty l (λ q k. omega (arith, ltb-false _ _ (first_none T.lines _ e q k)))))
      dirty_few (some A) e y ih =
          let (k, pos, low) = first_some T.lines _ A e in
          let pos' : 0 < pending_in T l A = ltb-true _ _ pos in
          let low' : (q : ℕ) → q < A → pending_in T l q ≡ 0 = λ q i. omega (arith, ltb-false _ _ (low q i)) in
          let (new, o) = out_sum (T.depth (T.parent A)) l A k refl in
          let (more, z) = ih (new ++ l) (out_clears f k pos' low' h o) in
          (more ++ new, subst (EvictedUntil T m l) (sym (append_assoc more new l)) (lowest_first y k pos' low' o z))

      go : (m < dirty_in T l) ⊎ (dirty_in T l ≤ m) → ((k : Log) → ((q : ℕ) → q + f < T.lines → pending_in T k q ≡ 0) → (new : Log) × EvictedUntil T m k (new ++ k)) → (new : Log) × EvictedUntil T m l (new ++ l)
      go (inl y) ih = dirty_few (first T.lines (λ p. ltb 0 (pending_in T l p))) refl y ih
      go (inr y) ih = ([], enough y)

  -- Nodes can always be evicted until at most m are dirty.
  pub freed_sum : (m : ℕ) (l : Log) → (new : Log) × EvictedUntil T m l (new ++ l)
  freed_sum m l = freed_by m T.lines l (λ q h. absurd (omega arith))
