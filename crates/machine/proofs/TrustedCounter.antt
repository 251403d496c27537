-- The current counter of a line: found exactly when the way down stands.
use Rattle.std.proofs.Common.{◌≡◌, ℕ, zero, suc, ◌<◌, ◌≤◌, Bool, true, false, cond, ◌⊎◌, sym, refl, ap, ◌∙◌, subst, inl, inr, ⊎_elim, arith}
use mathlib.Core.Option.{Option, some, none}
use Rattle.std.proofs.lemmas.Bool.{cases_lt, both_ways}
use Rattle.suite.specs.Scheme.{Scheme, right}
use Rattle.machine.specs.Layout.{Shape, TreeLaws}
use Rattle.machine.specs.Store.{Log}
use Rattle.machine.specs.Faults.{Fault, fault, Outcome, ok, err, corrupt}
use Rattle.machine.specs.Plans.{Slot, View, node_valid, held, in_line, counter_at}
use Rattle.machine.specs.History.{counter_in}
use Rattle.machine.specs.Laws.{Stands, Rests, itself, above}
use Rattle.machine.proofs.Invariant.{Durable, Fine, Exact}
use Rattle.machine.proofs.Basics.{ok_inj, err_inj, err≢ok, cond_ok}
use Rattle.machine.proofs.Lines.{right_stands, stands_valid, valid_right, node_words}

-- What a line rests on through its parent.
pub rests_up : {T : Shape} {dirty : ℕ → Bool} {a q : ℕ} → T.parent a < T.lines → dirty (T.parent a) ≡ false → Rests T dirty (T.parent a) q → Rests T dirty a q
rests_up k u itself = above itself k u
rests_up k u (above r i v) = above (rests_up k u r) i v

-- What a line rests on is not below it.
pub rests_higher : {T : Shape} {dirty : ℕ → Bool} {a q : ℕ} → TreeLaws T → a < T.lines → Rests T dirty a q → (a ≤ q) × (q < T.lines)
rests_higher {T} L k itself = (omega arith, k)
rests_higher {T} L k (above {q = q} r i u) = let h = rests_higher L k r in (omega (arith, h.0, L.parent_above q h.1), i)

pub rests_split : {T : Shape} {dirty : ℕ → Bool} {a q : ℕ} → Rests T dirty a q → (q ≡ a) ⊎ ((T.parent a < T.lines) × (dirty (T.parent a) ≡ false) × Rests T dirty (T.parent a) q)
rests_split itself = inl refl
rests_split {T} {dirty} {a} (above {q = q} r k u) = go (rests_split r)
  where
    go : (q ≡ a) ⊎ ((T.parent a < T.lines) × (dirty (T.parent a) ≡ false) × Rests T dirty (T.parent a) q) → (T.parent q ≡ a) ⊎ ((T.parent a < T.lines) × (dirty (T.parent a) ≡ false) × Rests T dirty (T.parent a) (T.parent q))
    go (inl e) = inr (subst (λ z. T.parent z < T.lines) e k, subst (λ z. dirty (T.parent z) ≡ false) e u, subst (λ z. Rests T dirty (T.parent z) (T.parent q)) e itself)
    go (inr h) = inr (h.0, h.1, above h.2 k u)

module _ (T : Shape) (L : TreeLaws T) where
  pub root_parent : (a : ℕ) → a < T.lines → T.depth (T.parent a) ≡ 0 → T.parent a ≡ T.lines
  root_parent a k e = go (cases_lt (T.parent a) T.lines)
    where
      go : (T.parent a < T.lines) ⊎ (T.lines ≤ T.parent a) → T.parent a ≡ T.lines
      go (inl y) = absurd (omega (arith, e, L.depth_parent (T.parent a) y))
      go (inr y) = omega (arith, y, L.parent_in a k)

  pub inner_parent : (a r : ℕ) → a < T.lines → T.depth (T.parent a) ≡ suc r → T.parent a < T.lines
  inner_parent a r k e = go (cases_lt (T.parent a) T.lines)
    where
      go : (T.parent a < T.lines) ⊎ (T.lines ≤ T.parent a) → T.parent a < T.lines
      go (inl y) = y
      go (inr y) =
          let z : T.parent a ≡ T.lines = omega (arith, y, L.parent_in a k) in
          absurd (omega (arith, e, ap T.depth z, L.depth_root))

  pub depth_next : (a r : ℕ) → T.parent a < T.lines → T.depth (T.parent a) ≡ suc r → T.depth (T.parent (T.parent a)) ≡ r
  depth_next a r k e = omega (arith, e, L.depth_parent (T.parent a) k)

module _ (shapes : ℕ → Shape) (T : Shape) (L : TreeLaws T) (S : Scheme) (l : Log) (v : View) (D : Durable T S l v.register) where
  -- All that line a rests on above itself stands.
  abbrev pub Way : ℕ → Type 0
  Way a = (q : ℕ) → Rests T v.register.dirty a q → (q ≡ a) ⊎ Stands T S l v.memory q

  pub root_counter : (a : ℕ) → a < T.lines → T.depth (T.parent a) ≡ 0 → v.register.roots (T.index a) ≡ counter_in l a
  root_counter a k e =
      let z = root_parent T L a k e in
      D.roots (T.index a) (subst (λ p. T.index a < T.arity p) z (L.index_in a k)) ∙ ap (λ p. counter_in l (T.child p (T.index a))) (sym z) ∙ ap (counter_in l) (L.child_index a k)

  root_way : (a : ℕ) → a < T.lines → T.depth (T.parent a) ≡ 0 → Way a
  root_way a k e q r = go (rests_split r)
    where
      go : (q ≡ a) ⊎ ((T.parent a < T.lines) × (v.register.dirty (T.parent a) ≡ false) × Rests T v.register.dirty (T.parent a) q) → (q ≡ a) ⊎ Stands T S l v.memory q
      go (inl y) = inl y
      go (inr y) = absurd (omega (arith, root_parent T L a k e, y.0))

  slot_counter : (a : ℕ) → a < T.lines → (s : Slot) → ((i : ℕ) → i < T.arity (T.parent a) → s.counters i ≡ counter_in l (T.child (T.parent a) i)) → s.counters (T.index a) ≡ counter_in l a
  slot_counter a k s h = h (T.index a) (L.index_in a k) ∙ ap (counter_in l) (L.child_index a k)

  slot_way : (a : ℕ) → v.register.dirty (T.parent a) ≡ true → Way a
  slot_way a u q r = go (rests_split r)
    where
      go : (q ≡ a) ⊎ ((T.parent a < T.lines) × (v.register.dirty (T.parent a) ≡ false) × Rests T v.register.dirty (T.parent a) q) → (q ≡ a) ⊎ Stands T S l v.memory q
      go (inl y) = inl y
      go (inr y) = absurd (both_ways _ y.1 u)

  pub line_counter : (a : ℕ) → a < T.lines → T.parent a < T.lines → v.register.dirty (T.parent a) ≡ false → Stands T S l v.memory (T.parent a) → (v.memory (T.parent a)).words (T.index a) ≡ counter_in l a
  line_counter a k j u s =
      ap (λ z. z.words (T.index a)) s ∙ ap (λ f. f (T.index a)) (node_words T S (T.parent a) _ _ (L.parent_node a k)) ∙ D.level (T.parent a) (L.parent_node a k) j u (T.index a) (L.index_in a k)
      ∙ ap (counter_in l) (L.child_index a k)

  line_way : (a : ℕ) → Stands T S l v.memory (T.parent a) → Way (T.parent a) → Way a
  line_way a s h q r = go (rests_split r)
    where
      go : (q ≡ a) ⊎ ((T.parent a < T.lines) × (v.register.dirty (T.parent a) ≡ false) × Rests T v.register.dirty (T.parent a) q) → (q ≡ a) ⊎ Stands T S l v.memory q
      go (inl y) = inl y
      go (inr y) = inr (⊎_elim (λ e. subst (Stands T S l v.memory) (sym e) s) (λ e. e) (h q y.2))

  -- A counter that is found is the true one, and all above the line stands.
  pub counter_true : (r a c : ℕ) → a < T.lines → T.depth (T.parent a) ≡ r → ((q : ℕ) → a < q → q < T.lines → Exact T l v.register.dirty (v.table q) q) → ((q : ℕ) → a < q → q < T.lines → Fine shapes T S l v.memory q) → counter_at T S v r a ≡ ok c → (c ≡ counter_in l a) × Way a
  unfolding counter_at
  counter_true zero a c k e x f h = (sym (ok_inj h) ∙ root_counter a k e, root_way a k e)
  counter_true (suc r) a c k e x f h =
      go (v.table (T.parent a)) (x (T.parent a) (L.parent_above a k) j) h
      (λ c' h'. counter_true r (T.parent a) c' j (depth_next T L a r j e) (λ q y. x q (omega (arith, y, L.parent_above a k))) (λ q y. f q (omega (arith, y, L.parent_above a k))) h')
    where
      j : T.parent a < T.lines
      j = inner_parent T L a r k e

      in_its_line : v.register.dirty (T.parent a) ≡ false → (z : Outcome ℕ) → ((c' : ℕ) → z ≡ ok c' → (c' ≡ counter_in l (T.parent a)) × Way (T.parent a)) → in_line T S v.memory (T.parent a) (T.index a) z ≡ ok c → (c ≡ counter_in l a) × Way a
      in_its_line u (ok c') ih h =
          let (t, y) = cond_ok _ _ _ h in
          let (z, w) = ih c' refl in
          let st = right_stands shapes T S l v.register D v.memory (T.parent a) j (f (T.parent a) (L.parent_above a k) j) (subst (λ n. right S (T.parent a) n (v.memory (T.parent a)) ≡ true) z (valid_right T S v.memory (T.parent a) c' t)) in
          (sym (ok_inj y) ∙ line_counter a k j u st, line_way a st w)
      in_its_line u (err b) ih h = absurd (err≢ok h)

      go : (o : Option Slot) → Exact T l v.register.dirty o (T.parent a) → held o (T.index a) (in_line T S v.memory (T.parent a) (T.index a) (counter_at T S v r (T.parent a))) ≡ ok c → ((c' : ℕ) → counter_at T S v r (T.parent a) ≡ ok c' → (c' ≡ counter_in l (T.parent a)) × Way (T.parent a)) → (c ≡ counter_in l a) × Way a
      go (some s) y h ih = (sym (ok_inj h) ∙ slot_counter a k s y.1, slot_way a y.0)
      go none y h ih = in_its_line y (counter_at T S v r (T.parent a)) ih h

  -- Where all above the line stands, its counter is found.
  pub counter_found : (r a : ℕ) → a < T.lines → T.depth (T.parent a) ≡ r → ((q : ℕ) → a < q → q < T.lines → Exact T l v.register.dirty (v.table q) q) → Way a → counter_at T S v r a ≡ ok (counter_in l a)
  unfolding counter_at
  counter_found zero a k e x w = ap ok (root_counter a k e)
  counter_found (suc r) a k e x w =
      go (v.table (T.parent a)) (x (T.parent a) (L.parent_above a k) j) (λ u. counter_found r (T.parent a) j (depth_next T L a r j e) (λ q y. x q (omega (arith, y, L.parent_above a k))) (λ q y. inr (st u q y)))
    where
      j : T.parent a < T.lines
      j = inner_parent T L a r k e

      -- what the parent rests on, the parent too, is above the line
      higher : (q : ℕ) → Rests T v.register.dirty (T.parent a) q → a < q
      higher q y = omega (arith, L.parent_above a k, (rests_higher L j y).0)

      st : v.register.dirty (T.parent a) ≡ false → (q : ℕ) → Rests T v.register.dirty (T.parent a) q → Stands T S l v.memory q
      st u q y = ⊎_elim (λ e. absurd (omega (arith, e, higher q y))) (λ s. s) (w q (rests_up j u y))

      go : (o : Option Slot) → Exact T l v.register.dirty o (T.parent a) → (v.register.dirty (T.parent a) ≡ false → counter_at T S v r (T.parent a) ≡ ok (counter_in l (T.parent a))) → held o (T.index a) (in_line T S v.memory (T.parent a) (T.index a) (counter_at T S v r (T.parent a))) ≡ ok (counter_in l a)
      go (some s) y ih = ap ok (slot_counter a k s y.1)
      go none y ih =
          let s = st y (T.parent a) itself in
          rw (ih y, stands_valid shapes T S l v.register D v.memory L (T.parent a) (L.parent_node a k) j s) (ap ok (line_counter a k j y s))

  -- A line above line a that does not stand.
  abbrev pub BadWay : ℕ → Fault → Type 0
  BadWay a x = (q : ℕ) × (x ≡ fault corrupt q) × Rests T v.register.dirty a q × (a < q) × (Stands T S l v.memory q → ⊥) × Way q

  -- A refused counter names a line of the way down that does not stand.
  pub counter_refused : (r a : ℕ) (x : Fault) → a < T.lines → T.depth (T.parent a) ≡ r → ((q : ℕ) → a < q → q < T.lines → Exact T l v.register.dirty (v.table q) q) → ((q : ℕ) → a < q → q < T.lines → Fine shapes T S l v.memory q) → counter_at T S v r a ≡ err x → BadWay a x
  unfolding counter_at
  counter_refused zero a x k e y f h = absurd (err≢ok (sym h))
  counter_refused (suc r) a x k e y f h =
      go (v.table (T.parent a)) (y (T.parent a) (L.parent_above a k) j) h
      (λ x' h'. counter_refused r (T.parent a) x' j (depth_next T L a r j e) (λ q u. y q (omega (arith, u, L.parent_above a k))) (λ q u. f q (omega (arith, u, L.parent_above a k))) h')
    where
      j : T.parent a < T.lines
      j = inner_parent T L a r k e

      true_above : (c : ℕ) → counter_at T S v r (T.parent a) ≡ ok c → (c ≡ counter_in l (T.parent a)) × Way (T.parent a)
      true_above c h' = counter_true r (T.parent a) c j (depth_next T L a r j e) (λ q u. y q (omega (arith, u, L.parent_above a k))) (λ q u. f q (omega (arith, u, L.parent_above a k))) h'

      judged : v.register.dirty (T.parent a) ≡ false → (c : ℕ) → (c ≡ counter_in l (T.parent a)) × Way (T.parent a) → (b : Bool) → node_valid T S v.memory (T.parent a) c ≡ b → cond b (ok ((v.memory (T.parent a)).words (T.index a))) (err (fault corrupt (T.parent a))) ≡ err x → BadWay a x
      judged u c z true t h = absurd (err≢ok (sym h))
      judged u c z false t h =
          (T.parent a, sym (err_inj h), above itself j u, L.parent_above a k, λ s. both_ways _ t (subst (λ n. node_valid T S v.memory (T.parent a) n ≡ true) (sym z.0) (stands_valid shapes T S l v.register D v.memory L (T.parent a) (L.parent_node a k) j s)), z.1)

      in_its_line : v.register.dirty (T.parent a) ≡ false → (z : Outcome ℕ) → counter_at T S v r (T.parent a) ≡ z → ((x' : Fault) → counter_at T S v r (T.parent a) ≡ err x' → BadWay (T.parent a) x') → in_line T S v.memory (T.parent a) (T.index a) z ≡ err x → BadWay a x
      in_its_line u (ok c) p ih h = judged u c (true_above c p) (node_valid T S v.memory (T.parent a) c) refl h
      in_its_line u (err b) p ih h =
          let (q, z, n, o, s, y) = ih x (p ∙ h) in
          (q, z, rests_up j u n, omega (arith, o, L.parent_above a k), s, y)

      go : (o : Option Slot) → Exact T l v.register.dirty o (T.parent a) → held o (T.index a) (in_line T S v.memory (T.parent a) (T.index a) (counter_at T S v r (T.parent a))) ≡ err x → ((x' : Fault) → counter_at T S v r (T.parent a) ≡ err x' → BadWay (T.parent a) x') → BadWay a x
      go (some s) u h ih = absurd (err≢ok (sym h))
      go none u h ih = in_its_line u (counter_at T S v r (T.parent a)) refl ih h
