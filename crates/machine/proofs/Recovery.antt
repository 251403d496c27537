-- Bring-up: what it restores is never above the truth, so the dirty sum tells.
use Rattle.std.proofs.Common.{◌≡◌, ℕ, zero, suc, ◌-◌, ◌<◌, ◌≤◌, Bool, true, false, cond, not, eqb, ltb, ◌⊎◌, sym, refl, ap, ◌∙◌, subst, inl, inr, ⊎_elim, le_refl, arith}
use mathlib.Core.Option.{Option, some, none}
use Rattle.std.proofs.lemmas.Bool.{cases_lt, both_ways, and_parts, and_from, not-false, lt-ltb, le-ltb, ltb-false, leb-true, le-leb, eqb-true, eq-eqb, not_from_true}
use Rattle.suite.specs.Scheme.{Line, Scheme, right}
use Rattle.machine.specs.Layout.{Shape, TreeLaws, update, sum_to, first}
use Rattle.machine.specs.Store.{Register, Log}
use Rattle.machine.specs.Faults.{Fault, fault, Outcome, ok, err, bind, corrupt, sum_mismatch, power_lost}
use Rattle.machine.specs.Plans.{Slot, Table, is_dirty, slot_counters, View, sum_of, node_valid, held, in_line, counter_at, counter_of, child_counter, child_valid, slot_unless, slot_from, restore_node, with_slot, restore, recover}
use Rattle.machine.specs.History.{counter_in, body_in}
use Rattle.machine.specs.Laws.{Stands, Rests, itself, above, RecoveryRests, way, child}
use Rattle.machine.proofs.Invariant.{Durable, Fine, Exact, Raised, SlotsHold}
use Rattle.machine.proofs.Basics.{update_same, update_other, sum_same, sum_le, sum_pinned, term_le, ok_inj, err_inj, err≢ok, bind_ok, cond_ok, first_none, first_some, none_first, some_inj, none≢some, upto}
use Rattle.machine.proofs.Lines.{right_stands, stands_right, stands_valid, valid_right, node_words, line_le, child_le, child_is}
use Rattle.machine.proofs.TrustedCounter.{rests_up, counter_true, counter_found, inner_parent, depth_next, root_parent}

module _ (T : Shape) (S : Scheme) where
  -- A found counter depends on the slots above the line alone.
  pub counter_agree : TreeLaws T → (r a : ℕ) (m : ℕ → Line) (g : Register) (t u : Table) → a < T.lines → T.depth (T.parent a) ≡ r → ((q : ℕ) → a < q → t q ≡ u q) → counter_at T S (record { memory = m; register = g; table = t }) r a ≡ counter_at T S (record { memory = m; register = g; table = u }) r a
  unfolding counter_at
  counter_agree L zero a m g t u k e h = refl
  counter_agree L (suc r) a m g t u k e h =
      rw (h (T.parent a) (L.parent_above a k), counter_agree L r (T.parent a) m g t u (inner_parent T L a r k e) (depth_next T L a r (inner_parent T L a r k e) e) (λ q y. h q (omega (arith, y, L.parent_above a k))))

  -- What an accepted restoring of one node says.
  pub slot_facts : (v : View) (p : ℕ) (s : Slot) → restore_node T S v p ≡ ok s → (c : ℕ) × (counter_of T S v p ≡ ok c) × (node_valid T S v.memory p c ≡ true) × ((i : ℕ) → i < T.arity p → child_valid T S v.memory p i ≡ true) × (s ≡ slot_from T v.memory p)
  unfolding restore_node
  slot_facts v p s e =
      let (c, x, y) = bind_ok _ _ e in
      let (z, w) = cond_ok _ _ _ y in
      go c x z (first (T.arity p) (λ i. not (child_valid T S v.memory p i))) refl w
    where
      go : (c : ℕ) → counter_of T S v p ≡ ok c → node_valid T S v.memory p c ≡ true → (o : Option ℕ) → first (T.arity p) (λ i. not (child_valid T S v.memory p i)) ≡ o → slot_unless T v.memory p o ≡ ok s → (c : ℕ) × (counter_of T S v p ≡ ok c) × (node_valid T S v.memory p c ≡ true) × ((i : ℕ) → i < T.arity p → child_valid T S v.memory p i ≡ true) × (s ≡ slot_from T v.memory p)
      go c x z (some i) f w = absurd (err≢ok w)
      go c x z none f w = (c, x, z, λ i k. not-false _ (first_none (T.arity p) _ f i k), sym (ok_inj w))

  pub restore_agree : TreeLaws T → (p : ℕ) (m : ℕ → Line) (g : Register) (t u : Table) → p < T.lines → ((q : ℕ) → p < q → t q ≡ u q) → restore_node T S (record { memory = m; register = g; table = t }) p ≡ restore_node T S (record { memory = m; register = g; table = u }) p
  unfolding restore_node counter_of
  restore_agree L p m g t u k h = rw (counter_agree L (T.depth (T.parent p)) p m g t u k refl h)

  -- The slots that a restoring ends in: the dirty nodes below n, each as restored under those very slots; the others untouched.
  pub record Fixed (n : ℕ) (m : ℕ → Line) (g : Register) (t u : Table) : Type 0 where
    pub over : (p : ℕ) → n ≤ p → u p ≡ t p
    pub clean : (p : ℕ) → p < n → g.dirty p ≡ false → u p ≡ t p
    pub map_count : (p : ℕ) → p < n → g.dirty p ≡ true → (s : Slot) × (u p ≡ some s) × (restore_node T S (record { memory = m; register = g; table = u }) p ≡ ok s)

  pub fixed : TreeLaws T → (n : ℕ) (m : ℕ → Line) (g : Register) (t : Table) (w : View) → n ≤ T.lines → restore T S n (record { memory = m; register = g; table = t }) ≡ ok w → (w.memory ≡ m) × (w.register ≡ g) × Fixed n m g t w.table
  unfolding restore
  fixed L zero m g t w k e =
      let z = ok_inj e in
      (ap (λ x. x.memory) (sym z), ap (λ x. x.register) (sym z), record { over = λ p y. ap (λ x. x.table p) (sym z); clean = λ p y. absurd (omega arith); map_count = λ p y. absurd (omega arith) })
  fixed L (suc n) m g t w k e = go (g.dirty n) refl e (λ t'. fixed L n m g t' w (omega arith))
    where
      skip : g.dirty n ≡ false → (w.memory ≡ m) × (w.register ≡ g) × Fixed n m g t w.table → (w.memory ≡ m) × (w.register ≡ g) × Fixed (suc n) m g t w.table
      skip u (x, y, z) = (
        x,
        y,
        record {
          over = λ p h. z.over p (omega arith);
          clean = λ p h q. upto (λ j. g.dirty j ≡ false → w.table j ≡ t j) n p h (λ _. z.over n (omega arith)) (z.clean p) q;
          map_count = λ p h q. upto (λ j. g.dirty j ≡ true → (s : Slot) × (w.table j ≡ some s) × (restore_node T S (record { memory = m; register = g; table = w.table }) j ≡ ok s)) n p h (λ f. absurd (both_ways _ u f)) (z.map_count p) q;
        },
      )

      take : g.dirty n ≡ true → (s : Slot) → restore_node T S (record { memory = m; register = g; table = t }) n ≡ ok s → (w.memory ≡ m) × (w.register ≡ g) × Fixed n m g (update t n (some s)) w.table → (w.memory ≡ m) × (w.register ≡ g) × Fixed (suc n) m g t w.table
      take u s r (x, y, z) = (
        x,
        y,
        record {
          over = λ p h. z.over p (omega arith) ∙ update_other t n (some s) p (λ o. omega arith);
          clean = λ p h q. upto (λ j. g.dirty j ≡ false → w.table j ≡ t j) n p h (λ f. absurd (both_ways _ f u)) (λ o f. z.clean p o f ∙ update_other t n (some s) p (λ i. omega arith)) q;
          map_count =
              λ p h q.
              upto (λ j. g.dirty j ≡ true → (s : Slot) × (w.table j ≡ some s) × (restore_node T S (record { memory = m; register = g; table = w.table }) j ≡ ok s)) n p h
              (λ _. (s, z.over n (omega arith) ∙ update_same t n (some s) n refl, restore_agree L n m g w.table t (omega arith) (λ o f. z.over o (omega arith) ∙ update_other t n (some s) o (λ i. omega arith)) ∙ r))
              (z.map_count p) q;
        },
      )

      go :
          (b : Bool) → g.dirty n ≡ b
          → cond b (bind (restore_node T S (record { memory = m; register = g; table = t }) n) (λ s. restore T S n (with_slot (record { memory = m; register = g; table = t }) n s))) (restore T S n (record { memory = m; register = g; table = t })) ≡ ok w
          → ((t' : Table) → restore T S n (record { memory = m; register = g; table = t' }) ≡ ok w → (w.memory ≡ m) × (w.register ≡ g) × Fixed n m g t' w.table)
          → (w.memory ≡ m) × (w.register ≡ g) × Fixed (suc n) m g t w.table
      go true u e ih = let (s, x, y) = bind_ok _ _ e in take u s x (ih (update t n (some s)) y)
      go false u e ih = skip u (ih t e)

-- A good child's tag is right.
pub child_right : (T : Shape) (S : Scheme) (m : ℕ → Line) (p i : ℕ) → child_valid T S m p i ≡ true → right S (T.child p i) (child_counter T m p i) (m (T.child p i)) ≡ true
child_right T S m p i e = go (ltb (T.child p i) T.data_lines) (and_parts _ _ e).1
  where
    go : (z : Bool) → cond z (right S (T.child p i) (child_counter T m p i) (m (T.child p i))) (node_valid T S m (T.child p i) (child_counter T m p i)) ≡ true → right S (T.child p i) (child_counter T m p i) (m (T.child p i)) ≡ true
    go true f = f
    go false f = valid_right T S m (T.child p i) (child_counter T m p i) f

module _ (shapes : ℕ → Shape) (T : Shape) (L : TreeLaws T) (S : Scheme) (l : Log) (m : ℕ → Line) (g : Register) (D : Durable T S l g) (fine : (q : ℕ) → q < T.lines → Fine shapes T S l m q) (t : Table) (F : Fixed T S T.lines m g (λ p. none) t) where
  abbrev v : View
  v = record { memory = m; register = g; table = t }

  -- A slot's counters are not above the truth once its own line's counter is not.
  slot_le : (p c : ℕ) → T.data_lines ≤ p → p < T.lines → c ≤ counter_in l p → node_valid T S m p c ≡ true → ((i : ℕ) → i < T.arity p → child_valid T S m p i ≡ true) → (i : ℕ) → i < T.arity p → (slot_from T m p).counters i ≤ counter_in l (T.child p i)
  slot_le p c n k z so all_valid i j =
      rw (lt-ltb i (T.arity p) j)
      (let y = and_parts _ _ (all_valid i j) in
      child_le shapes T S l g D m p i (L.child_in p i n (omega arith) j)
      (line_le shapes T S l g D m p c n k (fine p k) (omega (arith, z, D.small p k)) (valid_right T S m p c so) i j)
      (fine (T.child p i) (L.child_in p i n (omega arith) j)) (leb-true _ _ y.0) (child_right T S m p i (all_valid i j)))

  -- No counter found is above the truth.
  pub counter_le : (r a c : ℕ) → a < T.lines → T.depth (T.parent a) ≡ r → counter_at T S v r a ≡ ok c → c ≤ counter_in l a
  unfolding counter_at counter_of
  counter_le zero a c k e h =
      let z = root_parent T L a k e in
      let y : g.roots (T.index a) ≡ counter_in l a = D.roots (T.index a) (subst (λ p. T.index a < T.arity p) z (L.index_in a k)) ∙ ap (λ p. counter_in l (T.child p (T.index a))) (sym z) ∙ ap (counter_in l) (L.child_index a k) in
      omega (arith, ok_inj h, y)
  counter_le (suc r) a c k e h = go (t (T.parent a)) refl h (λ c' h'. counter_le r (T.parent a) c' j (depth_next T L a r j e) h')
    where
      j : T.parent a < T.lines
      j = inner_parent T L a r k e

      n : T.data_lines ≤ T.parent a
      n = L.parent_node a k

      at_child : {x : ℕ} → x ≤ counter_in l (T.child (T.parent a) (T.index a)) → x ≤ counter_in l a
      at_child {x} h = subst (λ b. x ≤ counter_in l b) (L.child_index a k) h

      in_its_line : (z : Outcome ℕ) → ((c' : ℕ) → z ≡ ok c' → c' ≤ counter_in l (T.parent a)) → in_line T S m (T.parent a) (T.index a) z ≡ ok c → c ≤ counter_in l a
      in_its_line (ok c') ih h =
          let (u, y) = cond_ok _ _ _ h in
          subst (λ x. x ≤ counter_in l a) (ok_inj y)
          (at_child (line_le shapes T S l g D m (T.parent a) c' n j (fine (T.parent a) j) (omega (arith, ih c' refl, D.small (T.parent a) j)) (valid_right T S m (T.parent a) c' u) (T.index a) (L.index_in a k)))
      in_its_line (err b) ih h = absurd (err≢ok h)

      in_slot : (s : Slot) → t (T.parent a) ≡ some s → ((c' : ℕ) → counter_at T S v r (T.parent a) ≡ ok c' → c' ≤ counter_in l (T.parent a)) → s.counters (T.index a) ≡ c → (b : Bool) → g.dirty (T.parent a) ≡ b → c ≤ counter_in l a
      in_slot s q ih h true u =
          let (s', q', y) = F.map_count (T.parent a) j u in
          let (c', x, so, all_valid, z) = slot_facts T S v (T.parent a) s' y in
          let w : s ≡ slot_from T m (T.parent a) = some_inj (sym q ∙ q') ∙ z in
          subst (λ x. x ≤ counter_in l a) (ap (λ f. f.counters (T.index a)) (sym w) ∙ h)
          (at_child (slot_le (T.parent a) c' n j (ih c' (at_depth c' x)) so all_valid (T.index a) (L.index_in a k)))
        where
          at_depth : (c' : ℕ) → counter_of T S v (T.parent a) ≡ ok c' → counter_at T S v r (T.parent a) ≡ ok c'
          at_depth c' x = rw (depth_next T L a r j e) at x
      in_slot s q ih h false u = absurd (none≢some (sym (F.clean (T.parent a) j u) ∙ q))

      go : (o : Option Slot) → t (T.parent a) ≡ o → held o (T.index a) (in_line T S m (T.parent a) (T.index a) (counter_at T S v r (T.parent a))) ≡ ok c → ((c' : ℕ) → counter_at T S v r (T.parent a) ≡ ok c' → c' ≤ counter_in l (T.parent a)) → c ≤ counter_in l a
      go (some s) q h ih = in_slot s q ih (ok_inj h) (g.dirty (T.parent a)) refl
      go none q h ih = in_its_line (counter_at T S v r (T.parent a)) ih h

  -- The counters that a slot holds are not above the truth.
  pub held_le : (p : ℕ) → p < T.lines → g.dirty p ≡ true → (i : ℕ) → i < T.arity p → slot_counters (t p) i ≤ counter_in l (T.child p i)
  unfolding counter_of
  held_le p k u i j =
      let (s, q, y) = F.map_count p k u in
      let (c, x, so, all_valid, z) = slot_facts T S v p s y in
      rw (q, z) (slot_le p c (D.inner p u).0 k (counter_le (T.depth (T.parent p)) p c k refl x) so all_valid i j)

  -- The sum of a node's counters as restored, and as they are; nothing for an undirty node.
  got : ℕ → ℕ
  got p = cond (is_dirty (t p)) (sum_to (T.arity p) (slot_counters (t p))) 0

  due : ℕ → ℕ
  due p = cond (g.dirty p) (sum_to (T.arity p) (λ i. counter_in l (T.child p i))) 0

  got_le : (p : ℕ) → p < T.lines → got p ≤ due p
  unfolding got due
  got_le p k = go (g.dirty p) refl
    where
      go : (b : Bool) → g.dirty p ≡ b → cond (is_dirty (t p)) (sum_to (T.arity p) (slot_counters (t p))) 0 ≤ cond b (sum_to (T.arity p) (λ i. counter_in l (T.child p i))) 0
      go true u = let (s, q, y) = F.map_count p k u in rw q (rw q at (sum_le (T.arity p) (slot_counters (t p)) (λ i. counter_in l (T.child p i)) (held_le p k u)))
      go false u = rw (F.clean p k u) (omega arith)

  -- If the restored counters add up to the dirty sum, each slot holds the truth.
  pub all_true : sum_of T t ≡ g.dirty_sum → (p : ℕ) → p < T.lines → Exact T l g.dirty (t p) p
  unfolding sum_of got due
  all_true e p k = go (g.dirty p) refl
    where
      same : got p ≡ due p
      same = sum_pinned T.lines got due got_le (e ∙ D.dirty_sum) p k

      go : (b : Bool) → g.dirty p ≡ b → Exact T l g.dirty (t p) p
      go true u =
          let (s, q, y) = F.map_count p k u in
          let z : sum_to (T.arity p) s.counters ≡ sum_to (T.arity p) (λ i. counter_in l (T.child p i)) = rw (q, u) at same in
          rw q (u, sum_pinned (T.arity p) s.counters (λ i. counter_in l (T.child p i)) (rw q at (held_le p k u)) z)
      go false u = rw (F.clean p k u) u

  -- What was restored, once every slot holds the truth: the node's line and way, and its children, stand.
  module _ (exact : (p : ℕ) → p < T.lines → Exact T l g.dirty (t p) p) where
    node_stands : (p : ℕ) → p < T.lines → g.dirty p ≡ true → Stands T S l m p × ((q : ℕ) → Rests T g.dirty p q → (q ≡ p) ⊎ Stands T S l m q)
    unfolding counter_of
    node_stands p k u =
        let (s, q, y) = F.map_count p k u in
        let (c, x, so, all_valid, z) = slot_facts T S v p s y in
        let (e, w) = counter_true shapes T L S l v D (T.depth (T.parent p)) p c k refl (λ q _. exact q) (λ q _. fine q) x in
        (right_stands shapes T S l g D m p k (fine p k) (subst (λ n. right S p n (m p) ≡ true) e (valid_right T S m p c so)), w)

    child_stands : (p i : ℕ) → p < T.lines → g.dirty p ≡ true → i < T.arity p → Stands T S l m (T.child p i)
    child_stands p i k u j =
        let (s, q, y) = F.map_count p k u in
        let (c, x, so, all_valid, z) = slot_facts T S v p s y in
        let n = (D.inner p u).0 in
        let e : s.counters i ≡ counter_in l (T.child p i) = (subst (λ o. Exact T l g.dirty o p) q (exact p k)).1 i j in
        let f : child_counter T m p i ≡ counter_in l (T.child p i) = (rw (lt-ltb i (T.arity p) j) at (ap (λ r. r.counters i) (sym z))) ∙ e in
        right_stands shapes T S l g D m (T.child p i) (L.child_in p i n (omega arith) j) (fine (T.child p i) (L.child_in p i n (omega arith) j)) (subst (λ n. right S (T.child p i) n (m (T.child p i)) ≡ true) f (child_right T S m p i (all_valid i j)))

    -- The pending increments of a restored slot are how far its children have come.
    node_pending : (p : ℕ) → p < T.lines → g.dirty p ≡ true → Raised T l (t p) p
    node_pending p k u =
        let (s, q, y) = F.map_count p k u in
        let (c, x, so, all_valid, z) = slot_facts T S v p s y in
        let e : (i : ℕ) → i < T.arity p → s.counters i ≡ counter_in l (T.child p i) = (subst (λ o. Exact T l g.dirty o p) q (exact p k)).1 in
        let st = (node_stands p k u).0 in
        subst (λ o. Raised T l o p) (sym q)
        (ap (λ r. r.pending) z
        ∙ sum_same (T.arity p) (λ i. child_counter T m p i - (m p).words i) (λ i. counter_in l (T.child p i) - body_in l p i)
        (λ i j.
        let f : child_counter T m p i ≡ counter_in l (T.child p i) = (rw (lt-ltb i (T.arity p) j) at (ap (λ r. r.counters i) (sym z))) ∙ e i j in
        let h : (m p).words i ≡ body_in l p i = ap (λ z. z.words i) st ∙ ap (λ f. f i) (node_words T S p _ _ (D.inner p u).0) in
        omega (arith, f, h)))

    clean_none : (p : ℕ) → g.dirty p ≡ false → t p ≡ none
    clean_none p u = ⊎_elim (λ k. F.clean p k u) (λ k. F.over p k) (cases_lt p T.lines)

    pub restored_live : SlotsHold T l g.dirty t
    restored_live = record { exact = λ p. at p (g.dirty p) refl; raised = λ p. at_pending p (g.dirty p) refl; bare = λ p s e i j. at_bare p s e i j (g.dirty p) refl }
      where
        at : (p : ℕ) (b : Bool) → g.dirty p ≡ b → Exact T l g.dirty (t p) p
        at p true u = exact p (D.inner p u).1
        at p false u = subst (λ o. Exact T l g.dirty o p) (sym (clean_none p u)) u

        at_pending : (p : ℕ) (b : Bool) → g.dirty p ≡ b → Raised T l (t p) p
        at_pending p true u = node_pending p (D.inner p u).1 u
        at_pending p false u = subst (λ o. Raised T l o p) (sym (clean_none p u)) tt

        at_bare : (p : ℕ) (s : Slot) → t p ≡ some s → (i : ℕ) → T.arity p ≤ i → (b : Bool) → g.dirty p ≡ b → s.counters i ≡ 0
        at_bare p s e i j true u =
            let (s', q, y) = F.map_count p (D.inner p u).1 u in
            let (c, x, so, all_valid, z) = slot_facts T S v p s' y in
            ap (λ r. r.counters i) (some_inj (sym e ∙ q) ∙ z) ∙ clipped
          where
            clipped : (slot_from T m p).counters i ≡ 0
            clipped = rw (le-ltb i (T.arity p) j)
        at_bare p s e i j false u = absurd (none≢some (sym (clean_none p u) ∙ e))

    pub recovery_stand : (q : ℕ) → RecoveryRests T g.dirty q → Stands T S l m q
    recovery_stand q (way {p = p} k u r) = let h = node_stands p k u in ⊎_elim (λ e. subst (Stands T S l m) (sym e) h.0) (λ s. s) (h.1 q r)
    recovery_stand q (child {p = p} i k u j) = child_stands p i k u j

-- Slots that hold the truth add up to the true sum.
pub exact_sum : (T : Shape) (S : Scheme) (l : Log) (dirty : ℕ → Bool) (t : Table) → ((p : ℕ) → p < T.lines → Exact T l dirty (t p) p) → sum_of T t ≡ sum_to T.lines (λ p. cond (dirty p) (sum_to (T.arity p) (λ i. counter_in l (T.child p i))) 0)
unfolding sum_of
exact_sum T S l dirty t x = sum_same T.lines _ _ λ p k. go p (t p) (x p k)
  where
    go : (p : ℕ) (o : Option Slot) → Exact T l dirty o p → cond (is_dirty o) (sum_to (T.arity p) (slot_counters o)) 0 ≡ cond (dirty p) (sum_to (T.arity p) (λ i. counter_in l (T.child p i))) 0
    go p (some s) y = rw y.0 (sum_same (T.arity p) s.counters (λ i. counter_in l (T.child p i)) y.1)
    go p none y = rw y

module _ (shapes : ℕ → Shape) (T : Shape) (L : TreeLaws T) (S : Scheme) (l : Log) (m : ℕ → Line) (g : Register) (D : Durable T S l g) where
  -- An accepted bring-up has true slots, and all it rests on stands.
  pub recover_valid : ((q : ℕ) → q < T.lines → Fine shapes T S l m q) → (t : Table) → recover T S m g ≡ ok t → SlotsHold T l g.dirty t × ((q : ℕ) → RecoveryRests T g.dirty q → Stands T S l m q)
  unfolding recover
  recover_valid fine t e =
      let (w, x, y) = bind_ok _ _ e in
      let (z, u) = cond_ok _ _ _ y in
      let (_, _, F) = fixed T S L T.lines m g (λ p. none) w (le_refl T.lines) x in
      let F' = subst (λ o. Fixed T S T.lines m g (λ p. none) o) (ok_inj u) F in
      let a = all_true shapes T L S l m g D fine t F' (ap (sum_of T) (sym (ok_inj u)) ∙ eqb-true _ _ z) in
      (restored_live shapes T L S l m g D fine t F' a, recovery_stand shapes T L S l m g D fine t F' a)

  -- Where all it rests on stands, every dirty node is restored.
  module _ (stand : (q : ℕ) → RecoveryRests T g.dirty q → Stands T S l m q) where
    words_are : (p i : ℕ) → p < T.lines → g.dirty p ≡ true → (m p).words i ≡ body_in l p i
    words_are p i k u =
        ap (λ z. z.words i) (stand p (way k u itself)) ∙ ap (λ f. f i) (node_words T S p _ _ (D.inner p u).0)

    child_true : (p i : ℕ) → p < T.lines → g.dirty p ≡ true → i < T.arity p → child_counter T m p i ≡ counter_in l (T.child p i)
    child_true p i k u j =
        let n = (D.inner p u).0 in
        child_is shapes T S l g D m p i (rw (words_are p i k u) (D.older p (counter_in l p) (body_in l p) n (D.latest p k) i j))
        (rw (words_are p i k u) (omega (arith, D.dirty_few p n k u, term_le (T.arity p) (λ i. counter_in l (T.child p i) - body_in l p i) i j)))
        (stand (T.child p i) (child i k u j))

    child_ok : (p i : ℕ) → p < T.lines → g.dirty p ≡ true → i < T.arity p → child_valid T S m p i ≡ true
    child_ok p i k u j =
        rw (child_true p i k u j)
        (and_from _ _ (le-leb _ _ (D.small (T.child p i) c))
        (go (ltb (T.child p i) T.data_lines) refl))
      where
        c : T.child p i < T.lines
        c = L.child_in p i (D.inner p u).0 (omega arith) j

        go : (z : Bool) → ltb (T.child p i) T.data_lines ≡ z → cond z (right S (T.child p i) (counter_in l (T.child p i)) (m (T.child p i))) (node_valid T S m (T.child p i) (counter_in l (T.child p i))) ≡ true
        go true f = stands_right shapes T S l g D m (T.child p i) (stand (T.child p i) (child i k u j))
        go false f = stands_valid shapes T S l g D m L (T.child p i) (ltb-false _ _ f) c (stand (T.child p i) (child i k u j))

    node_restored : (p : ℕ) (t : Table) → p < T.lines → g.dirty p ≡ true → ((q : ℕ) → p < q → q < T.lines → Exact T l g.dirty (t q) q) → restore_node T S (record { memory = m; register = g; table = t }) p ≡ ok (slot_from T m p)
    unfolding restore_node counter_of bind
    node_restored p t k u x =
        rw (
          counter_found shapes T L S l (record { memory = m; register = g; table = t }) D (T.depth (T.parent p)) p k refl x (λ q r. inr (stand q (way k u r))),
          stands_valid shapes T S l g D m L p (D.inner p u).0 k (stand p (way k u itself)),
          none_first (T.arity p) (λ i. not (child_valid T S m p i)) (λ i j. not_from_true _ (child_ok p i k u j)),
        )

    slot_exact : (p : ℕ) → p < T.lines → g.dirty p ≡ true → Exact T l g.dirty (some (slot_from T m p)) p
    slot_exact p k u = (u, λ i j. rw (lt-ltb i (T.arity p) j) (child_true p i k u j))

    restored_all : (n : ℕ) (t : Table) → n ≤ T.lines → ((q : ℕ) → n ≤ q → q < T.lines → Exact T l g.dirty (t q) q) → ((q : ℕ) → q < n → t q ≡ none) → (w : View) × (restore T S n (record { memory = m; register = g; table = t }) ≡ ok w) × ((q : ℕ) → q < T.lines → Exact T l g.dirty (w.table q) q)
    unfolding restore bind
    restored_all zero t k x y = (record { memory = m; register = g; table = t }, refl, λ q. x q (omega arith))
    restored_all (suc n) t k x y = go (g.dirty n) refl (λ t'. restored_all n t' (omega arith))
      where
        Result : Bool → Type 0
        Result b = (w : View) × (cond b (bind (restore_node T S (record { memory = m; register = g; table = t }) n) (λ s. restore T S n (with_slot (record { memory = m; register = g; table = t }) n s))) (restore T S n (record { memory = m; register = g; table = t })) ≡ ok w) × ((q : ℕ) → q < T.lines → Exact T l g.dirty (w.table q) q)

        go :
            (b : Bool) → g.dirty n ≡ b
            → ((t' : Table) → ((q : ℕ) → n ≤ q → q < T.lines → Exact T l g.dirty (t' q) q) → ((q : ℕ) → q < n → t' q ≡ none) → (w : View) × (restore T S n (record { memory = m; register = g; table = t' }) ≡ ok w) × ((q : ℕ) → q < T.lines → Exact T l g.dirty (w.table q) q))
            → Result b
        go true u ih =
            let t' : Table = update t n (some (slot_from T m n)) in
            let at : (q : ℕ) → n ≤ q → q < T.lines → Exact T l g.dirty (t' q) q = λ q a b. at_or q a b (cases_lt n q) in
            let (w, e, z) = ih t' at (λ q a. update_other t n (some (slot_from T m n)) q (λ b. omega arith) ∙ y q (omega arith)) in
            (w, rw (node_restored n t (omega arith) u x) e, z)
          where
            at_or : (q : ℕ) → n ≤ q → q < T.lines → (n < q) ⊎ (q ≤ n) → Exact T l g.dirty (update t n (some (slot_from T m n)) q) q
            at_or q a b (inl c) = rw (update_other t n (some (slot_from T m n)) q (λ d. omega arith)) (x q (omega arith) b)
            at_or q a b (inr c) =
                let e : q ≡ n = omega arith in
                rw (update_same t n (some (slot_from T m n)) q e) (subst (λ j. Exact T l g.dirty (some (slot_from T m n)) j) (sym e) (slot_exact n (omega arith) u))
        go false u ih = ih t (λ q a b. at_or q a b (cases_lt n q)) (λ q a. y q (omega arith))
          where
            at_or : (q : ℕ) → n ≤ q → q < T.lines → (n < q) ⊎ (q ≤ n) → Exact T l g.dirty (t q) q
            at_or q a b (inl c) = x q (omega arith) b
            at_or q a b (inr c) =
                let e : q ≡ n = omega arith in
                subst (λ j. Exact T l g.dirty (t j) j) (sym e) (rw (y n (omega arith)) u)

    -- Then bring-up is accepted.
    pub recover_complete : (t : Table) × (recover T S m g ≡ ok t)
    unfolding recover bind
    recover_complete =
        let (w, e, x) = restored_all T.lines (λ p. none) (omega arith) (λ q a b. absurd (omega arith)) (λ q a. refl) in
        (w.table, rw (e, eq-eqb (sum_of T w.table) g.dirty_sum (exact_sum T S l g.dirty w.table x ∙ sym D.dirty_sum)))

-- A refused bring-up, past its first checks, is for a corrupt line or a missed total.
module _ (T : Shape) (S : Scheme) where
  counter_cause : (v : View) (r a : ℕ) (x : Fault) → counter_at T S v r a ≡ err x → x.cause ≡ corrupt
  unfolding counter_at
  counter_cause v zero a x e = absurd (err≢ok (sym e))
  counter_cause v (suc r) a x e = go (v.table (T.parent a)) (counter_at T S v r (T.parent a)) (λ y. counter_cause v r (T.parent a) y) e
    where
      judged : (b : Bool) (y : ℕ) → cond b (ok y) (err (fault corrupt (T.parent a))) ≡ err x → x.cause ≡ corrupt
      judged true y e = absurd (err≢ok (sym e))
      judged false y e = ap (λ z. z.cause) (sym (err_inj e))

      go : (o : Option Slot) (z : Outcome ℕ) → ((y : Fault) → z ≡ err y → y.cause ≡ corrupt) → held o (T.index a) (in_line T S v.memory (T.parent a) (T.index a) z) ≡ err x → x.cause ≡ corrupt
      go (some s) z ih e = absurd (err≢ok (sym e))
      go none (ok c) ih e = judged (node_valid T S v.memory (T.parent a) c) _ e
      go none (err y) ih e = ih x e

  pub bind_err : {A B : Type 0} (P : Fault → Type 0) (x : Outcome A) (f : A → Outcome B) (y : Fault) → ((r : Fault) → x ≡ err r → P r) → ((z : A) → x ≡ ok z → f z ≡ err y → P y) → bind x f ≡ err y → P y
  unfolding bind
  bind_err P (ok z) f y h k e = k z refl e
  bind_err P (err r) f y h k e = subst P (err_inj e) (h r refl)

  abbrev IsCorrupt : Fault → Type 0
  IsCorrupt x = x.cause ≡ corrupt

  node_cause : (v : View) (p : ℕ) (x : Fault) → restore_node T S v p ≡ err x → x.cause ≡ corrupt
  unfolding restore_node counter_of
  node_cause v p x e = bind_err IsCorrupt (counter_at T S v (T.depth (T.parent p)) p) _ x (λ r. counter_cause v (T.depth (T.parent p)) p r) (λ c _ f. judged (node_valid T S v.memory p c) (first (T.arity p) (λ i. not (child_valid T S v.memory p i))) f) e
    where
      judged : (b : Bool) (o : Option ℕ) → cond b (slot_unless T v.memory p o) (err (fault corrupt p)) ≡ err x → x.cause ≡ corrupt
      judged true (some i) e = ap (λ z. z.cause) (sym (err_inj e))
      judged true none e = absurd (err≢ok (sym e))
      judged false o e = ap (λ z. z.cause) (sym (err_inj e))

  pub restore_cause : (n : ℕ) (v : View) (x : Fault) → restore T S n v ≡ err x → x.cause ≡ corrupt
  unfolding restore
  restore_cause zero v x e = absurd (err≢ok (sym e))
  restore_cause (suc p) v x e = go (v.register.dirty p) (λ u. restore_cause p u x) e
    where
      go : (b : Bool) → ((u : View) → restore T S p u ≡ err x → x.cause ≡ corrupt) → cond b (bind (restore_node T S v p) (λ s. restore T S p (with_slot v p s))) (restore T S p v) ≡ err x → x.cause ≡ corrupt
      go true ih e = bind_err IsCorrupt (restore_node T S v p) _ x (λ r. node_cause v p r) (λ s _ f. ih (with_slot v p s) f) e
      go false ih e = ih v e

  pub recover_cause : (m : ℕ → Line) (g : Register) (x : Fault) → recover T S m g ≡ err x → (x.cause ≡ power_lost) → ⊥
  unfolding recover
  recover_cause m g x e =
      bind_err (λ x. x.cause ≡ power_lost → ⊥) (restore T S T.lines (record { memory = m; register = g; table = λ p. none })) _ x (λ r f h. cc (restore_cause T.lines _ r f)) (λ w _ f. judged w (eqb (sum_of T w.table) g.dirty_sum) f) e
    where
      judged : (w : View) (b : Bool) → cond b (ok w.table) (err (fault sum_mismatch 0)) ≡ err x → x.cause ≡ power_lost → ⊥
      judged w true e h = absurd (err≢ok (sym e))
      judged w false e h = cc

  -- A fault for a corrupt line names a line that the bring-up rests on.
  abbrev Named : (ℕ → Bool) → Fault → Type 0
  Named dirty x = (q : ℕ) × (x ≡ fault corrupt q) × RecoveryRests T dirty q

  module _ (L : TreeLaws T) where
    -- Every dirty node above a has its slot.
    abbrev Known : View → ℕ → Type 0
    Known v a = (q : ℕ) → a ≤ q → q < T.lines → v.table q ≡ none → v.register.dirty q ≡ false

    counter_place : (v : View) (r a : ℕ) (x : Fault) → a < T.lines → T.depth (T.parent a) ≡ r → Known v (suc a) → counter_at T S v r a ≡ err x → (q : ℕ) × (x ≡ fault corrupt q) × Rests T v.register.dirty a q
    unfolding counter_at
    counter_place v zero a x k e h f = absurd (err≢ok (sym f))
    counter_place v (suc r) a x k e h f =
        go (v.table (T.parent a)) refl (counter_at T S v r (T.parent a))
        (λ y. counter_place v r (T.parent a) y j (depth_next T L a r j e) (λ q i. h q (omega (arith, i, L.parent_above a k)))) f
      where
        j : T.parent a < T.lines
        j = inner_parent T L a r k e

        judged : v.register.dirty (T.parent a) ≡ false → (b : Bool) (y : ℕ) → cond b (ok y) (err (fault corrupt (T.parent a))) ≡ err x → (q : ℕ) × (x ≡ fault corrupt q) × Rests T v.register.dirty a q
        judged u true y e = absurd (err≢ok (sym e))
        judged u false y e = (T.parent a, sym (err_inj e), above itself j u)

        go : (o : Option Slot) → v.table (T.parent a) ≡ o → (z : Outcome ℕ) → ((y : Fault) → z ≡ err y → (q : ℕ) × (y ≡ fault corrupt q) × Rests T v.register.dirty (T.parent a) q) → held o (T.index a) (in_line T S v.memory (T.parent a) (T.index a) z) ≡ err x → (q : ℕ) × (x ≡ fault corrupt q) × Rests T v.register.dirty a q
        go (some s) g z ih e = absurd (err≢ok (sym e))
        go none g (ok c) ih e = judged (h (T.parent a) (L.parent_above a k) j g) (node_valid T S v.memory (T.parent a) c) _ e
        go none g (err y) ih e = let (q, z, n) = ih x e in (q, z, rests_up j (h (T.parent a) (L.parent_above a k) j g) n)

    node_place : (v : View) (p : ℕ) (x : Fault) → p < T.lines → v.register.dirty p ≡ true → Known v (suc p) → restore_node T S v p ≡ err x → Named v.register.dirty x
    unfolding restore_node counter_of
    node_place v p x k u h e =
        bind_err (Named v.register.dirty) (counter_at T S v (T.depth (T.parent p)) p) _ x
        (λ r f. let (q, z, n) = counter_place v (T.depth (T.parent p)) p r k refl h f in (q, z, way k u n))
        (λ c _ f. judged (node_valid T S v.memory p c) (first (T.arity p) (λ i. not (child_valid T S v.memory p i))) refl f) e
      where
        judged : (b : Bool) (o : Option ℕ) → first (T.arity p) (λ i. not (child_valid T S v.memory p i)) ≡ o → cond b (slot_unless T v.memory p o) (err (fault corrupt p)) ≡ err x → Named v.register.dirty x
        judged true (some i) g e = (T.child p i, sym (err_inj e), child i k u (first_some (T.arity p) _ i g).0)
        judged true none g e = absurd (err≢ok (sym e))
        judged false o g e = (p, sym (err_inj e), way k u itself)

    restore_place : (n : ℕ) (v : View) (x : Fault) → n ≤ T.lines → Known v n → restore T S n v ≡ err x → Named v.register.dirty x
    unfolding restore
    restore_place zero v x k h e = absurd (err≢ok (sym e))
    restore_place (suc p) v x k h e = go (v.register.dirty p) refl (λ u. restore_place p u x (omega arith)) e
      where
        on : (s : Slot) → Known (with_slot v p s) p
        on s q i j f = at (cases_lt p q)
          where
            at : (p < q) ⊎ (q ≤ p) → v.register.dirty q ≡ false
            at (inl y) = h q y j (sym (update_other v.table p (some s) q (λ z. omega arith)) ∙ f)
            at (inr y) = absurd (none≢some (sym f ∙ update_same v.table p (some s) q (omega arith)))

        past : v.register.dirty p ≡ false → Known v p
        past u q i j f = at (cases_lt p q)
          where
            at : (p < q) ⊎ (q ≤ p) → v.register.dirty q ≡ false
            at (inl y) = h q y j f
            at (inr y) = let z : q ≡ p = omega arith in ap v.register.dirty z ∙ u

        go : (b : Bool) → v.register.dirty p ≡ b → ((u : View) → Known u p → restore T S p u ≡ err x → Named u.register.dirty x) → cond b (bind (restore_node T S v p) (λ s. restore T S p (with_slot v p s))) (restore T S p v) ≡ err x → Named v.register.dirty x
        go true u ih e = bind_err (Named v.register.dirty) (restore_node T S v p) _ x (λ r. node_place v p r (omega arith) u h) (λ s _ f. ih (with_slot v p s) (on s) f) e
        go false u ih e = ih v (past u) e

    pub recover_why : (m : ℕ → Line) (g : Register) (x : Fault) → recover T S m g ≡ err x → Named g.dirty x ⊎ (x ≡ fault sum_mismatch 0)
    unfolding recover
    recover_why m g x e =
        bind_err (λ x. Named g.dirty x ⊎ (x ≡ fault sum_mismatch 0)) (restore T S T.lines (record { memory = m; register = g; table = λ p. none })) _ x (λ r f. inl (restore_place T.lines _ r (omega arith) (λ q i j. absurd (omega arith)) f)) (λ w _ f. judged w (eqb (sum_of T w.table) g.dirty_sum) f) e
      where
        judged : (w : View) (b : Bool) → cond b (ok w.table) (err (fault sum_mismatch 0)) ≡ err x → Named g.dirty x ⊎ (x ≡ fault sum_mismatch 0)
        judged w true e = absurd (err≢ok (sym e))
        judged w false e = inr (sym (err_inj e))
