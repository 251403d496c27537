-- A line that a bring-up names as corrupt does not stand, or one of those above it does not.
use Rattle.std.proofs.Common.{◌≡◌, ℕ, zero, suc, ◌-◌, ◌<◌, ◌≤◌, Bool, true, false, cond, not, eqb, ltb, ◌⊎◌, sym, refl, ap, ◌∙◌, subst, inl, inr, arith}
use mathlib.Core.Option.{Option, some, none}
use Rattle.std.proofs.lemmas.Bool.{cases_lt, cases_eq, both_ways, and_from, le-leb, lt-ltb, ltb-false, not_from_true}
use Rattle.suite.specs.Scheme.{Line, Scheme, right}
use Rattle.machine.specs.Layout.{Shape, TreeLaws, update, first}
use Rattle.machine.specs.Store.{Register, Log}
use Rattle.machine.specs.Faults.{Fault, fault, Outcome, ok, err, bind, corrupt, sum_mismatch}
use Rattle.machine.specs.Plans.{Slot, Table, View, node_valid, held, in_line, counter_at, counter_of, child_counter, child_valid, slot_unless, slot_from, restore_node, with_slot, restore, recover, sum_of}
use Rattle.machine.specs.History.{counter_in, body_in}
use Rattle.machine.specs.Laws.{Stands, Rests, itself, above}
use Rattle.machine.proofs.Invariant.{Durable}
use Rattle.machine.proofs.Basics.{update_same, update_other, err≢ok, ok_inj, err_inj, none≢some, some_inj, first_some, term_le, same_cause}
use Rattle.machine.proofs.Lines.{stands_right, stands_valid, node_words, child_is}
use Rattle.machine.proofs.TrustedCounter.{rests_up, inner_parent, depth_next, root_counter, line_counter}
use Rattle.machine.proofs.Recovery.{slot_facts, bind_err}

module _ (shapes : ℕ → Shape) (T : Shape) (L : TreeLaws T) (S : Scheme) (l : Log) (m : ℕ → Line) (g : Register) (D : Durable T S l g) where
  -- A line and all those above it stand.
  abbrev WayStands : ℕ → Type 0
  WayStands q = (u : ℕ) → Rests T (λ p. false) q u → Stands T S l m u

  restored : (a : ℕ) → T.parent a < T.lines → WayStands a → WayStands (T.parent a)
  restored a k h u r = h u (rests_up {dirty = λ p. false} k refl r)

  abbrev at : Table → View
  at t = record { memory = m; register = g; table = t }

  -- From address a on a dirty node has its slot; and a slot is what its line and its children's give.
  abbrev Known : Table → ℕ → Type 0
  Known t a = (q : ℕ) → a ≤ q → q < T.lines → t q ≡ none → g.dirty q ≡ false

  abbrev Given : Table → Type 0
  Given t = (q : ℕ) (s : Slot) → t q ≡ some s → (q < T.lines) × (g.dirty q ≡ true) × (s ≡ slot_from T m q)

  words_are : (p i : ℕ) → T.data_lines ≤ p → Stands T S l m p → (m p).words i ≡ body_in l p i
  words_are p i n s = ap (λ z. z.words i) s ∙ ap (λ f. f i) (node_words T S p _ _ n)

  child_true : (p i : ℕ) → p < T.lines → g.dirty p ≡ true → i < T.arity p → Stands T S l m p → Stands T S l m (T.child p i) → child_counter T m p i ≡ counter_in l (T.child p i)
  child_true p i k u j s c =
      let n = (D.inner p u).0 in
      child_is shapes T S l g D m p i (rw (words_are p i n s) (D.older p (counter_in l p) (body_in l p) n (D.latest p k) i j))
      (rw (words_are p i n s) (omega (arith, D.dirty_few p n k u, term_le (T.arity p) (λ i. counter_in l (T.child p i) - body_in l p i) i j))) c

  -- Where a line and all above it stand, its counter is found.
  chain_counter : (t : Table) (r a : ℕ) → a < T.lines → T.depth (T.parent a) ≡ r → Known t (suc a) → Given t → WayStands a → counter_at T S (at t) r a ≡ ok (counter_in l a)
  unfolding counter_at
  chain_counter t zero a k e kn gi h = ap ok (root_counter shapes T L S l (at t) D a k e)
  chain_counter t (suc r) a k e kn gi h =
      go (t (T.parent a)) refl (chain_counter t r (T.parent a) j (depth_next T L a r j e) (λ q i. kn q (omega (arith, i, L.parent_above a k))) gi (restored a j h))
    where
      j : T.parent a < T.lines
      j = inner_parent T L a r k e

      st : Stands T S l m (T.parent a)
      st = restored a j h (T.parent a) itself

      go : (o : Option Slot) → t (T.parent a) ≡ o → counter_at T S (at t) r (T.parent a) ≡ ok (counter_in l (T.parent a)) → held o (T.index a) (in_line T S m (T.parent a) (T.index a) (counter_at T S (at t) r (T.parent a))) ≡ ok (counter_in l a)
      go (some s) f ih =
          let (_, u, z) = gi (T.parent a) s f in
          let c : T.child (T.parent a) (T.index a) ≡ a = L.child_index a k in
          let y : (slot_from T m (T.parent a)).counters (T.index a) ≡ child_counter T m (T.parent a) (T.index a) = ap (λ b. cond b (child_counter T m (T.parent a) (T.index a)) 0) (lt-ltb (T.index a) (T.arity (T.parent a)) (L.index_in a k)) in
          ap ok (ap (λ q. q.counters (T.index a)) z ∙ y ∙ child_true (T.parent a) (T.index a) j u (L.index_in a k) st (subst (Stands T S l m) (sym c) (h a itself)) ∙ ap (counter_in l) c)
      go none f ih =
          let u = kn (T.parent a) (L.parent_above a k) j f in
          rw (ih, stands_valid shapes T S l g D m L (T.parent a) (L.parent_node a k) j st) (ap ok (line_counter shapes T L S l (at t) D a k j u st))

  place_inj : {q z : ℕ} → fault corrupt q ≡ fault corrupt z → q ≡ z
  place_inj e = ap (λ r. r.place) e

  abbrev Fails : Fault → Type 0
  Fails x = (q : ℕ) → x ≡ fault corrupt q → WayStands q → ⊥

  -- A line judged unsound under its found counter is not whole.
  unsound : (t : Table) (a c : ℕ) → T.data_lines ≤ a → a < T.lines → Known t (suc a) → Given t → counter_at T S (at t) (T.depth (T.parent a)) a ≡ ok c → node_valid T S m a c ≡ false → WayStands a → ⊥
  unsound t a c n k kn gi e f h =
      let z : c ≡ counter_in l a = ok_inj (sym e ∙ chain_counter t (T.depth (T.parent a)) a k refl kn gi h) in
      both_ways _ f (subst (λ y. node_valid T S m a y ≡ true) (sym z) (stands_valid shapes T S l g D m L a n k (h a itself)))

  counter_fails : (t : Table) (r a : ℕ) (x : Fault) → a < T.lines → T.depth (T.parent a) ≡ r → Known t (suc a) → Given t → counter_at T S (at t) r a ≡ err x → Fails x
  unfolding counter_at
  counter_fails t zero a x k e kn gi f = absurd (err≢ok (sym f))
  counter_fails t (suc r) a x k e kn gi f =
      go (t (T.parent a)) (counter_at T S (at t) r (T.parent a)) refl
      (λ y. counter_fails t r (T.parent a) y j (depth_next T L a r j e) kn' gi) f
    where
      j : T.parent a < T.lines
      j = inner_parent T L a r k e

      kn' : Known t (suc (T.parent a))
      kn' q i = kn q (omega (arith, i, L.parent_above a k))

      judged : (c : ℕ) → counter_at T S (at t) r (T.parent a) ≡ ok c → (b : Bool) → node_valid T S m (T.parent a) c ≡ b → (y : ℕ) → cond b (ok y) (err (fault corrupt (T.parent a))) ≡ err x → Fails x
      judged c p true so y e' q z h = absurd (err≢ok (sym e'))
      judged c p false so y e' q z h =
          let u : T.parent a ≡ q = place_inj (err_inj e' ∙ z) in
          unsound t (T.parent a) c (L.parent_node a k) j kn' gi (subst (λ n. counter_at T S (at t) n (T.parent a) ≡ ok c) (sym (depth_next T L a r j e)) p) so (subst WayStands (sym u) h)

      go : (o : Option Slot) (z : Outcome ℕ) → counter_at T S (at t) r (T.parent a) ≡ z → ((y : Fault) → z ≡ err y → Fails y) → held o (T.index a) (in_line T S m (T.parent a) (T.index a) z) ≡ err x → Fails x
      go (some s) z p ih e' = absurd (err≢ok (sym e'))
      go none (ok c) p ih e' = judged c p (node_valid T S m (T.parent a) c) refl _ e'
      go none (err y) p ih e' = ih x e'

  node_fails : (t : Table) (p : ℕ) (x : Fault) → p < T.lines → g.dirty p ≡ true → Known t (suc p) → Given t → restore_node T S (at t) p ≡ err x → Fails x
  unfolding restore_node counter_of
  node_fails t p x k u kn gi e =
      bind_err T S Fails (counter_at T S (at t) (T.depth (T.parent p)) p) _ x
      (λ r f. counter_fails t (T.depth (T.parent p)) p r k refl kn gi f)
      (λ c h f. judged c h (node_valid T S m p c) refl (first (T.arity p) (λ i. not (child_valid T S m p i))) refl f) e
    where
      n : T.data_lines ≤ p
      n = (D.inner p u).0

      ok_child : (i : ℕ) → i < T.arity p → WayStands (T.child p i) → child_valid T S m p i ≡ true
      ok_child i j h =
          let c : T.child p i < T.lines = L.child_in p i n (omega arith) j in
          let d : T.parent (T.child p i) ≡ p = L.parent_child p i n (omega arith) j in
          let sc : Stands T S l m (T.child p i) = h (T.child p i) itself in
          let sp : Stands T S l m p = subst (Stands T S l m) d (h (T.parent (T.child p i)) (above itself (subst (λ z. z < T.lines) (sym d) k) refl)) in
          rw (child_true p i k u j sp sc) (and_from _ _ (le-leb _ _ (D.small (T.child p i) c)) (body c sc (ltb (T.child p i) T.data_lines) refl))
        where
          body : T.child p i < T.lines → Stands T S l m (T.child p i) → (z : Bool) → ltb (T.child p i) T.data_lines ≡ z → cond z (right S (T.child p i) (counter_in l (T.child p i)) (m (T.child p i))) (node_valid T S m (T.child p i) (counter_in l (T.child p i))) ≡ true
          body c s true f = stands_right shapes T S l g D m (T.child p i) s
          body c s false f = stands_valid shapes T S l g D m L (T.child p i) (ltb-false _ _ f) c s

      judged : (c : ℕ) → counter_at T S (at t) (T.depth (T.parent p)) p ≡ ok c → (b : Bool) → node_valid T S m p c ≡ b → (o : Option ℕ) → first (T.arity p) (λ i. not (child_valid T S m p i)) ≡ o → cond b (slot_unless T m p o) (err (fault corrupt p)) ≡ err x → Fails x
      judged c h true so (some i) f e q z w =
          let y : T.child p i ≡ q = place_inj (err_inj e ∙ z) in
          let (j, err-child, _) = first_some (T.arity p) _ i f in
          both_ways _ (not_from_true _ (ok_child i j (subst WayStands (sym y) w))) err-child
      judged c h true so none f e q z w = err≢ok (sym e)
      judged c h false so o f e q z w =
          let y : p ≡ q = place_inj (err_inj e ∙ z) in
          unsound t p c n k kn gi h so (subst WayStands (sym y) w)

  restore_fails : (n : ℕ) (t : Table) (x : Fault) → n ≤ T.lines → Known t n → Given t → restore T S n (at t) ≡ err x → Fails x
  unfolding restore
  restore_fails zero t x k kn gi e = absurd (err≢ok (sym e))
  restore_fails (suc p) t x k kn gi e = go (g.dirty p) refl (λ t'. restore_fails p t' x (omega arith)) e
    where
      on : (s : Slot) → Known (update t p (some s)) p
      on s q i j f = or (cases_lt p q)
        where
          or : (p < q) ⊎ (q ≤ p) → g.dirty q ≡ false
          or (inl y) = kn q y j (sym (update_other t p (some s) q (λ z. omega arith)) ∙ f)
          or (inr y) = absurd (none≢some (sym f ∙ update_same t p (some s) q (omega arith)))

      gives : g.dirty p ≡ true → (s : Slot) → s ≡ slot_from T m p → Given (update t p (some s))
      gives u s z q s' f = or (cases_eq q p)
        where
          or : (q ≡ p) ⊎ (q ≡ p → ⊥) → (q < T.lines) × (g.dirty q ≡ true) × (s' ≡ slot_from T m q)
          or (inr y) = gi q s' (sym (update_other t p (some s) q y) ∙ f)
          or (inl w) = (omega arith, ap g.dirty w ∙ u, some_inj (sym f ∙ update_same t p (some s) q w) ∙ z ∙ ap (slot_from T m) (sym w))

      past : g.dirty p ≡ false → Known t p
      past u q i j f = or (cases_lt p q)
        where
          or : (p < q) ⊎ (q ≤ p) → g.dirty q ≡ false
          or (inl y) = kn q y j f
          or (inr y) = let z : q ≡ p = omega arith in ap g.dirty z ∙ u

      go : (b : Bool) → g.dirty p ≡ b → ((t' : Table) → Known t' p → Given t' → restore T S p (at t') ≡ err x → Fails x) → cond b (bind (restore_node T S (at t) p) (λ s. restore T S p (with_slot (at t) p s))) (restore T S p (at t)) ≡ err x → Fails x
      go true u ih e =
          bind_err T S Fails (restore_node T S (at t) p) _ x (λ r. node_fails t p r (omega arith) u kn gi)
          (λ s h f. let (c, _, _, _, z) = slot_facts T S (at t) p s h in ih (update t p (some s)) (on s) (gives u s z) f) e
      go false u ih e = ih t (past u) gi e

  pub recover_fails : (x : Fault) → recover T S m g ≡ err x → Fails x
  unfolding recover
  recover_fails x e =
      bind_err T S Fails (restore T S T.lines (at (λ p. none))) _ x (λ r. restore_fails T.lines (λ p. none) r (omega arith) (λ q i j. absurd (omega arith)) (λ q s f. absurd (none≢some f)))
      (λ w _ f. judged w (eqb (sum_of T w.table) g.dirty_sum) f) e
    where
      judged : (w : View) (b : Bool) → cond b (ok w.table) (err (fault sum_mismatch 0)) ≡ err x → Fails x
      judged w true e q f h = absurd (err≢ok (sym e))
      judged w false e q f h = cc (same_cause (err_inj e ∙ f))
