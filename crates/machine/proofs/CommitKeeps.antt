-- One commit keeps the register, the log and the slots in step.
use Rattle.std.proofs.Common.{◌≡◌, ℕ, suc, ◌-◌, ◌<◌, ◌≤◌, Bool, true, false, ◌⊎◌, ◌∷◌, sym, refl, ap, ◌∙◌, subst, inl, inr, ⊎_elim, arith}
use mathlib.Core.Option.{Option, some, none}
use Rattle.std.proofs.lemmas.Bool.{cases_lt, cases_eq, both_ways, eq-eqb, ne_eqb}
use Rattle.suite.specs.Scheme.{Body, Line, Scheme}
use Rattle.machine.specs.Layout.{Shape, TreeLaws, update, sum_to}
use Rattle.machine.specs.Store.{line_at, Journal, Register, Commit, Log}
use Rattle.machine.specs.Plans.{Slot, Table, is_dirty, View, slot_for, raised, raise_table, commit_register}
use Rattle.machine.specs.History.{counter_in, body_in, InLog}
use Rattle.machine.specs.Laws.{Stands}
use Rattle.machine.specs.CommitLaws.{pending_in}
use Rattle.machine.proofs.Pending.{pending_own, pending_parent, pending_other}
use Rattle.machine.proofs.Invariant.{Durable, Exact, Raised, SlotsHold}
use Rattle.machine.proofs.Basics.{update_same, update_other, sum_same, sum_bump, sum_zero, some_inj, none≢some}
use Rattle.machine.proofs.Lines.{node_words}
use Rattle.machine.proofs.Recovery.{exact_sum}

module _ (l : Log) (e : Commit) where
  pub counter_new : (x : ℕ) → x ≡ e.at → counter_in (e ∷ l) x ≡ e.counter
  unfolding counter_in
  counter_new x h = rw (eq-eqb e.at x (sym h))

  pub counter_old : (x : ℕ) → (x ≡ e.at → ⊥) → counter_in (e ∷ l) x ≡ counter_in l x
  unfolding counter_in
  counter_old x h = rw (ne_eqb e.at x (λ y. h (sym y)))

  pub body_new : (x : ℕ) → x ≡ e.at → body_in (e ∷ l) x ≡ e.body
  unfolding body_in
  body_new x h = rw (eq-eqb e.at x (sym h))

  pub body_old : (x : ℕ) → (x ≡ e.at → ⊥) → body_in (e ∷ l) x ≡ body_in l x
  unfolding body_in
  body_old x h = rw (ne_eqb e.at x (λ y. h (sym y)))

  pub counter_mono : e.counter ≡ suc (counter_in l e.at) → (x : ℕ) → counter_in l x ≤ counter_in (e ∷ l) x
  counter_mono h x = go (cases_eq x e.at)
    where
      go : (x ≡ e.at) ⊎ (x ≡ e.at → ⊥) → counter_in l x ≤ counter_in (e ∷ l) x
      go (inl y) = omega (arith, counter_new x y, h, ap (counter_in l) y)
      go (inr y) = omega (arith, counter_old x y)

-- What a commit finds at the parent of its line: a slot with room, or the parent's line standing.
abbrev pub Fits : Shape → Scheme → Log → (ℕ → Line) → ℕ → Option Slot → Type 0
Fits T S l m p (some s) = s.pending < 1023
Fits T S l m p none = Stands T S l m p

module _
    (T : Shape) (L : TreeLaws T) (S : Scheme) (l : Log) (v : View) (D : Durable T S l v.register) (O : SlotsHold T l v.register.dirty v.table)
    (t : Table) (a c : ℕ) (b : Body) (k : a < T.lines) (cc : c ≡ suc (counter_in l a)) (cl : c ≤ T.limit a)
    (own : t a ≡ none) (others : (p : ℕ) → (p ≡ a → ⊥) → t p ≡ v.table p)
    (full : T.data_lines ≤ a → (i : ℕ) → i < T.arity a → b i ≡ counter_in l (T.child a i))
    (fits : T.parent a < T.lines → Fits T S l v.memory (T.parent a) (v.table (T.parent a)))
    (bare : T.data_lines ≤ a → (i : ℕ) → T.arity a ≤ i → b i ≡ 0)
  where
    abbrev pub E : Commit
    E = record { at = a; counter = c; body = b }

    abbrev pub P : ℕ
    P = T.parent a

    abbrev pub new_table : Table
    new_table = raise_table T (T.depth P) v.memory t a c

    abbrev pub new_register : Register
    new_register = commit_register T v.register new_table a c (line_at T S a c b)

    parent_apart : P ≡ a → ⊥
    parent_apart e = omega (arith, e, L.parent_above a k)

    -- Another node's children are not this line.
    child_apart : (p i : ℕ) → T.data_lines ≤ p → p ≤ T.lines → i < T.arity p → (p ≡ P → ⊥) → T.child p i ≡ a → ⊥
    child_apart p i n h j z e = z (sym (L.parent_child p i n h j) ∙ ap T.parent e)

    sibling_apart : (p i : ℕ) → T.data_lines ≤ p → p ≤ T.lines → i < T.arity p → (i ≡ T.index a → ⊥) → T.child p i ≡ a → ⊥
    sibling_apart p i n h j z e = z (sym (L.index_child p i n h j) ∙ ap T.index e)

    child_below : (p i : ℕ) → T.data_lines ≤ p → p ≤ T.lines → i < T.arity p → T.child p i ≡ p → ⊥
    child_below p i n h j e = omega (arith, e, L.parent_above (T.child p i) (L.child_in p i n h j), L.parent_child p i n h j)

    -- The slots after the commit, by cases.
    at_root : P ≡ T.lines → new_table ≡ t
    at_root e = rw (e, L.depth_root)

    pub slot : Slot
    slot = slot_for v.memory (v.table P) P

    at_parent : P < T.lines → new_table ≡ update t P (some (raised slot (T.index a) c))
    unfolding slot
    at_parent h = rw (L.depth_parent P h, others P parent_apart)

    pub parent_slot : P < T.lines → new_table P ≡ some (raised slot (T.index a) c)
    parent_slot h = ap (λ f. f P) (at_parent h) ∙ update_same t P _ P refl

    parent_cases : (P < T.lines) ⊎ (P ≡ T.lines)
    parent_cases = ⊎_elim inl (λ y. inr (omega (arith, y, L.parent_in a k))) (cases_lt P T.lines)

    pub other_slot : (p : ℕ) → (p ≡ P → P ≡ T.lines) → new_table p ≡ t p
    other_slot p z = go parent_cases
      where
        go : (P < T.lines) ⊎ (P ≡ T.lines) → new_table p ≡ t p
        go (inl h) = ap (λ f. f p) (at_parent h) ∙ update_other t P _ p (λ e. omega (arith, z e))
        go (inr h) = ap (λ f. f p) (at_root h)

    pub own_slot : new_table a ≡ none
    own_slot = other_slot a (λ e. absurd (parent_apart (sym e))) ∙ own

    -- The parent's slot before the raise.
    slot_says : P < T.lines → (i : ℕ) → i < T.arity P → slot.counters i ≡ counter_in l (T.child P i)
    unfolding slot
    slot_says h i j = go (v.table P) (O.exact P) (fits h)
      where
        go : (o : Option Slot) → Exact T l v.register.dirty o P → Fits T S l v.memory P o → (slot_for v.memory o P).counters i ≡ counter_in l (T.child P i)
        go (some s) x f = x.1 i j
        go none x f = ap (λ z. z.words i) f ∙ ap (λ f. f i) (node_words T S P _ _ (L.parent_node a k)) ∙ D.level P (L.parent_node a k) h x i j

    slot_pending : P < T.lines → (slot.pending ≡ sum_to (T.arity P) (λ i. counter_in l (T.child P i) - body_in l P i)) × (slot.pending < 1023)
    unfolding slot
    slot_pending h = go (v.table P) (O.exact P) (O.raised P) (fits h)
      where
        go : (o : Option Slot) → Exact T l v.register.dirty o P → Raised T l o P → Fits T S l v.memory P o → ((slot_for v.memory o P).pending ≡ sum_to (T.arity P) (λ i. counter_in l (T.child P i) - body_in l P i)) × ((slot_for v.memory o P).pending < 1023)
        go (some s) x y f = (y, f)
        go none x y f = (sym (sum_zero (T.arity P) _ (λ i j. omega (arith, D.level P (L.parent_node a k) h x i j))), omega arith)

    -- The parent's counters after the commit are one further.
    parent_sum : P < T.lines → sum_to (T.arity P) (λ i. counter_in (E ∷ l) (T.child P i) - body_in (E ∷ l) P i) ≡ suc slot.pending
    parent_sum h =
        sum_bump (T.arity P) (λ i. counter_in l (T.child P i) - body_in l P i) _ (T.index a) (L.index_in a k)
        (rw (L.child_index a k, counter_new l E a refl, body_old l E P parent_apart, cc)
        (omega (arith, subst (λ x. body_in l P (T.index a) ≤ counter_in l x) (L.child_index a k) (D.older P (counter_in l P) (body_in l P) (L.parent_node a k) (D.latest P h) (T.index a) (L.index_in a k)))))
        (λ i j z. rw (counter_old l E (T.child P i) (sibling_apart P i (L.parent_node a k) (omega arith) j z), body_old l E P parent_apart))
        ∙ ap suc (sym (slot_pending h).0)

    abbrev NewSlot : ℕ → Option Slot → Type 0
    NewSlot p o = Exact T (E ∷ l) (λ q. is_dirty (new_table q)) o p × Raised T (E ∷ l) o p

    pending_slot : P < T.lines → NewSlot P (some (raised slot (T.index a) c))
    pending_slot h = ((ap is_dirty (parent_slot h), counters), sym (parent_sum h))
      where
        counters : (i : ℕ) → i < T.arity P → (raised slot (T.index a) c).counters i ≡ counter_in (E ∷ l) (T.child P i)
        counters i j = go (cases_eq i (T.index a))
          where
            go : (i ≡ T.index a) ⊎ (i ≡ T.index a → ⊥) → (raised slot (T.index a) c).counters i ≡ counter_in (E ∷ l) (T.child P i)
            go (inl y) = update_same slot.counters (T.index a) c i y ∙ sym (counter_new l E (T.child P i) (ap (T.child P) y ∙ L.child_index a k))
            go (inr y) = update_other slot.counters (T.index a) c i y ∙ slot_says h i j ∙ sym (counter_old l E (T.child P i) (sibling_apart P i (L.parent_node a k) (omega arith) j y))

    kept_slot : (p : ℕ) → (p ≡ P → P ≡ T.lines) → (p ≡ a → ⊥) → NewSlot p (v.table p)
    kept_slot p z d = go (v.table p) refl (O.exact p) (O.raised p)
      where
        same : new_table p ≡ v.table p
        same = other_slot p z ∙ others p d

        go : (o : Option Slot) → v.table p ≡ o → Exact T l v.register.dirty o p → Raised T l o p → NewSlot p o
        go (some s) q x y =
            let (n, h) = D.inner p x.0 in
            let apart : (i : ℕ) → i < T.arity p → T.child p i ≡ a → ⊥ = λ i j. child_apart p i n (omega arith) j (λ e. omega (arith, z e)) in (
              (ap is_dirty (same ∙ q), λ i j. x.1 i j ∙ sym (counter_old l E (T.child p i) (apart i j))),
              y ∙ sum_same (T.arity p) _ _ (λ i j. rw (counter_old l E (T.child p i) (apart i j), body_old l E p d)),
            )
        go none q x y = (ap is_dirty (same ∙ q), tt)

    new_slot : (p : ℕ) → NewSlot p (new_table p)
    new_slot p = go (cases_eq p P) parent_cases (cases_eq p a)
      where
        rest : (p ≡ P → P ≡ T.lines) → (p ≡ a) ⊎ (p ≡ a → ⊥) → NewSlot p (new_table p)
        rest z (inl e) =
            let o : new_table p ≡ none = ap new_table e ∙ own_slot in
            subst (NewSlot p) (sym o) (ap is_dirty o, tt)
        rest z (inr d) = subst (NewSlot p) (sym (other_slot p z ∙ others p d)) (kept_slot p z d)

        go : (p ≡ P) ⊎ (p ≡ P → ⊥) → (P < T.lines) ⊎ (P ≡ T.lines) → (p ≡ a) ⊎ (p ≡ a → ⊥) → NewSlot p (new_table p)
        go (inl e) (inl h) x = subst (λ q. NewSlot q (new_table q)) (sym e) (subst (NewSlot P) (sym (parent_slot h)) (pending_slot h))
        go (inl e) (inr h) x = rest (λ _. h) x
        go (inr e) y x = rest (λ f. absurd (e f)) x

    slot_bare : P < T.lines → (i : ℕ) → T.arity P ≤ i → slot.counters i ≡ 0
    unfolding slot
    slot_bare h i j = go (v.table P) refl (O.exact P) (fits h)
      where
        go : (o : Option Slot) → v.table P ≡ o → Exact T l v.register.dirty o P → Fits T S l v.memory P o → (slot_for v.memory o P).counters i ≡ 0
        go (some s) e x f = O.bare P s e i j
        go none e x f = ap (λ z. z.words i) f ∙ ap (λ f. f i) (node_words T S P _ _ (L.parent_node a k)) ∙ D.blank_lines P (L.parent_node a k) h i j

    new_bare : (p : ℕ) (s : Slot) → new_table p ≡ some s → (i : ℕ) → T.arity p ≤ i → s.counters i ≡ 0
    new_bare p s e i j = go (cases_eq p P) parent_cases (cases_eq p a)
      where
        rest : (p ≡ P → P ≡ T.lines) → (p ≡ a) ⊎ (p ≡ a → ⊥) → s.counters i ≡ 0
        rest z (inl f) = absurd (none≢some (sym (ap new_table f ∙ own_slot) ∙ e))
        rest z (inr d) = O.bare p s (sym (other_slot p z ∙ others p d) ∙ e) i j

        go : (p ≡ P) ⊎ (p ≡ P → ⊥) → (P < T.lines) ⊎ (P ≡ T.lines) → (p ≡ a) ⊎ (p ≡ a → ⊥) → s.counters i ≡ 0
        go (inl f) (inl h) x =
            let j' : T.arity P ≤ i = subst (λ q. T.arity q ≤ i) f j in
            ap (λ z. z.counters i) (some_inj (sym e ∙ ap new_table f ∙ parent_slot h)) ∙ update_other slot.counters (T.index a) c i (λ y. omega (arith, y, L.index_in a k, j')) ∙ slot_bare h i j'
        go (inl f) (inr h) x = rest (λ _. h) x
        go (inr f) y x = rest (λ g. absurd (f g)) x

    -- Slots and dirty map hold the truth of the longer log.
    pub new_live : SlotsHold T (E ∷ l) (λ p. is_dirty (new_table p)) new_table
    new_live = record { exact = λ p. (new_slot p).0; raised = λ p. (new_slot p).1; bare = new_bare }

    -- A bit of the dirty map other than the parent's was there before.
    old_bit : (p : ℕ) → (p ≡ P → P ≡ T.lines) → (p ≡ a → ⊥) → (b : Bool) → is_dirty (new_table p) ≡ b → v.register.dirty p ≡ b
    old_bit p z d b h = go (v.table p) (O.exact p) (sym (ap is_dirty (other_slot p z ∙ others p d)) ∙ h)
      where
        go : (o : Option Slot) → Exact T l v.register.dirty o p → is_dirty o ≡ b → v.register.dirty p ≡ b
        go (some s) x e = x.0 ∙ e
        go none x e = x ∙ e

    new_inner : (p : ℕ) → is_dirty (new_table p) ≡ true → (T.data_lines ≤ p) × (p < T.lines)
    new_inner p h = go (cases_eq p P) parent_cases (cases_eq p a)
      where
        rest : (p ≡ P → P ≡ T.lines) → (p ≡ a) ⊎ (p ≡ a → ⊥) → (T.data_lines ≤ p) × (p < T.lines)
        rest z (inl e) = absurd (both_ways _ (ap (λ q. is_dirty (new_table q)) e ∙ ap is_dirty own_slot) h)
        rest z (inr d) = D.inner p (old_bit p z d true h)

        go : (p ≡ P) ⊎ (p ≡ P → ⊥) → (P < T.lines) ⊎ (P ≡ T.lines) → (p ≡ a) ⊎ (p ≡ a → ⊥) → (T.data_lines ≤ p) × (p < T.lines)
        go (inl e) (inl i) x = (omega (arith, e, L.parent_node a k), omega arith)
        go (inl e) (inr i) x = rest (λ _. i) x
        go (inr e) y x = rest (λ f. absurd (e f)) x

    new_roots : (i : ℕ) → i < T.arity T.lines → new_register.roots i ≡ counter_in (E ∷ l) (T.child T.lines i)
    new_roots i j = go parent_cases
      where
        n : T.data_lines ≤ T.lines
        n = L.data_in

        go : (P < T.lines) ⊎ (P ≡ T.lines) → new_register.roots i ≡ counter_in (E ∷ l) (T.child T.lines i)
        go (inl h) = rw (L.depth_parent P h) (D.roots i j ∙ sym (counter_old l E (T.child T.lines i) (child_apart T.lines i n (omega arith) j (λ e. omega arith))))
        go (inr h) = rw (h, L.depth_root) (index (cases_eq i (T.index a)))
          where
            index : (i ≡ T.index a) ⊎ (i ≡ T.index a → ⊥) → update v.register.roots (T.index a) c i ≡ counter_in (E ∷ l) (T.child T.lines i)
            index (inl y) = update_same v.register.roots (T.index a) c i y ∙ sym (counter_new l E (T.child T.lines i) (ap (T.child T.lines) y ∙ ap (λ q. T.child q (T.index a)) (sym h) ∙ L.child_index a k))
            index (inr y) = update_other v.register.roots (T.index a) c i y ∙ D.roots i j ∙ sym (counter_old l E (T.child T.lines i) (sibling_apart T.lines i n (omega arith) j y))

    mono : (x : ℕ) → counter_in l x ≤ counter_in (E ∷ l) x
    mono = counter_mono l E cc

    new_known : (x d : ℕ) (f : Body) → InLog (E ∷ l) x d f → (x < T.lines) × (d ≤ counter_in (E ∷ l) x)
    new_known x d f (inl h) = (omega (arith, h.0, k), omega (arith, h.1, counter_new l E x (sym h.0)))
    new_known x d f (inr h) = let y = D.known x d f h in (y.0, omega (arith, y.1, mono x))

    stale : (x d : ℕ) (f : Body) → a ≡ x → c ≡ d → InLog l x d f → ⊥
    stale x d f e h w = omega (arith, (D.known x d f w).1, e, h, cc, ap (counter_in l) e)

    new_one : (x d : ℕ) (f h : Body) → InLog (E ∷ l) x d f → InLog (E ∷ l) x d h → f ≡ h
    new_one x d f h (inl u) (inl w) = sym u.2 ∙ w.2
    new_one x d f h (inl u) (inr w) = absurd (stale x d h u.0 u.1 w)
    new_one x d f h (inr u) (inl w) = absurd (stale x d f w.0 w.1 u)
    new_one x d f h (inr u) (inr w) = D.one x d f h u w

    new_latest : (x : ℕ) → x < T.lines → InLog (E ∷ l) x (counter_in (E ∷ l) x) (body_in (E ∷ l) x)
    new_latest x j = go (cases_eq x a)
      where
        go : (x ≡ a) ⊎ (x ≡ a → ⊥) → InLog (E ∷ l) x (counter_in (E ∷ l) x) (body_in (E ∷ l) x)
        go (inl e) = inl (sym e, sym (counter_new l E x e), sym (body_new l E x e))
        go (inr e) = inr (rw (counter_old l E x e, body_old l E x e) (D.latest x j))

    new_older : (p d : ℕ) (f : Body) → T.data_lines ≤ p → InLog (E ∷ l) p d f → (i : ℕ) → i < T.arity p → f i ≤ counter_in (E ∷ l) (T.child p i)
    new_older p d f n (inl w) i j =
        subst (λ g. g i ≤ counter_in (E ∷ l) (T.child p i)) w.2
        (omega (arith, full (omega (arith, w.0)) i (subst (λ q. i < T.arity q) (sym w.0) j), ap (λ q. counter_in l (T.child q i)) w.0, mono (T.child p i)))
    new_older p d f n (inr w) i j = omega (arith, D.older p d f n w i j, mono (T.child p i))

    new_level : (p : ℕ) → T.data_lines ≤ p → p < T.lines → is_dirty (new_table p) ≡ false → (i : ℕ) → i < T.arity p → body_in (E ∷ l) p i ≡ counter_in (E ∷ l) (T.child p i)
    new_level p n h u i j = go (cases_eq p a) (cases_eq p P)
      where
        go : (p ≡ a) ⊎ (p ≡ a → ⊥) → (p ≡ P) ⊎ (p ≡ P → ⊥) → body_in (E ∷ l) p i ≡ counter_in (E ∷ l) (T.child p i)
        go (inl e) y =
            ap (λ g. g i) (body_new l E p e) ∙ full (omega arith) i (subst (λ q. i < T.arity q) e j) ∙ ap (λ q. counter_in l (T.child q i)) (sym e)
            ∙ sym (counter_old l E (T.child p i) (λ f. child_below p i n (omega arith) j (f ∙ sym e)))
        go (inr e) (inl y) = absurd (both_ways _ u (ap (λ q. is_dirty (new_table q)) y ∙ ap is_dirty (parent_slot (omega arith))))
        go (inr e) (inr y) =
            ap (λ g. g i) (body_old l E p e) ∙ D.level p n h (old_bit p (λ f. absurd (y f)) e false u) i j ∙ sym (counter_old l E (T.child p i) (child_apart p i n (omega arith) j y))

    new_dirty : (p : ℕ) → T.data_lines ≤ p → p < T.lines → is_dirty (new_table p) ≡ true → sum_to (T.arity p) (λ i. counter_in (E ∷ l) (T.child p i) - body_in (E ∷ l) p i) ≤ 1023
    new_dirty p n h u = go (cases_eq p a) (cases_eq p P)
      where
        go : (p ≡ a) ⊎ (p ≡ a → ⊥) → (p ≡ P) ⊎ (p ≡ P → ⊥) → sum_to (T.arity p) (λ i. counter_in (E ∷ l) (T.child p i) - body_in (E ∷ l) p i) ≤ 1023
        go (inl e) y = absurd (both_ways _ (ap (λ q. is_dirty (new_table q)) e ∙ ap is_dirty own_slot) u)
        go (inr e) (inl y) =
            let i : P < T.lines = omega arith in
            subst (λ q. sum_to (T.arity q) (λ i. counter_in (E ∷ l) (T.child q i) - body_in (E ∷ l) q i) ≤ 1023) (sym y) (omega (arith, parent_sum i, (slot_pending i).1))
        go (inr e) (inr y) =
            omega (
              arith,
              D.dirty_few p n h (old_bit p (λ f. absurd (y f)) e true u),
              sum_same (T.arity p) (λ i. counter_in (E ∷ l) (T.child p i) - body_in (E ∷ l) p i) (λ i. counter_in l (T.child p i) - body_in l p i)
                  (λ i j. rw (counter_old l E (T.child p i) (child_apart p i n (omega arith) j y), body_old l E p e)),
            )

    new_small : (x : ℕ) → x < T.lines → counter_in (E ∷ l) x ≤ T.limit x
    new_small x j = go (cases_eq x a)
      where
        go : (x ≡ a) ⊎ (x ≡ a → ⊥) → counter_in (E ∷ l) x ≤ T.limit x
        go (inl e) = rw (counter_new l E x e) (subst (λ z. c ≤ T.limit z) (sym e) cl)
        go (inr e) = rw (counter_old l E x e) (D.small x j)

    new_journaled : (n : Journal) → some (record { at = a; line = line_at T S a c b }) ≡ some n → (n.at < T.lines) × (n.line ≡ line_at T S n.at (counter_in (E ∷ l) n.at) (body_in (E ∷ l) n.at))
    new_journaled n e =
        subst (λ n. (n.at < T.lines) × (n.line ≡ line_at T S n.at (counter_in (E ∷ l) n.at) (body_in (E ∷ l) n.at))) (some_inj e)
        (k, rw (counter_new l E a refl, body_new l E a refl))

    new_flat : (p : ℕ) → p < T.data_lines → pending_in T (E ∷ l) p ≡ 0
    new_flat p h = go (cases_eq p a)
      where
        go : (p ≡ a) ⊎ (p ≡ a → ⊥) → pending_in T (E ∷ l) p ≡ 0
        go (inl e) = pending_own T l E p (sym e)
        go (inr e) = pending_other T l E p (λ f. e (sym f)) (λ f. omega (arith, f, L.parent_node a k)) ∙ D.flat p h

    new_since : (p : ℕ) → T.data_lines ≤ p → p < T.lines → pending_in T (E ∷ l) p ≡ sum_to (T.arity p) (λ i. counter_in (E ∷ l) (T.child p i) - body_in (E ∷ l) p i)
    new_since p n h = go (cases_eq p a) (cases_eq p P)
      where
        go : (p ≡ a) ⊎ (p ≡ a → ⊥) → (p ≡ P) ⊎ (p ≡ P → ⊥) → pending_in T (E ∷ l) p ≡ sum_to (T.arity p) (λ i. counter_in (E ∷ l) (T.child p i) - body_in (E ∷ l) p i)
        go (inl e) y =
            pending_own T l E p (sym e)
            ∙ sym (sum_zero (T.arity p) _ (λ i j. omega (arith, new_level p n h (ap (λ q. is_dirty (new_table q)) e ∙ ap is_dirty own_slot) i j)))
        go (inr e) (inl y) =
            let i : P < T.lines = omega arith in
            pending_parent T l E p (λ f. e (sym f)) (sym y) ∙ ap (λ q. suc (pending_in T l q)) y ∙ ap suc (D.since P (L.parent_node a k) i ∙ sym (slot_pending i).0) ∙ sym (parent_sum i)
            ∙ ap (λ q. sum_to (T.arity q) (λ i. counter_in (E ∷ l) (T.child q i) - body_in (E ∷ l) q i)) (sym y)
        go (inr e) (inr y) =
            pending_other T l E p (λ f. e (sym f)) (λ f. y (sym f)) ∙ D.since p n h
            ∙ sum_same (T.arity p) (λ i. counter_in l (T.child p i) - body_in l p i) (λ i. counter_in (E ∷ l) (T.child p i) - body_in (E ∷ l) p i)
            (λ i j. rw (counter_old l E (T.child p i) (child_apart p i n (omega arith) j y), body_old l E p e))

    new_moved : (p : ℕ) → is_dirty (new_table p) ≡ true → 0 < pending_in T (E ∷ l) p
    new_moved p u = go (cases_eq p a) (cases_eq p P)
      where
        go : (p ≡ a) ⊎ (p ≡ a → ⊥) → (p ≡ P) ⊎ (p ≡ P → ⊥) → 0 < pending_in T (E ∷ l) p
        go (inl e) y = absurd (both_ways _ (ap (λ q. is_dirty (new_table q)) e ∙ ap is_dirty own_slot) u)
        go (inr e) (inl y) = omega (arith, pending_parent T l E p (λ f. e (sym f)) (sym y))
        go (inr e) (inr y) = omega (arith, pending_other T l E p (λ f. e (sym f)) (λ f. y (sym f)), D.moved p (old_bit p (λ f. absurd (y f)) e true u))

    new_blank : (p : ℕ) → T.data_lines ≤ p → p < T.lines → (i : ℕ) → T.arity p ≤ i → body_in (E ∷ l) p i ≡ 0
    new_blank p n h i j = go (cases_eq p a)
      where
        go : (p ≡ a) ⊎ (p ≡ a → ⊥) → body_in (E ∷ l) p i ≡ 0
        go (inl e) = ap (λ g. g i) (body_new l E p e) ∙ bare (omega arith) i (subst (λ q. T.arity q ≤ i) e j)
        go (inr e) = ap (λ g. g i) (body_old l E p e) ∙ D.blank_lines p n h i j

    -- The register after the commit fits the longer log.
    pub new_durable : Durable T S (E ∷ l) new_register
    new_durable =
        record {
          known = new_known;
          one = new_one;
          latest = new_latest;
          older = new_older;
          level = new_level;
          dirty_few = new_dirty;
          roots = new_roots;
          dirty_sum = exact_sum T S (E ∷ l) (λ p. is_dirty (new_table p)) new_table (λ p _. (new_slot p).0);
          small = new_small;
          journaled = new_journaled;
          inner = new_inner;
          since = new_since;
          moved = new_moved;
          flat = new_flat;
          blank_lines = new_blank;
          newest = refl;
        }
