-- The slots by themselves: which ones a call touches, and that they suffice. No state of a history is asked, so code can cite these.
use Rattle.std.proofs.Common.{◌≡◌, ℕ, zero, suc, ◌+◌, ◌-◌, ◌<◌, ◌≤◌, Bool, true, false, cond, ltb, leb, ◌⊎◌, sym, refl, ap, ◌∙◌, subst, inl, inr, arith}
use mathlib.Core.Option.{Option, some, none}
use Rattle.std.proofs.lemmas.Bool.{cases_lt, cases_eq, both_ways, leb-true}
use Rattle.suite.specs.Scheme.{Body, Scheme}
use Rattle.machine.specs.Layout.{Shape, TreeLaws, update, sum_to}
use Rattle.machine.specs.Faults.{Fault, fault, Outcome, ok, err, at_limit}
use Rattle.machine.specs.Plans.{Slot, Table, is_dirty, slot_counters, View, Run, stay, stop, chain, and_then, counter_of, commit, commit_at, commit_under, raise_table, raised, slot_for, overdue, evict_now, evict_at, evict, dirty_count, lowest, evict_lowest, evict_until, make_room, evict_overdue, write_at}
use Rattle.machine.proofs.Basics.{update_same, update_other, sum_same, sum_le, sum_bump, sum_zero, none≢some, first_none, first_some}
use Rattle.machine.proofs.TrustedCounter.{inner_parent, depth_next}
use Rattle.machine.proofs.Trails.{raise_other}
use Rattle.machine.proofs.Runs.{then_none}

module _ (T : Shape) (S : Scheme) where
  -- What a commit does to the slots: nothing if refused, else one raise.
  pub commit_table : (v : View) (t : Table) (a : ℕ) (b : Body) → ((commit T S v t a b).view ≡ v) ⊎ (((commit T S v t a b).ends ≡ none) × ((c : ℕ) × ((commit T S v t a b).view.table ≡ raise_table T (T.depth (T.parent a)) v.memory t a c)))
  unfolding commit
  commit_table v t a b = go (counter_of T S v a)
    where
      at : (c : ℕ) (d : Bool) → ((cond d (commit_under T S v.memory v.register t a b (suc c)) (stop v (fault at_limit a))).view ≡ v) ⊎ (((cond d (commit_under T S v.memory v.register t a b (suc c)) (stop v (fault at_limit a))).ends ≡ none) × ((e : ℕ) × ((cond d (commit_under T S v.memory v.register t a b (suc c)) (stop v (fault at_limit a))).view.table ≡ raise_table T (T.depth (T.parent a)) v.memory t a e)))
      at c true = inr (refl, (suc c, refl))
      at c false = inl refl

      go : (z : Outcome ℕ) → ((commit_at T S v t a b z).view ≡ v) ⊎ (((commit_at T S v t a b z).ends ≡ none) × ((c : ℕ) × ((commit_at T S v t a b z).view.table ≡ raise_table T (T.depth (T.parent a)) v.memory t a c)))
      go (ok c) = at c (ltb c (T.limit a))
      go (err x) = inl refl

  pub commit_slots : (v : View) (t : Table) (a : ℕ) (b : Body) → (commit T S v t a b).ends ≡ none → (q : ℕ) → (q ≡ T.parent a → ⊥) → (commit T S v t a b).view.table q ≡ t q
  unfolding commit
  commit_slots v t a b n q d = go (counter_of T S v a) n
    where
      at : (c : ℕ) (e : Bool) → (cond e (commit_under T S v.memory v.register t a b (suc c)) (stop v (fault at_limit a))).ends ≡ none → (cond e (commit_under T S v.memory v.register t a b (suc c)) (stop v (fault at_limit a))).view.table q ≡ t q
      at c true n = raise_other T S (T.depth (T.parent a)) v t a (suc c) q d
      at c false n = absurd (none≢some (sym n))

      go : (z : Outcome ℕ) → (commit_at T S v t a b z).ends ≡ none → (commit_at T S v t a b z).view.table q ≡ t q
      go (ok c) n = at c (ltb c (T.limit a)) n
      go (err x) n = absurd (none≢some (sym n))

  -- Slots in use, with one filled or emptied.
  used_fill : (t : Table) (p : ℕ) (s : Slot) → dirty_count T (update t p (some s)) ≤ suc (dirty_count T t)
  unfolding dirty_count
  used_fill t p s = go (cases_lt p T.lines)
    where
      f : ℕ → ℕ
      f q = cond (is_dirty (t q)) 1 0

      g : ℕ → ℕ
      g q = cond (is_dirty (update t p (some s) q)) 1 0

      h : ℕ → ℕ
      h q = cond (is_dirty (update t p none q)) 1 0

      small : (b : Bool) → cond b 1 0 ≤ 1
      small true = omega arith
      small false = omega arith

      low : (q : ℕ) → h q ≤ f q
      low q = at (cases_eq q p)
        where
          at : (q ≡ p) ⊎ (q ≡ p → ⊥) → h q ≤ f q
          at (inl e) = let z : h q ≡ 0 = ap (λ o. cond (is_dirty o) 1 0) (update_same t p none q e) in omega arith
          at (inr e) = let z : h q ≡ f q = ap (λ o. cond (is_dirty o) 1 0) (update_other t p none q e) in omega arith

      go : (p < T.lines) ⊎ (T.lines ≤ p) → sum_to T.lines g ≤ suc (sum_to T.lines f)
      go (inl k) =
          omega (
            arith,
            sum_bump T.lines h g p k (ap (λ o. cond (is_dirty o) 1 0) (update_same t p (some s) p refl) ∙ ap (λ o. suc (cond (is_dirty o) 1 0)) (sym (update_same t p none p refl)))
                (λ i j e. ap (λ o. cond (is_dirty o) 1 0) (update_other t p (some s) i e ∙ sym (update_other t p none i e))),
            sum_le T.lines h f (λ i j. low i),
          )
      go (inr k) = omega (arith, sum_same T.lines g f (λ i j. ap (λ o. cond (is_dirty o) 1 0) (update_other t p (some s) i (λ e. omega arith))))

  used_keep : (t : Table) (p : ℕ) (s : Slot) → is_dirty (t p) ≡ true → dirty_count T (update t p (some s)) ≡ dirty_count T t
  unfolding dirty_count
  used_keep t p s h = sum_same T.lines _ _ λ i j. at i (cases_eq i p)
    where
      at : (i : ℕ) → (i ≡ p) ⊎ (i ≡ p → ⊥) → ◌≡◌ {A = ℕ} (cond (is_dirty (update t p (some s) i)) 1 0) (cond (is_dirty (t i)) 1 0)
      at i (inl e) = ap (λ o. cond (is_dirty o) 1 0) (update_same t p (some s) i e) ∙ ap (λ b. cond b 1 0) (sym (ap (λ q. is_dirty (t q)) e ∙ h))
      at i (inr e) = ap (λ o. cond (is_dirty o) 1 0) (update_other t p (some s) i e)

  used_drop : (t : Table) (p : ℕ) → p < T.lines → is_dirty (t p) ≡ true → dirty_count T t ≡ suc (dirty_count T (update t p none))
  unfolding dirty_count
  used_drop t p k h =
      sum_bump T.lines (λ q. cond (is_dirty (update t p none q)) 1 0) (λ q. cond (is_dirty (t q)) 1 0) p k (ap (λ b. cond b 1 0) h ∙ ap (λ o. suc (cond (is_dirty o) 1 0)) (sym (update_same t p none p refl)))
      (λ i j e. ap (λ o. cond (is_dirty o) 1 0) (sym (update_other t p none i e)))

  raise_used : (r : ℕ) (v : View) (t : Table) (a c : ℕ) → dirty_count T (raise_table T r v.memory t a c) ≤ suc (dirty_count T t)
  raise_used zero v t a c = omega arith
  raise_used (suc r) v t a c = used_fill t (T.parent a) _

  module _ (L : TreeLaws T) where
    now_used : (v : View) (A : ℕ) → A < T.lines → is_dirty (v.table A) ≡ true → dirty_count T (evict_now T S v A).view.table ≤ dirty_count T v.table
    unfolding evict_now
    now_used v A k h = go (commit_table v (update v.table A none) A (slot_counters (v.table A)))
      where
        u : View
        u = (commit T S v (update v.table A none) A (slot_counters (v.table A))).view

        go : (u ≡ v) ⊎ (((commit T S v (update v.table A none) A (slot_counters (v.table A))).ends ≡ none) × ((c : ℕ) × (u.table ≡ raise_table T (T.depth (T.parent A)) v.memory (update v.table A none) A c))) → dirty_count T u.table ≤ dirty_count T v.table
        go (inl e) = omega (arith, ap (λ z. dirty_count T z.table) e)
        go (inr (n, (c, e))) = omega (arith, ap (dirty_count T) e, raise_used (T.depth (T.parent A)) v (update v.table A none) A c, used_drop v.table A k h)

    now_slots : (v : View) (A : ℕ) → A < T.lines → (evict_now T S v A).ends ≡ none → (q : ℕ) → q ≤ A → (evict_now T S v A).view.table q ≡ update v.table A none q
    unfolding evict_now
    now_slots v A k n q i = commit_slots v (update v.table A none) A (slot_counters (v.table A)) n q (λ e. omega (arith, e, L.parent_above A k))

    held_of : (o : Option Slot) → overdue o ≡ true → is_dirty o ≡ true
    held_of (some s) e = refl
    held_of none e = e

    -- Evicting A: done, it empties A's slot and touches none below; done or not, it takes no further slot.
    pub evict_slots : (r : ℕ) (v : View) (A : ℕ) → A < T.lines → T.depth (T.parent A) ≡ r → (evict_at T S v r A).ends ≡ none → (q : ℕ) → q ≤ A → (evict_at T S v r A).view.table q ≡ update v.table A none q
    unfolding evict_at
    evict_slots zero v A k e n q i = now_slots v A k n q i
    evict_slots (suc r) v A k e n q i = go (overdue (v.table (T.parent A))) n (evict_slots r v (T.parent A) (inner_parent T L A r k e) (depth_next T L A r (inner_parent T L A r k e) e))
      where
        first_run : Run
        first_run = evict_at T S v r (T.parent A)

        go : (b : Bool) → (cond b (and_then first_run (λ u. evict_now T S u A)) (evict_now T S v A)).ends ≡ none → (first_run.ends ≡ none → (q : ℕ) → q ≤ T.parent A → first_run.view.table q ≡ update v.table (T.parent A) none q) → (cond b (and_then first_run (λ u. evict_now T S u A)) (evict_now T S v A)).view.table q ≡ update v.table A none q
        go true n ih =
            let (n₁, n₂, x) = then_none first_run (λ u. evict_now T S u A) n in
            ap (λ y. y.table q) x ∙ now_slots first_run.view A k n₂ q i ∙ at n₁ (cases_eq q A)
          where
            at : first_run.ends ≡ none → (q ≡ A) ⊎ (q ≡ A → ⊥) → update first_run.view.table A none q ≡ update v.table A none q
            at n₁ (inl f) = update_same first_run.view.table A none q f ∙ sym (update_same v.table A none q f)
            at n₁ (inr f) =
                update_other first_run.view.table A none q f ∙ ih n₁ q (omega (arith, L.parent_above A k))
                ∙ update_other v.table (T.parent A) none q (λ g. omega (arith, g, L.parent_above A k)) ∙ sym (update_other v.table A none q f)
        go false n ih = now_slots v A k n q i

    pub evict_used : (r : ℕ) (v : View) (A : ℕ) → A < T.lines → is_dirty (v.table A) ≡ true → T.depth (T.parent A) ≡ r → dirty_count T (evict_at T S v r A).view.table ≤ dirty_count T v.table
    unfolding evict_at
    evict_used zero v A k h e = now_used v A k h
    evict_used (suc r) v A k h e = go (overdue (v.table (T.parent A))) refl (λ f. evict_used r v (T.parent A) j f (depth_next T L A r j e))
      where
        j : T.parent A < T.lines
        j = inner_parent T L A r k e

        first_run : Run
        first_run = evict_at T S v r (T.parent A)

        second : dirty_count T first_run.view.table ≤ dirty_count T v.table → (o : Option Fault) → first_run.ends ≡ o → dirty_count T (chain first_run o (λ u. evict_now T S u A)).view.table ≤ dirty_count T v.table
        second i (some x) n = i
        second i none n =
            let s : first_run.view.table A ≡ v.table A = evict_slots r v (T.parent A) j (depth_next T L A r j e) n A (omega (arith, L.parent_above A k)) ∙ update_other v.table (T.parent A) none A (λ g. omega (arith, g, L.parent_above A k)) in
            omega (arith, i, now_used first_run.view A k (ap is_dirty s ∙ h))

        go : (b : Bool) → overdue (v.table (T.parent A)) ≡ b → (is_dirty (v.table (T.parent A)) ≡ true → dirty_count T first_run.view.table ≤ dirty_count T v.table) → dirty_count T (cond b (and_then first_run (λ u. evict_now T S u A)) (evict_now T S v A)).view.table ≤ dirty_count T v.table
        go true f ih = second (ih (held_of (v.table (T.parent A)) f)) first_run.ends refl
        go false f ih = now_used v A k h

    low_used : (v : View) (o : Option ℕ) → lowest T v.table ≡ o → dirty_count T (evict_lowest T S v o).view.table ≤ dirty_count T v.table
    unfolding evict
    low_used v (some A) e = let h = first_some T.lines _ A e in evict_used (T.depth (T.parent A)) v A h.0 h.1 refl
    low_used v none e = omega arith

    chain_used : (m : ℕ) (r : Run) (f : View → Run) → dirty_count T r.view.table ≤ m → (r.ends ≡ none → dirty_count T (f r.view).view.table ≤ m) → dirty_count T (and_then r f).view.table ≤ m
    chain_used m r f h k = go r.ends refl
      where
        go : (o : Option Fault) → r.ends ≡ o → dirty_count T (chain r o f).view.table ≤ m
        go (some x) e = h
        go none e = k e

    -- Evicting takes no further slot, and done, it leaves at most m in use.
    pub until_used : (m f : ℕ) (v : View) → dirty_count T (evict_until T S m f v).view.table ≤ dirty_count T v.table
    unfolding evict_until
    until_used m zero v = omega arith
    until_used m (suc f) v = go (leb (dirty_count T v.table) m) (λ u. until_used m f u)
      where
        r : Run
        r = evict_lowest T S v (lowest T v.table)

        go : (b : Bool) → ((u : View) → dirty_count T (evict_until T S m f u).view.table ≤ dirty_count T u.table) → dirty_count T (cond b (stay v) (and_then r (evict_until T S m f))).view.table ≤ dirty_count T v.table
        go true ih = omega arith
        go false ih = chain_used (dirty_count T v.table) r (evict_until T S m f) (low_used v _ refl) (λ _. omega (arith, ih r.view, low_used v _ refl))

    until_to : (m f : ℕ) (v : View) → ((q : ℕ) → q + f < T.lines → is_dirty (v.table q) ≡ false) → (evict_until T S m f v).ends ≡ none → dirty_count T (evict_until T S m f v).view.table ≤ m
    unfolding evict_until dirty_count evict
    until_to m zero v h n = omega (arith, sum_zero T.lines (λ p. cond (is_dirty (v.table p)) 1 0) (λ i k. ap (λ b. cond b 1 0) (h i (omega arith))))
    until_to m (suc f) v h n = go (leb (dirty_count T v.table) m) refl n (λ u. until_to m f u)
      where
        r : Run
        r = evict_lowest T S v (lowest T v.table)

        clear : (o : Option ℕ) → lowest T v.table ≡ o → (evict_lowest T S v o).ends ≡ none → (q : ℕ) → q + f < T.lines → is_dirty ((evict_lowest T S v o).view.table q) ≡ false
        clear none e n q i = first_none T.lines _ e q (omega arith)
        clear (some A) e n q i =
            let (k, held, low) = first_some T.lines _ A e in
            let qa : q ≤ A = near (λ z. both_ways _ (h A z) held) (cases_lt (A + suc f) T.lines) in
            ap is_dirty (evict_slots (T.depth (T.parent A)) v A k refl n q qa) ∙ at low (cases_eq q A) qa
          where
            near : (A + suc f < T.lines → ⊥) → (A + suc f < T.lines) ⊎ (T.lines ≤ A + suc f) → q ≤ A
            near z (inl x) = absurd (z x)
            near z (inr x) = omega arith

            at : ((i : ℕ) → i < A → is_dirty (v.table i) ≡ false) → (q ≡ A) ⊎ (q ≡ A → ⊥) → q ≤ A → is_dirty (update v.table A none q) ≡ false
            at low (inl z) _ = ap is_dirty (update_same v.table A none q z)
            at low (inr z) y = ap is_dirty (update_other v.table A none q z) ∙ low q (omega arith)

        go : (b : Bool) → leb (dirty_count T v.table) m ≡ b → (cond b (stay v) (and_then r (evict_until T S m f))).ends ≡ none → ((u : View) → ((q : ℕ) → q + f < T.lines → is_dirty (u.table q) ≡ false) → (evict_until T S m f u).ends ≡ none → dirty_count T (evict_until T S m f u).view.table ≤ m) → dirty_count T (cond b (stay v) (and_then r (evict_until T S m f))).view.table ≤ m
        go true e n ih = leb-true _ _ e
        go false e n ih =
            let (n₁, n₂, x) = then_none r (evict_until T S m f) n in
            subst (λ y. dirty_count T y.table ≤ m) (sym x) (ih r.view (clear (lowest T v.table) refl n₁) n₂)

    pub until_room : (m : ℕ) (v : View) → (evict_until T S m T.lines v).ends ≡ none → dirty_count T (evict_until T S m T.lines v).view.table ≤ m
    until_room m v n = until_to m T.lines v (λ q h. absurd (omega arith)) n

    -- A commit takes a further slot only if the parent has none.
    commit_used : (v : View) (a : ℕ) (b : Body) → dirty_count T (commit T S v v.table a b).view.table ≤ suc (dirty_count T v.table)
    commit_used v a b = go (commit_table v v.table a b)
      where
        u : View
        u = (commit T S v v.table a b).view

        go : (u ≡ v) ⊎ (((commit T S v v.table a b).ends ≡ none) × ((c : ℕ) × (u.table ≡ raise_table T (T.depth (T.parent a)) v.memory v.table a c))) → dirty_count T u.table ≤ suc (dirty_count T v.table)
        go (inl e) = omega (arith, ap (λ z. dirty_count T z.table) e)
        go (inr (n, (c, e))) = omega (arith, ap (dirty_count T) e, raise_used (T.depth (T.parent a)) v v.table a c)

    commit_used_held : (v : View) (a : ℕ) (b : Body) → is_dirty (v.table (T.parent a)) ≡ true → dirty_count T (commit T S v v.table a b).view.table ≤ dirty_count T v.table
    commit_used_held v a b h = go (commit_table v v.table a b)
      where
        u : View
        u = (commit T S v v.table a b).view

        at : (r c : ℕ) → dirty_count T (raise_table T r v.memory v.table a c) ≤ dirty_count T v.table
        at zero c = omega arith
        at (suc r) c = omega (arith, used_keep v.table (T.parent a) (raised (slot_for v.memory (v.table (T.parent a)) (T.parent a)) (T.index a) c) h)

        go : (u ≡ v) ⊎ (((commit T S v v.table a b).ends ≡ none) × ((c : ℕ) × (u.table ≡ raise_table T (T.depth (T.parent a)) v.memory v.table a c))) → dirty_count T u.table ≤ dirty_count T v.table
        go (inl e) = omega (arith, ap (λ z. dirty_count T z.table) e)
        go (inr (n, (c, e))) = omega (arith, ap (dirty_count T) e, at (T.depth (T.parent a)) c)

    commit_used_root : (v : View) (a : ℕ) (b : Body) → T.depth (T.parent a) ≡ 0 → dirty_count T (commit T S v v.table a b).view.table ≤ dirty_count T v.table
    commit_used_root v a b z = go (commit_table v v.table a b)
      where
        u : View
        u = (commit T S v v.table a b).view

        go : (u ≡ v) ⊎ (((commit T S v v.table a b).ends ≡ none) × ((c : ℕ) × (u.table ≡ raise_table T (T.depth (T.parent a)) v.memory v.table a c))) → dirty_count T u.table ≤ dirty_count T v.table
        go (inl e) = omega (arith, ap (λ z. dirty_count T z.table) e)
        go (inr (n, (c, e))) = omega (arith, ap (dirty_count T) (e ∙ ap (λ r. raise_table T r v.memory v.table a c) z))

    -- The slots suffice: a write never has more in use than there are.
    pub write_used : (cap : ℕ) (v : View) (a : ℕ) (b : Body) → a < T.lines → 1 ≤ cap → dirty_count T v.table ≤ cap → dirty_count T (write_at T S (T.depth (T.parent a)) cap v a b).view.table ≤ cap
    unfolding evict
    write_used cap v a b k c h = go (T.depth (T.parent a)) refl
      where
        P : ℕ
        P = T.parent a

        go : (r : ℕ) → T.depth P ≡ r → dirty_count T (write_at T S r cap v a b).view.table ≤ cap
        go zero e = omega (arith, commit_used_root v a b e)
        go (suc r) e = chain_used cap inner (λ u. commit T S u u.table a b) inner_cap last
          where
            j : P < T.lines
            j = inner_parent T L a r k e

            relief : Run
            relief = evict_overdue T S v P

            relief_cap : dirty_count T relief.view.table ≤ cap
            relief_cap = at (overdue (v.table P)) refl
              where
                at : (d : Bool) → overdue (v.table P) ≡ d → dirty_count T (cond d (evict T S v P) (stay v)).view.table ≤ cap
                at true f = omega (arith, evict_used (T.depth (T.parent P)) v P j (held_of (v.table P) f) refl)
                at false f = h

            can_raise : View → Run
            can_raise u = make_room T S cap P u (u.table P)

            room_cap : (u : View) → dirty_count T u.table ≤ cap → (o : Option Slot) → dirty_count T (make_room T S cap P u o).view.table ≤ cap
            room_cap u i (some s) = i
            room_cap u i none = omega (arith, until_used (cap - 1) T.lines u)

            room_end : (u : View) (o : Option Slot) → u.table P ≡ o → (make_room T S cap P u o).ends ≡ none → (is_dirty ((make_room T S cap P u o).view.table P) ≡ true) ⊎ (suc (dirty_count T (make_room T S cap P u o).view.table) ≤ cap)
            room_end u (some s) f n = inl (ap is_dirty f)
            room_end u none f n = inr (omega (arith, until_room (cap - 1) u n))

            inner : Run
            inner = and_then relief can_raise

            inner_cap : dirty_count T inner.view.table ≤ cap
            inner_cap = chain_used cap relief can_raise relief_cap (λ _. room_cap relief.view relief_cap (relief.view.table P))

            last : inner.ends ≡ none → dirty_count T (commit T S inner.view inner.view.table a b).view.table ≤ cap
            last n =
                let (n₁, n₂, x) = then_none relief can_raise n in
                at (subst (λ y. (is_dirty (y.table P) ≡ true) ⊎ (suc (dirty_count T y.table) ≤ cap)) (sym x) (room_end relief.view (relief.view.table P) refl n₂))
              where
                at : (is_dirty (inner.view.table P) ≡ true) ⊎ (suc (dirty_count T inner.view.table) ≤ cap) → dirty_count T (commit T S inner.view inner.view.table a b).view.table ≤ cap
                at (inl f) = omega (arith, commit_used_held inner.view a b f, inner_cap)
                at (inr f) = omega (arith, commit_used inner.view a b)
