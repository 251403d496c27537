-- Writes and flushes follow the orders of commits that the log gives.
use Rattle.std.proofs.Common.{◌≡◌, ℕ, zero, suc, ◌+◌, ◌-◌, ◌<◌, ◌≤◌, Bool, true, false, cond, leb, [], ◌∷◌, ◌++◌, sym, refl, ap, ◌∙◌, subst, inl, inr, arith}
use mathlib.Core.Bool.{false≢true}
use mathlib.Core.Option.{Option, some, none}
use Rattle.std.proofs.lemmas.Bool.{leb-true, leb-false}
use Rattle.std.proofs.lemmas.List.{append_assoc}
use Rattle.suite.specs.Scheme.{Body, Scheme}
use Rattle.machine.specs.Layout.{Shape, TreeLaws, update}
use Rattle.machine.specs.Store.{Log}
use Rattle.machine.specs.Faults.{Fault}
use Rattle.machine.specs.Plans.{Slot, Table, is_dirty, slot_counters, View, Run, stay, chain, and_then, commit, overdue, evict_now, evict_at, evict, dirty_count, evict_lowest, evict_until, make_room, evict_overdue, write_at, flush_call}
use Rattle.machine.specs.History.{counter_in}
use Rattle.machine.specs.CommitLaws.{pending_in, dirty_in, counters_in, with_next, Evicted, alone, parent_first, EvictedUntil, enough, lowest_first, Written, under_root, leaf_dirty, leaf_clean, leaf_overdue, to_come}
use Rattle.machine.specs.Plans as plans
use Rattle.machine.proofs.Basics.{update_same, update_other, some_inj, none≢some, first_none, first_some}
use Rattle.machine.proofs.TrustedCounter.{root_parent, inner_parent, depth_next}
use Rattle.machine.proofs.Trails.{entry, Trail, end, step, join, OpenHolds, open_after}
use Rattle.machine.proofs.Runs.{CanRaise, not_overdue, overdue_held, Reason, Commits, commit_goes, held_full, held_bare, held_inner, room_freed, data_slot}
use Rattle.machine.proofs.SlotTable.{evict_slots}
use Rattle.machine.proofs.RegisterSays.{counters_are, used_dirty, held_pending, free_level, slot_pending}
use Rattle.machine.proofs.CommitOrder.{to_come_front, to_come_one, out_clears, freed_sum, level_few}

abbrev pub Any : ℕ → Type 0
Any q = Unit {0}

module _ (shapes : ℕ → Shape) (T : Shape) (L : TreeLaws T) (S : Scheme) where
  -- A run makes the commits that lead to the log F asks for, or stops in front of one of them with reason; the rest is what it leaves undone.
  pub record Plan (F : Log → Type 0) (l : Log) (v : View) (r : Run) : Type 0 where
    pub log : Log
    pub trail : Trail T S Any v l r.planned r.view log
    pub extra : Log
    pub full : F (extra ++ log)
    pub ending : r.ends ≡ none → extra ≡ []
    pub why : (x : Fault) → r.ends ≡ some x → (q : ℕ) × (to_come extra ≡ some q) × Reason shapes T L S log r.view q x

  pub plan_stay : {F : Log → Type 0} (l : Log) (v : View) → F l → Plan F l v (stay v)
  plan_stay l v f = record { log = l; trail = end; extra = []; full = f; ending = λ _. refl; why = λ x e. absurd (none≢some e) }

  pub plan_map : {F G : Log → Type 0} {l : Log} {v : View} {r : Run} → ((k : Log) → F k → G k) → Plan F l v r → Plan G l v r
  plan_map f p = record { log = p.log; trail = p.trail; extra = p.extra; full = f _ p.full; ending = p.ending; why = p.why }

  plan_done : {F : Log → Type 0} {l : Log} {v : View} {r : Run} → (p : Plan F l v r) → r.ends ≡ none → F p.log
  plan_done {F} p n = subst (λ z. F (z ++ p.log)) (p.ending n) p.full

  pub plan_then : (F : Log → Type 0) (G : Log → Log → Type 0) (H : Log → Type 0) (l : Log) (v : View) (r : Run) (f : View → Run) → (p : Plan F l v r) → (r.ends ≡ none → Plan (G p.log) p.log r.view (f r.view)) → ((k j : Log) → F k → G k j → H j) → ((k : Log) → F k → (new : Log) × G k (new ++ k)) → Plan H l v (and_then r f)
  plan_then F G H l v r f p q c t = go r.ends refl
    where
      go : (o : Option Fault) → r.ends ≡ o → Plan H l v (chain r o f)
      go (some x) e =
          let (new, g) = t (p.extra ++ p.log) p.full in
          record {
            log = p.log;
            trail = p.trail;
            extra = new ++ p.extra;
            full = subst H (sym (append_assoc new p.extra p.log)) (c (p.extra ++ p.log) (new ++ (p.extra ++ p.log)) p.full g);
            ending = λ n. absurd (none≢some (sym n ∙ e));
            why = λ y g. let (z, u, w) = p.why y g in (z, to_come_front new p.extra z u, w);
          }
      go none e =
          let k = q e in
          record { log = k.log; trail = join p.trail k.trail; extra = k.extra; full = c p.log (k.extra ++ k.log) (plan_done p e) k.full; ending = k.ending; why = k.why }

  -- One commit.
  module _ (l : Log) (v : View) (w : OpenHolds shapes T S l v) (t : Table) (a : ℕ) (b : Body) (k : a < T.lines) (own : t a ≡ none) (others : (p : ℕ) → (p ≡ a → ⊥) → t p ≡ v.table p)
      (full : T.data_lines ≤ a → (i : ℕ) → i < T.arity a → b i ≡ counter_in l (T.child a i)) (can_raise : CanRaise (v.table (T.parent a))) (bare : T.data_lines ≤ a → (i : ℕ) → T.arity a ≤ i → b i ≡ 0) where
    pub commit_plan : Plan (λ j. j ≡ with_next l a b) l v (commit T S v t a b)
    commit_plan = go (commit_goes shapes T L S l v w t a b k own others full can_raise bare)
      where
        go : Commits shapes T L S l v w t a b k own others full can_raise bare (commit T S v t a b) → Plan (λ j. j ≡ with_next l a b) l v (commit T S v t a b)
        go (inl (x, e, y)) =
            subst (Plan (λ j. j ≡ with_next l a b) l v) (sym e)
            (record {
              log = l;
              trail = end;
              extra = entry a (suc (counter_in l a)) b ∷ [];
              full = refl;
              ending = λ n. absurd (none≢some (sym n));
              why = λ z f. (a, to_come_one (entry a (suc (counter_in l a)) b), subst (Reason shapes T L S l v a) (some_inj f) y);
            })
        go (inr (e, g)) =
            subst (Plan (λ j. j ≡ with_next l a b) l v) (sym e)
            (record { log = entry a (suc (counter_in l a)) b ∷ l; trail = step t a (suc (counter_in l a)) b tt g end; extra = []; full = refl; ending = λ _. refl; why = λ x f. absurd (none≢some f) })

  now_plan : (l : Log) (v : View) → OpenHolds shapes T S l v → (A : ℕ) → is_dirty (v.table A) ≡ true → CanRaise (v.table (T.parent A)) → Plan (λ j. j ≡ with_next l A (counters_in T l A)) l v (evict_now T S v A)
  unfolding evict_now
  now_plan l v w A h r =
      let (n, k) = held_inner shapes T L S l v w A h in
      let b : Body = slot_counters (v.table A) in
      let e : b ≡ counters_in T l A = counters_are T S l v.register w.durable A b (held_full shapes T L S l v w.slots_hold A h) (held_bare shapes T L S l v w.slots_hold A) in
      plan_map (λ j f. f ∙ ap (with_next l A) e)
      (commit_plan l v w (update v.table A none) A b k (update_same v.table A none A refl) (update_other v.table A none) (λ _. held_full shapes T L S l v w.slots_hold A h) r (λ _. held_bare shapes T L S l v w.slots_hold A))

  overdue_many : (l : Log) (v : View) → OpenHolds shapes T S l v → (p : ℕ) → overdue (v.table p) ≡ true → 1023 ≤ pending_in T l p
  overdue_many l v w p h = go (v.table p) refl h
    where
      go : (o : Option Slot) → v.table p ≡ o → overdue o ≡ true → 1023 ≤ pending_in T l p
      go (some s) e h = omega (arith, leb-true _ _ h, slot_pending T S l v.register w.durable v.table w.slots_hold p s e)
      go none e h = absurd (false≢true h)

  not_many : (l : Log) (v : View) → OpenHolds shapes T S l v → (p : ℕ) → p < T.lines → overdue (v.table p) ≡ false → pending_in T l p < 1023
  not_many l v w p k h = go (v.table p) refl h
    where
      go : (o : Option Slot) → v.table p ≡ o → overdue o ≡ false → pending_in T l p < 1023
      go (some s) e h = omega (arith, leb-false _ _ h, slot_pending T S l v.register w.durable v.table w.slots_hold p s e)
      go none e h = omega (arith, free_level T S l v.register w.durable v.table w.slots_hold p k (ap is_dirty e))

  -- Evicting.
  pub evict_plan : (r : ℕ) (l : Log) (v : View) → OpenHolds shapes T S l v → (A : ℕ) → is_dirty (v.table A) ≡ true → T.depth (T.parent A) ≡ r → Plan (Evicted T l A) l v (evict_at T S v r A)
  unfolding evict_at
  evict_plan zero l v w A h e = plan_map (λ j f. subst (Evicted T l A) (sym f) (alone (inl (root_parent T L A k e)))) (now_plan l v w A h (can_raise (v.table (T.parent A)) refl))
    where
      k : A < T.lines
      k = (held_inner shapes T L S l v w A h).1

      can_raise : (o : Option Slot) → v.table (T.parent A) ≡ o → CanRaise o
      can_raise (some s) f = absurd (omega (arith, root_parent T L A k e, (held_inner shapes T L S l v w (T.parent A) (ap is_dirty f)).1))
      can_raise none f = tt
  evict_plan (suc r) l v w A h e = go (overdue (v.table (T.parent A))) refl (λ f. evict_plan r l v w (T.parent A) f (depth_next T L A r j e))
    where
      k : A < T.lines
      k = (held_inner shapes T L S l v w A h).1

      j : T.parent A < T.lines
      j = inner_parent T L A r k e

      first_run : Run
      first_run = evict_at T S v r (T.parent A)

      slots : first_run.ends ≡ none → (q : ℕ) → q ≤ T.parent A → first_run.view.table q ≡ update v.table (T.parent A) none q
      slots = evict_slots T S L r v (T.parent A) j (depth_next T L A r j e)

      go : (b : Bool) → overdue (v.table (T.parent A)) ≡ b → (is_dirty (v.table (T.parent A)) ≡ true → Plan (Evicted T l (T.parent A)) l v first_run) → Plan (Evicted T l A) l v (cond b (and_then first_run (λ u. evict_now T S u A)) (evict_now T S v A))
      go true f ih =
          let p = ih (overdue_held T S (v.table (T.parent A)) f) in
          plan_then (Evicted T l (T.parent A)) (λ k j. j ≡ with_next k A (counters_in T k A)) (Evicted T l A) l v first_run (λ u. evict_now T S u A) p
          (λ n.
          now_plan p.log first_run.view (open_after shapes T L S w p.trail) A
          (ap is_dirty (slots n A (omega (arith, L.parent_above A k)) ∙ update_other v.table (T.parent A) none A (λ g. omega (arith, g, L.parent_above A k))) ∙ h)
          (subst CanRaise (sym (slots n (T.parent A) (omega arith) ∙ update_same v.table (T.parent A) none (T.parent A) refl)) tt))
          (λ k i o z. subst (Evicted T l A) (sym z) (parent_first j (overdue_many l v w (T.parent A) f) o))
          (λ k o. (record { at = A; counter = suc (counter_in k A); body = counters_in T k A } ∷ [], refl))
      go false f ih = plan_map (λ i z. subst (Evicted T l A) (sym z) (alone (inr (not_many l v w (T.parent A) j f)))) (now_plan l v w A h (not_overdue T S (v.table (T.parent A)) f))

  -- Evicting.
  pub until_plan : (m f : ℕ) (l : Log) (v : View) → OpenHolds shapes T S l v → ((q : ℕ) → q + f < T.lines → pending_in T l q ≡ 0) → Plan (EvictedUntil T m l) l v (evict_until T S m f v)
  unfolding evict_until evict
  until_plan m zero l v w h = plan_stay l v (enough (level_few T L m l (λ q k. h q (omega arith))))
  until_plan m (suc f) l v w h = go (leb (dirty_count T v.table) m) refl (λ l₁ u w₁. until_plan m f l₁ u w₁)
    where
      same : dirty_count T v.table ≡ dirty_in T l
      same = used_dirty T S l v.register w.durable v.table w.slots_hold

      turn : (o : Option ℕ) → plans.lowest T v.table ≡ o → m < dirty_in T l → ((l₁ : Log) (u : View) → OpenHolds shapes T S l₁ u → ((q : ℕ) → q + f < T.lines → pending_in T l₁ q ≡ 0) → Plan (EvictedUntil T m l₁) l₁ u (evict_until T S m f u)) → Plan (EvictedUntil T m l) l v (and_then (evict_lowest T S v o) (evict_until T S m f))
      turn none e y ih =
          absurd (omega (arith, y, level_few T L 0 l (λ q k. free_level T S l v.register w.durable v.table w.slots_hold q k (first_none T.lines _ e q k))))
      turn (some A) e y ih =
          let (k, held, low) = first_some T.lines _ A e in
          let pos : 0 < pending_in T l A = held_pending T S l v.register w.durable v.table w.slots_hold A held in
          let low' : (q : ℕ) → q < A → pending_in T l q ≡ 0 = λ q i. free_level T S l v.register w.durable v.table w.slots_hold q (omega arith) (low q i) in
          let p = evict_plan (T.depth (T.parent A)) l v w A held refl in
          plan_then (Evicted T l A) (EvictedUntil T m) (EvictedUntil T m l) l v (evict T S v A) (evict_until T S m f) p
          (λ n. ih p.log (evict T S v A).view (open_after shapes T L S w p.trail) (out_clears T L f k pos low' h (plan_done p n)))
          (λ k' j o z. lowest_first y k pos low' o z)
          (λ k' o. freed_sum T L m k')

      go : (b : Bool) → leb (dirty_count T v.table) m ≡ b → ((l₁ : Log) (u : View) → OpenHolds shapes T S l₁ u → ((q : ℕ) → q + f < T.lines → pending_in T l₁ q ≡ 0) → Plan (EvictedUntil T m l₁) l₁ u (evict_until T S m f u)) → Plan (EvictedUntil T m l) l v (cond b (stay v) (and_then (evict_lowest T S v (plans.lowest T v.table)) (evict_until T S m f)))
      go true e ih = plan_stay l v (enough (omega (arith, same, leb-true _ _ e)))
      go false e ih = turn (plans.lowest T v.table) refl (omega (arith, same, leb-false _ _ e)) ih

  pub flush_plan : (l : Log) (v : View) → OpenHolds shapes T S l v → Plan (EvictedUntil T 0 l) l v (flush_call T S v)
  unfolding flush_call
  flush_plan l v w = until_plan 0 T.lines l v w (λ q h. absurd (omega arith))

  -- A write.
  pub write_plan : (cap : ℕ) (l : Log) (v : View) → OpenHolds shapes T S l v → (a : ℕ) (b : Body) → a < T.data_lines → Plan (Written T cap a b l) l v (write_at T S (T.depth (T.parent a)) cap v a b)
  unfolding evict
  write_plan cap l v w a b h = go (T.depth (T.parent a)) refl
    where
      k : a < T.lines
      k = omega (arith, L.data_in)

      P : ℕ
      P = T.parent a

      root_room : T.depth (T.parent a) ≡ 0 → (o : Option Slot) → v.table (T.parent a) ≡ o → CanRaise o
      root_room e (some s) f = absurd (omega (arith, root_parent T L a k e, (held_inner shapes T L S l v w (T.parent a) (ap is_dirty f)).1))
      root_room e none f = tt

      own : (l₁ : Log) (u : View) → OpenHolds shapes T S l₁ u → CanRaise (u.table (T.parent a)) → Plan (λ j. j ≡ with_next l₁ a b) l₁ u (commit T S u u.table a b)
      own l₁ u w₁ y = commit_plan l₁ u w₁ u.table a b k (data_slot shapes T L S l₁ u w₁ a h) (λ p _. refl) (λ z. absurd (omega arith)) y (λ z. absurd (omega arith))

      can_raise : View → Run
      can_raise u = make_room T S cap (T.parent a) u (u.table (T.parent a))

      Ready : Log → Type 0
      Ready j = Written T cap a b l (with_next j a b)

      kept : T.parent a < T.lines → (o : Option Slot) → v.table (T.parent a) ≡ o → overdue o ≡ false → Plan Ready l v (make_room T S cap (T.parent a) v o)
      kept j (some s) e f =
          let z = slot_pending T S l v.register w.durable v.table w.slots_hold (T.parent a) s e in
          plan_stay l v (leaf_dirty j (held_pending T S l v.register w.durable v.table w.slots_hold (T.parent a) (ap is_dirty e)) (omega (arith, z, leb-false _ _ f)))
      kept j none e f =
          plan_map (λ i z. leaf_clean j (free_level T S l v.register w.durable v.table w.slots_hold (T.parent a) j (ap is_dirty e)) z) (until_plan (cap - 1) T.lines l v w (λ q i. absurd (omega arith)))

      cleared : T.parent a < T.lines → (d : Bool) → overdue (v.table (T.parent a)) ≡ d → Plan Ready l v (and_then (cond d (evict T S v (T.parent a)) (stay v)) can_raise)
      cleared j true f =
          let p = evict_plan (T.depth (T.parent (T.parent a))) l v w (T.parent a) (overdue_held T S (v.table (T.parent a)) f) refl in
          plan_then (Evicted T l (T.parent a)) (EvictedUntil T (cap - 1)) Ready l v (evict T S v (T.parent a)) can_raise p
          (λ n.
          let e : (evict T S v (T.parent a)).view.table (T.parent a) ≡ none = evict_slots T S L (T.depth (T.parent (T.parent a))) v (T.parent a) j refl n (T.parent a) (omega arith) ∙ update_same v.table (T.parent a) none (T.parent a) refl in
          subst (λ o. Plan (EvictedUntil T (cap - 1) p.log) p.log (evict T S v (T.parent a)).view (make_room T S cap (T.parent a) (evict T S v (T.parent a)).view o)) (sym e)
          (until_plan (cap - 1) T.lines p.log (evict T S v (T.parent a)).view (open_after shapes T L S w p.trail) (λ q i. absurd (omega arith))))
          (λ i g o z. leaf_overdue j (overdue_many l v w (T.parent a) f) o z)
          (λ i o. freed_sum T L (cap - 1) i)
      cleared j false f = kept j (v.table (T.parent a)) refl f

      go : (r : ℕ) → T.depth (T.parent a) ≡ r → Plan (Written T cap a b l) l v (write_at T S r cap v a b)
      go zero e = plan_map (λ j f. subst (Written T cap a b l) (sym f) (under_root (root_parent T L a k e))) (own l v w (root_room e (v.table (T.parent a)) refl))
      go (suc r) e =
          let p = cleared (inner_parent T L a r k e) (overdue (v.table (T.parent a))) refl in
          plan_then Ready (λ i g. g ≡ with_next i a b) (Written T cap a b l) l v (and_then (evict_overdue T S v (T.parent a)) can_raise) (λ u. commit T S u u.table a b) p
          (λ n. own p.log (and_then (evict_overdue T S v (T.parent a)) can_raise).view (open_after shapes T L S w p.trail) ((room_freed shapes T L S cap l v w a h).1 n))
          (λ i g x z. subst (Written T cap a b l) (sym z) x)
          (λ i x. (record { at = a; counter = suc (counter_in i a); body = b } ∷ [], refl))
