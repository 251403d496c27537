-- Committing, evicting, evicting until, writing and flush are chains of commits, and are refused only with reason.
use Rattle.std.proofs.Common.{◌≡◌, ℕ, zero, suc, ◌+◌, ◌-◌, ◌<◌, ◌≤◌, Bool, true, false, cond, ltb, leb, ◌⊎◌, List, ◌∷◌, ◌++◌, sym, refl, ap, ◌∙◌, subst, inl, inr, ⊎_elim, arith}
use mathlib.Core.Bool.{false≢true}
use mathlib.Core.Option.{Option, some, none}
use Rattle.std.proofs.lemmas.Bool.{cases_lt, cases_eq, both_ways, ltb-true, ltb-false, leb-true, leb-false}
use Rattle.suite.specs.Scheme.{Body, Scheme}
use Rattle.machine.specs.Layout.{Shape, TreeLaws, update}
use Rattle.machine.specs.Store.{Log, Write}
use Rattle.machine.specs.Faults.{Fault, fault, Outcome, ok, err, corrupt, at_limit}
use Rattle.machine.specs.Plans.{Slot, Table, is_dirty, slot_counters, View, Run, stay, stop, chain, and_then, counter_at, counter_of, commit, commit_at, commit_under, overdue, evict_now, evict_at, evict, dirty_count, lowest, evict_lowest, evict_until, make_room, evict_overdue, write_at, flush_call}
use Rattle.machine.specs.History.{counter_in}
use Rattle.machine.specs.Laws.{WayStands, Stands, Rests, itself, above}
use Rattle.machine.proofs.Invariant.{Durable, Exact, SlotsHold}
use Rattle.machine.proofs.Basics.{update_same, update_other, none≢some, first_none, first_some, sum_zero, term_le}
use Rattle.machine.proofs.TrustedCounter.{counter_true, counter_refused, inner_parent, depth_next, root_parent}
use Rattle.machine.proofs.CommitKeeps.{Fits}
use Rattle.machine.proofs.Trails.{Legal, entry, Trail, end, step, join, OpenHolds, open_after, raise_other, leaf_kept}

-- A slot, if any, in which one more raise is allowed.
abbrev pub CanRaise : Option Slot → Type 0
CanRaise (some s) = s.pending < 1023
CanRaise none = Unit {0}

pub not_overdue : (T : Shape) (S : Scheme) (o : Option Slot) → overdue o ≡ false → CanRaise o
not_overdue T S (some s) e = leb-false _ _ e
not_overdue T S none e = tt

pub overdue_held : (T : Shape) (S : Scheme) (o : Option Slot) → overdue o ≡ true → is_dirty o ≡ true
overdue_held T S (some s) e = refl
overdue_held T S none e = e

pub then_none : (r : Run) (f : View → Run) → (and_then r f).ends ≡ none → (r.ends ≡ none) × ((f r.view).ends ≡ none) × ((and_then r f).view ≡ (f r.view).view)
then_none r f e = go r.ends refl e
  where
    go : (o : Option Fault) → r.ends ≡ o → (chain r o f).ends ≡ none → (r.ends ≡ none) × ((f r.view).ends ≡ none) × ((chain r o f).view ≡ (f r.view).view)
    go (some x) p e = absurd (none≢some (sym e ∙ p))
    go none p e = (p, e, refl)

module _ (shapes : ℕ → Shape) (T : Shape) (L : TreeLaws T) (S : Scheme) where
  -- Why line a, next to be committed, is not: its counter is at the limit, or the highest of its ancestors that does not stand.
  abbrev pub Reason : Log → View → ℕ → Fault → Type 0
  Reason l v a x =
      ((x ≡ fault at_limit a) × WayStands T S l v.memory v.register.dirty a × (counter_in l a ≡ T.limit a))
      ⊎ ((p : ℕ) × (x ≡ fault corrupt p) × Rests T v.register.dirty a p × (p ≡ a → ⊥) × (Stands T S l v.memory p → ⊥) × WayStands T S l v.memory v.register.dirty p)

  -- A run is a chain of commits.
  pub record Goes (Q : ℕ → Type 0) (l : Log) (v : View) (r : Run) : Type 0 where
    pub log : Log
    pub trail : Trail T S Q v l r.planned r.view log

  pub goes_stay : {Q : ℕ → Type 0} (l : Log) (v : View) → Goes Q l v (stay v)
  goes_stay l v = record { log = l; trail = end }

  pub goes_stop : {Q : ℕ → Type 0} (l : Log) (v : View) (x : Fault) → Goes Q l v (stop v x)
  goes_stop l v x = record { log = l; trail = end }

  pub goes_then : {Q : ℕ → Type 0} (l : Log) (v : View) (r : Run) (f : View → Run) → (g : Goes Q l v r) → (r.ends ≡ none → Goes Q g.log r.view (f r.view)) → Goes Q l v (and_then r f)
  goes_then {Q} l v r f g h = go r.ends refl
    where
      go : (o : Option Fault) → r.ends ≡ o → Goes Q l v (chain r o f)
      go (some x) p = g
      go none p = let k = h p in record { log = k.log; trail = join g.trail k.trail }

  module _ (l : Log) (v : View) (w : OpenHolds shapes T S l v) (t : Table) (a : ℕ) (b : Body) (k : a < T.lines) (own : t a ≡ none) (others : (p : ℕ) → (p ≡ a → ⊥) → t p ≡ v.table p)
      (full : T.data_lines ≤ a → (i : ℕ) → i < T.arity a → b i ≡ counter_in l (T.child a i)) (can_raise : CanRaise (v.table (T.parent a))) (bare : T.data_lines ≤ a → (i : ℕ) → T.arity a ≤ i → b i ≡ 0) where
    abbrev pub Commits : Run → Type 0
    Commits r = ((x : Fault) × (r ≡ stop v x) × Reason l v a x) ⊎ ((r ≡ commit_under T S v.memory v.register t a b (suc (counter_in l a))) × Legal T S l v t a (suc (counter_in l a)) b)

    -- A commit is made, unless the way down is corrupt or the counter is at its limit.
    pub commit_goes : Commits (commit T S v t a b)
    unfolding commit counter_of
    commit_goes = go (counter_at T S v (T.depth (T.parent a)) a) refl
      where
        D : Durable T S l v.register
        D = w.durable

        go : (z : Outcome ℕ) → counter_at T S v (T.depth (T.parent a)) a ≡ z → Commits (commit_at T S v t a b z)
        go (err x) e =
            let (q, f, r, o, n, y) = counter_refused shapes T L S l v D (T.depth (T.parent a)) a x k refl (λ q _ _. w.slots_hold.exact q) (λ q _. w.fine q) e in
            inl (x, refl, inr (q, f, r, λ z. omega (arith, z, o), n, λ u z d. ⊎_elim (λ g. absurd (d g)) (λ g. g) (y u z)))
        go (ok c) e = dec (ltb c (T.limit a)) refl
          where
            tr : (c ≡ counter_in l a) × ((q : ℕ) → Rests T v.register.dirty a q → (q ≡ a) ⊎ Stands T S l v.memory q)
            tr = counter_true shapes T L S l v D (T.depth (T.parent a)) a c k refl (λ q _ _. w.slots_hold.exact q) (λ q _. w.fine q) e

            fits : T.parent a < T.lines → Fits T S l v.memory (T.parent a) (v.table (T.parent a))
            fits h = at (v.table (T.parent a)) (w.slots_hold.exact (T.parent a)) can_raise
              where
                at : (o : Option Slot) → Exact T l v.register.dirty o (T.parent a) → CanRaise o → Fits T S l v.memory (T.parent a) o
                at (some s) x r = r
                at none x r = ⊎_elim (λ e. absurd (omega (arith, e, L.parent_above a k))) (λ s. s) (tr.1 (T.parent a) (above itself h x))

            dec : (y : Bool) → ltb c (T.limit a) ≡ y → Commits (cond y (commit_under T S v.memory v.register t a b (suc c)) (stop v (fault at_limit a)))
            dec true f =
                inr (ap (λ n. commit_under T S v.memory v.register t a b (suc n)) tr.0, record { here = k; next = refl; young = subst (λ n. n < T.limit a) tr.0 (ltb-true _ _ f); own = own; others = others; full = full; fits = fits; bare = bare; way = tr.1 })
            dec false f = inl (fault at_limit a, refl, inl (refl, λ u z d. ⊎_elim (λ g. absurd (d g)) (λ g. g) (tr.1 u z), omega (arith, tr.0, ltb-false _ _ f, D.small a k)))

    -- As a run.
    pub commit_run : {Q : ℕ → Type 0} → Q a → Goes Q l v (commit T S v t a b)
    commit_run {Q} q = go commit_goes
      where
        go : Commits (commit T S v t a b) → Goes Q l v (commit T S v t a b)
        go (inl (x, e, _)) = subst (Goes Q l v) (sym e) (goes_stop l v x)
        go (inr (e, g)) = subst (Goes Q l v) (sym e) (record { log = entry a (suc (counter_in l a)) b ∷ l; trail = step t a (suc (counter_in l a)) b q g end })

    -- What a done commit leaves in the slots that are not the parent's.
    pub commit_slots : (commit T S v t a b).ends ≡ none → (q : ℕ) → (q ≡ T.parent a → ⊥) → (commit T S v t a b).view.table q ≡ t q
    commit_slots n q d = go commit_goes
      where
        go : Commits (commit T S v t a b) → (commit T S v t a b).view.table q ≡ t q
        go (inl (x, e, _)) = absurd (none≢some (sym n ∙ ap (λ r. r.ends) e))
        go (inr (e, g)) = ap (λ r. r.view.table q) e ∙ raise_other T S (T.depth (T.parent a)) v t a (suc (counter_in l a)) q d

  -- The addresses of nodes.
  abbrev pub Node : ℕ → Type 0
  Node a = T.data_lines ≤ a

  pub held_full : (l : Log) (v : View) → SlotsHold T l v.register.dirty v.table → (A : ℕ) → is_dirty (v.table A) ≡ true → (i : ℕ) → i < T.arity A → slot_counters (v.table A) i ≡ counter_in l (T.child A i)
  held_full l v O A h i j = go (v.table A) (O.exact A) h
    where
      go : (o : Option Slot) → Exact T l v.register.dirty o A → is_dirty o ≡ true → slot_counters o i ≡ counter_in l (T.child A i)
      go (some s) x h = x.1 i j
      go none x h = absurd (false≢true h)

  pub held_bare : (l : Log) (v : View) → SlotsHold T l v.register.dirty v.table → (A : ℕ) → (i : ℕ) → T.arity A ≤ i → slot_counters (v.table A) i ≡ 0
  held_bare l v O A i j = go (v.table A) refl
    where
      go : (o : Option Slot) → v.table A ≡ o → slot_counters o i ≡ 0
      go (some s) e = O.bare A s e i j
      go none e = refl

  pub held_inner : (l : Log) (v : View) → OpenHolds shapes T S l v → (A : ℕ) → is_dirty (v.table A) ≡ true → (T.data_lines ≤ A) × (A < T.lines)
  held_inner l v w A h = go (v.table A) (w.slots_hold.exact A) h
    where
      go : (o : Option Slot) → Exact T l v.register.dirty o A → is_dirty o ≡ true → (T.data_lines ≤ A) × (A < T.lines)
      go (some s) x h = w.durable.inner A x.0
      go none x h = absurd (false≢true h)

  -- What evicting node A gives: a chain of commits; and if done, A is out and nothing below A moved.
  abbrev pub Puts : Log → View → ℕ → Run → Type 0
  Puts l v A r = Goes Node l v r × (r.ends ≡ none → (q : ℕ) → q ≤ A → r.view.table q ≡ update v.table A none q)

  now_puts : (l : Log) (v : View) → OpenHolds shapes T S l v → (A : ℕ) → is_dirty (v.table A) ≡ true → CanRaise (v.table (T.parent A)) → Puts l v A (evict_now T S v A)
  unfolding evict_now
  now_puts l v w A h r =
      let (n, k) = held_inner l v w A h in
      let own : update v.table A none A ≡ none = update_same v.table A none A refl in
      let others : (p : ℕ) → (p ≡ A → ⊥) → update v.table A none p ≡ v.table p = update_other v.table A none in
      let full : T.data_lines ≤ A → (i : ℕ) → i < T.arity A → slot_counters (v.table A) i ≡ counter_in l (T.child A i) = λ _. held_full l v w.slots_hold A h in
      let bare : T.data_lines ≤ A → (i : ℕ) → T.arity A ≤ i → slot_counters (v.table A) i ≡ 0 = λ _. held_bare l v w.slots_hold A in (
        commit_run l v w (update v.table A none) A (slot_counters (v.table A)) k own others full r bare n,
        λ e q i. commit_slots l v w (update v.table A none) A (slot_counters (v.table A)) k own others full r bare e q (λ f. omega (arith, f, L.parent_above A k)),
      )

  pub evict_puts : (r : ℕ) (l : Log) (v : View) → OpenHolds shapes T S l v → (A : ℕ) → is_dirty (v.table A) ≡ true → T.depth (T.parent A) ≡ r → Puts l v A (evict_at T S v r A)
  unfolding evict_at
  evict_puts zero l v w A h e = now_puts l v w A h (can_raise (v.table (T.parent A)) refl)
    where
      k : A < T.lines
      k = (held_inner l v w A h).1

      can_raise : (o : Option Slot) → v.table (T.parent A) ≡ o → CanRaise o
      can_raise (some s) f = absurd (omega (arith, root_parent T L A k e, (held_inner l v w (T.parent A) (ap is_dirty f)).1))
      can_raise none f = tt
  evict_puts (suc r) l v w A h e = go (overdue (v.table (T.parent A))) refl (λ f. evict_puts r l v w (T.parent A) f (depth_next T L A r (inner_parent T L A r k e) e))
    where
      k : A < T.lines
      k = (held_inner l v w A h).1

      first_then : Puts l v (T.parent A) (evict_at T S v r (T.parent A)) → Puts l v A (and_then (evict_at T S v r (T.parent A)) (λ u. evict_now T S u A))
      first_then (g, s) =
          (goes_then l v (evict_at T S v r (T.parent A)) (λ u. evict_now T S u A) g (λ n. (second n).0), λ n q i. done n q i)
        where
          u : View
          u = (evict_at T S v r (T.parent A)).view

          low : (q : ℕ) → (evict_at T S v r (T.parent A)).ends ≡ none → q ≤ A → u.table q ≡ v.table q
          low q n i = s n q (omega (arith, i, L.parent_above A k)) ∙ update_other v.table (T.parent A) none q (λ f. omega (arith, f, i, L.parent_above A k))

          second : (evict_at T S v r (T.parent A)).ends ≡ none → Puts g.log u A (evict_now T S u A)
          second n =
              now_puts g.log u (open_after shapes T L S w g.trail) A (ap is_dirty (low A n (omega arith)) ∙ h)
              (subst CanRaise (sym (s n (T.parent A) (omega arith) ∙ update_same v.table (T.parent A) none (T.parent A) refl)) tt)

          done : (and_then (evict_at T S v r (T.parent A)) (λ u. evict_now T S u A)).ends ≡ none → (q : ℕ) → q ≤ A → (and_then (evict_at T S v r (T.parent A)) (λ u. evict_now T S u A)).view.table q ≡ update v.table A none q
          done n q i =
              let (n₁, n₂, x) = then_none (evict_at T S v r (T.parent A)) (λ u. evict_now T S u A) n in
              ap (λ y. y.table q) x ∙ (second n₁).1 n₂ q i ∙ at (cases_eq q A) n₁
            where
              at : (q ≡ A) ⊎ (q ≡ A → ⊥) → (evict_at T S v r (T.parent A)).ends ≡ none → update u.table A none q ≡ update v.table A none q
              at (inl f) n = update_same u.table A none q f ∙ sym (update_same v.table A none q f)
              at (inr f) n = update_other u.table A none q f ∙ low q n i ∙ sym (update_other v.table A none q f)

      go : (b : Bool) → overdue (v.table (T.parent A)) ≡ b → (is_dirty (v.table (T.parent A)) ≡ true → Puts l v (T.parent A) (evict_at T S v r (T.parent A))) → Puts l v A (cond b (and_then (evict_at T S v r (T.parent A)) (λ u. evict_now T S u A)) (evict_now T S v A))
      go true f ih = first_then (ih (overdue_held T S (v.table (T.parent A)) f))
      go false f ih = now_puts l v w A h (not_overdue T S (v.table (T.parent A)) f)

  low_puts : (l : Log) (v : View) → OpenHolds shapes T S l v → (o : Option ℕ) → lowest T v.table ≡ o → Goes Node l v (evict_lowest T S v o)
  unfolding evict
  low_puts l v w (some A) e = (evict_puts (T.depth (T.parent A)) l v w A (first_some T.lines _ A e).1 refl).0
  low_puts l v w none e = goes_stay l v

  -- Evicting is a chain of commits of nodes.
  pub until_goes : (m f : ℕ) (l : Log) (v : View) → OpenHolds shapes T S l v → Goes Node l v (evict_until T S m f v)
  unfolding evict_until
  until_goes m zero l v w = goes_stay l v
  until_goes m (suc f) l v w = go (leb (dirty_count T v.table) m) (λ l₁ u w₁. until_goes m f l₁ u w₁)
    where
      r : Run
      r = evict_lowest T S v (lowest T v.table)

      g : Goes Node l v r
      g = low_puts l v w (lowest T v.table) refl

      go : (b : Bool) → ((l₁ : Log) (u : View) → OpenHolds shapes T S l₁ u → Goes Node l₁ u (evict_until T S m f u)) → Goes Node l v (cond b (stay v) (and_then r (evict_until T S m f)))
      go true ih = goes_stay l v
      go false ih = goes_then l v r (evict_until T S m f) g (λ _. ih g.log r.view (open_after shapes T L S w g.trail))

  -- Done, it leaves at most m nodes dirty, if the turns suffice.
  pub until_ends : (m f : ℕ) (l : Log) (v : View) → OpenHolds shapes T S l v → ((q : ℕ) → q + f < T.lines → is_dirty (v.table q) ≡ false) → (evict_until T S m f v).ends ≡ none → dirty_count T (evict_until T S m f v).view.table ≤ m
  unfolding evict_until dirty_count evict
  until_ends m zero l v w h n =
      omega (arith, sum_zero T.lines (λ p. cond (is_dirty (v.table p)) 1 0) (λ i k. ap (λ b. cond b 1 0) (h i (omega arith))))
  until_ends m (suc f) l v w h n = go (leb (dirty_count T v.table) m) refl n (λ l₁ u w₁. until_ends m f l₁ u w₁)
    where
      r : Run
      r = evict_lowest T S v (lowest T v.table)

      g : Goes Node l v r
      g = low_puts l v w (lowest T v.table) refl

      clear : (o : Option ℕ) → lowest T v.table ≡ o → (evict_lowest T S v o).ends ≡ none → (q : ℕ) → q + f < T.lines → is_dirty ((evict_lowest T S v o).view.table q) ≡ false
      clear none e n q i = first_none T.lines _ e q (omega arith)
      clear (some A) e n q i =
          let (k, held, low) = first_some T.lines _ A e in
          let far : A + suc f < T.lines → ⊥ = λ z. both_ways _ (h A z) held in
          let qa : q ≤ A = near far (cases_lt (A + suc f) T.lines) in
          ap is_dirty (out k held q qa) ∙ at low (cases_eq q A) qa
        where
          near : (A + suc f < T.lines → ⊥) → (A + suc f < T.lines) ⊎ (T.lines ≤ A + suc f) → q ≤ A
          near z (inl x) = absurd (z x)
          near z (inr x) = omega arith

          out : A < T.lines → is_dirty (v.table A) ≡ true → (q : ℕ) → q ≤ A → (evict T S v A).view.table q ≡ update v.table A none q
          out k held = (evict_puts (T.depth (T.parent A)) l v w A held refl).1 n

          at : ((i : ℕ) → i < A → is_dirty (v.table i) ≡ false) → (q ≡ A) ⊎ (q ≡ A → ⊥) → q ≤ A → is_dirty (update v.table A none q) ≡ false
          at low (inl z) _ = ap is_dirty (update_same v.table A none q z)
          at low (inr z) y = ap is_dirty (update_other v.table A none q z) ∙ low q (omega arith)

      go : (b : Bool) → leb (dirty_count T v.table) m ≡ b → (cond b (stay v) (and_then r (evict_until T S m f))).ends ≡ none → ((l₁ : Log) (u : View) → OpenHolds shapes T S l₁ u → ((q : ℕ) → q + f < T.lines → is_dirty (u.table q) ≡ false) → (evict_until T S m f u).ends ≡ none → dirty_count T (evict_until T S m f u).view.table ≤ m) → dirty_count T (cond b (stay v) (and_then r (evict_until T S m f))).view.table ≤ m
      go true e n ih = leb-true _ _ e
      go false e n ih =
          let (n₁, n₂, x) = then_none r (evict_until T S m f) n in
          subst (λ y. dirty_count T y.table ≤ m) (sym x) (ih g.log r.view (open_after shapes T L S w g.trail) (clear (lowest T v.table) refl n₁) n₂)

  abbrev P : ℕ → ℕ
  P a = T.parent a

  -- A run of node commits that leaves room for one more raise at node p.
  abbrev pub Clears : Log → View → ℕ → Run → Type 0
  Clears l v p r = Goes Node l v r × (r.ends ≡ none → CanRaise (r.view.table p))

  overdue_clears : (l : Log) (v : View) → OpenHolds shapes T S l v → (p : ℕ) → Clears l v p (evict_overdue T S v p)
  unfolding evict
  overdue_clears l v w p = go (overdue (v.table p)) refl
    where
      go : (b : Bool) → overdue (v.table p) ≡ b → Clears l v p (cond b (evict T S v p) (stay v))
      go true e =
          let (g, s) = evict_puts (T.depth (T.parent p)) l v w p (overdue_held T S (v.table p) e) refl in
          (g, λ n. subst CanRaise (sym (s n p (omega arith) ∙ update_same v.table p none p refl)) tt)
      go false e = (goes_stay l v, λ n. not_overdue T S (v.table p) e)

  room_clears : (cap : ℕ) (l : Log) (v : View) → OpenHolds shapes T S l v → (d : ℕ) → d < T.data_lines → (o : Option Slot) → v.table (T.parent d) ≡ o → CanRaise o → Clears l v (T.parent d) (make_room T S cap (T.parent d) v o)
  room_clears cap l v w d h (some s) e y = (goes_stay l v, λ n. subst CanRaise (sym e) y)
  room_clears cap l v w d h none e y =
      let g = until_goes (cap - 1) T.lines l v w in
      (g, λ n. ⊎_elim (λ f. subst CanRaise (sym (f ∙ e)) tt) (λ f. subst CanRaise (sym f) tt) (leaf_kept L g.trail d h))

  pub room_freed : (cap : ℕ) (l : Log) (v : View) → OpenHolds shapes T S l v → (d : ℕ) → d < T.data_lines → Clears l v (T.parent d) (and_then (evict_overdue T S v (T.parent d)) (λ u. make_room T S cap (T.parent d) u (u.table (T.parent d))))
  room_freed cap l v w d h = at (overdue_clears l v w (T.parent d))
    where
      r : Run
      r = evict_overdue T S v (T.parent d)

      f : View → Run
      f u = make_room T S cap (T.parent d) u (u.table (T.parent d))

      at : Clears l v (T.parent d) r → Clears l v (T.parent d) (and_then r f)
      at (g, y) = (
        goes_then l v r f g (λ n. (second n).0),
        λ n. let (n₁, n₂, x) = then_none r f n in subst (λ z. CanRaise (z.table (T.parent d))) (sym x) ((second n₁).1 n₂),
      )
        where
          second : r.ends ≡ none → Clears g.log r.view (T.parent d) (f r.view)
          second n = room_clears cap g.log r.view (open_after shapes T L S w g.trail) d h (r.view.table (T.parent d)) refl (y n)

  -- What a write comes to: refused in format room or at its own commit, after commits of nodes alone; or those and its own commit.
  pub data Wrote (l : Log) (v : View) (a : ℕ) (b : Body) : Run → Type 0 where
    short : {r : Run} (g : Goes Node l v r) (x : Fault) → r.ends ≡ some x → Wrote l v a b r
    whole : {ws : List Write} {u : View} (l₁ : Log) → Trail T S Node v l ws u l₁ → Legal T S l₁ u u.table a (suc (counter_in l₁ a)) b → Wrote l v a b (record { planned = ws ++ (commit_under T S u.memory u.register u.table a b (suc (counter_in l₁ a))).planned; view = (commit_under T S u.memory u.register u.table a b (suc (counter_in l₁ a))).view; ends = none })

  pub data_slot : (l : Log) (v : View) → OpenHolds shapes T S l v → (a : ℕ) → a < T.data_lines → v.table a ≡ none
  data_slot l v w a h = go (v.table a) refl
    where
      go : (o : Option Slot) → v.table a ≡ o → o ≡ none
      go (some s) e = absurd (omega (arith, (held_inner l v w a (ap is_dirty e)).0))
      go none e = refl

  -- The data line's own commit, after a run that left room.
  own_commit : (l : Log) (v : View) → OpenHolds shapes T S l v → (a : ℕ) (b : Body) → a < T.data_lines → (r : Run) → Clears l v (T.parent a) r → Wrote l v a b (and_then r (λ u. commit T S u u.table a b))
  own_commit l v w a b h r (g, y) = go r.ends refl
    where
      last : r.ends ≡ none → Wrote l v a b (chain r none (λ u. commit T S u u.table a b))
      last n = at (commit_goes g.log r.view w₁ r.view.table a b k (data_slot g.log r.view w₁ a h) (λ p _. refl) (λ z. absurd (omega arith)) (y n) (λ z. absurd (omega arith)))
        where
          w₁ : OpenHolds shapes T S g.log r.view
          w₁ = open_after shapes T L S w g.trail

          k : a < T.lines
          k = omega (arith, L.data_in)

          c : Run
          c = commit T S r.view r.view.table a b

          at : ((x : Fault) × (c ≡ stop r.view x) × Reason g.log r.view a x) ⊎ ((c ≡ commit_under T S r.view.memory r.view.register r.view.table a b (suc (counter_in g.log a))) × Legal T S g.log r.view r.view.table a (suc (counter_in g.log a)) b) → Wrote l v a b (record { planned = r.planned ++ c.planned; view = c.view; ends = c.ends })
          at (inl (x, e, _)) =
              subst (λ z. Wrote l v a b (record { planned = r.planned ++ z.planned; view = z.view; ends = z.ends })) (sym e)
              (short (record { log = g.log; trail = join g.trail end }) x refl)
          at (inr (e, G)) =
              subst (λ z. Wrote l v a b (record { planned = r.planned ++ z.planned; view = z.view; ends = z.ends })) (sym e) (whole g.log g.trail G)

      go : (o : Option Fault) → r.ends ≡ o → Wrote l v a b (chain r o (λ u. commit T S u u.table a b))
      go (some x) e = short g x e
      go none e = last e

  pub wrote : (cap : ℕ) (l : Log) (v : View) → OpenHolds shapes T S l v → (a : ℕ) (b : Body) → a < T.data_lines → Wrote l v a b (write_at T S (T.depth (T.parent a)) cap v a b)
  wrote cap l v w a b h = go (T.depth (T.parent a)) refl
    where
      k : a < T.lines
      k = omega (arith, L.data_in)

      root_room : T.depth (T.parent a) ≡ 0 → (o : Option Slot) → v.table (T.parent a) ≡ o → CanRaise o
      root_room e (some s) f = absurd (omega (arith, root_parent T L a k e, (held_inner l v w (T.parent a) (ap is_dirty f)).1))
      root_room e none f = tt

      go : (r : ℕ) → T.depth (T.parent a) ≡ r → Wrote l v a b (write_at T S r cap v a b)
      go zero e = own_commit l v w a b h (stay v) (goes_stay l v, λ n. root_room e (v.table (T.parent a)) refl)
      go (suc r) e = own_commit l v w a b h _ (room_freed cap l v w a h)

  -- Flushing is a chain of commits of nodes, and done, it leaves none dirty.
  pub flush_goes : (l : Log) (v : View) → OpenHolds shapes T S l v → Goes Node l v (flush_call T S v)
  unfolding flush_call
  flush_goes l v w = until_goes 0 T.lines l v w

  pub flush_ends : (l : Log) (v : View) → OpenHolds shapes T S l v → (flush_call T S v).ends ≡ none → (p : ℕ) → p < T.lines → is_dirty ((flush_call T S v).view.table p) ≡ false
  unfolding flush_call dirty_count
  flush_ends l v w n p k = go (is_dirty ((evict_until T S 0 T.lines v).view.table p)) refl
    where
      none_left : dirty_count T (evict_until T S 0 T.lines v).view.table ≤ 0
      none_left = until_ends 0 T.lines l v w (λ q h. absurd (omega arith)) n

      go : (b : Bool) → is_dirty ((evict_until T S 0 T.lines v).view.table p) ≡ b → b ≡ false
      go true e =
          let z : cond (is_dirty ((evict_until T S 0 T.lines v).view.table p)) 1 0 ≤ dirty_count T (evict_until T S 0 T.lines v).view.table = term_le T.lines (λ p. cond (is_dirty ((evict_until T S 0 T.lines v).view.table p)) 1 0) p k in
          let y : 1 ≤ dirty_count T (evict_until T S 0 T.lines v).view.table = rw e at z in
          absurd (omega (arith, y, none_left))
      go false e = refl
