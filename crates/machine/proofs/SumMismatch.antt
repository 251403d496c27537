-- Where the restored counters miss the dirty sum, every line that was rested on is one committed there, if long ago.
use Rattle.std.proofs.Common.{◌≡◌, ℕ, zero, suc, ◌<◌, ◌≤◌, Bool, true, false, cond, eqb, ◌⊎◌, sym, refl, ap, ◌∙◌, subst, inl, inr, ⊎_elim, le_refl, arith}
use mathlib.Core.Option.{Option, some, none}
use Rattle.std.proofs.lemmas.Bool.{both_ways, and_parts, leb-true}
use Rattle.suite.specs.Scheme.{Body, Line, Scheme, right}
use Rattle.machine.specs.Layout.{Shape, TreeLaws}
use Rattle.machine.specs.Store.{line_at, Register, Log}
use Rattle.machine.specs.Faults.{number, fault, Outcome, ok, err, bind, sum_mismatch}
use Rattle.machine.specs.Plans.{Slot, Table, View, held, in_line, counter_at, counter_of, restore, recover, sum_of}
use Rattle.machine.specs.History.{counter_in, body_in, InLog}
use Rattle.machine.specs.Laws.{Rests, RecoveryRests, way, child}
use Rattle.machine.proofs.Invariant.{Durable, Fine}
use Rattle.machine.proofs.Basics.{err≢ok, err_inj, cond_ok, none≢some}
use Rattle.machine.proofs.Lines.{valid_right}
use Rattle.machine.proofs.TrustedCounter.{rests_split, inner_parent, depth_next, root_parent}
use Rattle.machine.proofs.Recovery.{Fixed, fixed, slot_facts, counter_le, child_right, restore_cause}

module _ (shapes : ℕ → Shape) (T : Shape) (L : TreeLaws T) (S : Scheme) (l : Log) (m : ℕ → Line) (g : Register) (D : Durable T S l g) (fine : (q : ℕ) → q < T.lines → Fine shapes T S l m q) where
  abbrev CommittedBefore : ℕ → Type 0
  CommittedBefore q = (c : ℕ) × (b : Body) × InLog l q c b × (m q ≡ line_at T S q c b)

  old : (a c : ℕ) → a < T.lines → c ≤ T.limit a → right S a c (m a) ≡ true → CommittedBefore a
  old a c k h r = go (fine a k)
    where
      go : Fine shapes T S l m a → CommittedBefore a
      go (inl s) = (counter_in l a, body_in l a, D.latest a k, s)
      go (inr f) = let (b, w, e) = f c h r in (c, b, w, e)

  module _ (t : Table) (F : Fixed T S T.lines m g (λ p. none) t) where
    abbrev v : View
    v = record { memory = m; register = g; table = t }

    held_dirty : (p : ℕ) (s : Slot) → p < T.lines → t p ≡ some s → g.dirty p ≡ true
    held_dirty p s k e = go (g.dirty p) refl
      where
        go : (b : Bool) → g.dirty p ≡ b → b ≡ true
        go true u = refl
        go false u = absurd (none≢some (sym (F.clean p k u) ∙ e))

    way_old : (r a c : ℕ) → a < T.lines → T.depth (T.parent a) ≡ r → counter_at T S v r a ≡ ok c → (q : ℕ) → Rests T g.dirty a q → (q ≡ a) ⊎ CommittedBefore q
    unfolding counter_at
    way_old zero a c k e h q r = go (rests_split r)
      where
        go : (q ≡ a) ⊎ ((T.parent a < T.lines) × (g.dirty (T.parent a) ≡ false) × Rests T g.dirty (T.parent a) q) → (q ≡ a) ⊎ CommittedBefore q
        go (inl y) = inl y
        go (inr y) = absurd (omega (arith, root_parent T L a k e, y.0))
    way_old (suc n) a c k e h q r = go (rests_split r) (λ c' f y. way_old n (T.parent a) c' j (depth_next T L a n j e) f q y)
      where
        j : T.parent a < T.lines
        j = inner_parent T L a n k e

        Ih : Type 0
        Ih = (c' : ℕ) → counter_at T S v n (T.parent a) ≡ ok c' → Rests T g.dirty (T.parent a) q → (q ≡ T.parent a) ⊎ CommittedBefore q

        at_line : (z : Outcome ℕ) → counter_at T S v n (T.parent a) ≡ z → Ih → Rests T g.dirty (T.parent a) q → in_line T S m (T.parent a) (T.index a) z ≡ ok c → CommittedBefore q
        at_line (err y) f ih x i = absurd (err≢ok i)
        at_line (ok c') f ih x i =
            let so = (cond_ok _ _ _ i).0 in
            let o : CommittedBefore (T.parent a) = old (T.parent a) c' j (omega (arith, counter_le shapes T L S l m g D fine t F n (T.parent a) c' j (depth_next T L a n j e) f, D.small (T.parent a) j)) (valid_right T S m (T.parent a) c' so) in
            ⊎_elim (λ y. subst CommittedBefore (sym y) o) (λ y. y) (ih c' f x)

        slot_at : (o : Option Slot) → t (T.parent a) ≡ o → g.dirty (T.parent a) ≡ false → Ih → Rests T g.dirty (T.parent a) q → held o (T.index a) (in_line T S m (T.parent a) (T.index a) (counter_at T S v n (T.parent a))) ≡ ok c → CommittedBefore q
        slot_at (some s) f u ih x i = absurd (both_ways _ u (held_dirty (T.parent a) s j f))
        slot_at none f u ih x i = at_line (counter_at T S v n (T.parent a)) refl ih x i

        go : (q ≡ a) ⊎ ((T.parent a < T.lines) × (g.dirty (T.parent a) ≡ false) × Rests T g.dirty (T.parent a) q) → Ih → (q ≡ a) ⊎ CommittedBefore q
        go (inl y) ih = inl y
        go (inr y) ih = inr (slot_at (t (T.parent a)) refl y.1 ih y.2 h)

    recovery_old : (q : ℕ) → RecoveryRests T g.dirty q → CommittedBefore q
    unfolding counter_of
    recovery_old q (way {p = p} k u r) =
        let (s, x, y) = F.map_count p k u in
        let (c, f, so, all_valid, z) = slot_facts T S v p s y in
        let o : CommittedBefore p = old p c k (omega (arith, counter_le shapes T L S l m g D fine t F (T.depth (T.parent p)) p c k refl f, D.small p k)) (valid_right T S m p c so) in
        ⊎_elim (λ e. subst CommittedBefore (sym e) o) (λ e. e) (way_old (T.depth (T.parent p)) p c k refl f q r)
    recovery_old q (child {p = p} i k u j) =
        let (s, x, y) = F.map_count p k u in
        let (c, f, so, all_valid, z) = slot_facts T S v p s y in
        old (T.child p i) _ (L.child_in p i (D.inner p u).0 (omega arith) j) (leb-true _ _ (and_parts _ _ (all_valid i j)).0) (child_right T S m p i (all_valid i j))

  pub missed_old : recover T S m g ≡ err (fault sum_mismatch 0) → (q : ℕ) → RecoveryRests T g.dirty q → (c : ℕ) × (b : Body) × InLog l q c b × (m q ≡ line_at T S q c b)
  unfolding recover bind
  missed_old e q r = go (restore T S T.lines (record { memory = m; register = g; table = λ p. none })) refl e
    where
      go : (z : Outcome View) → restore T S T.lines (record { memory = m; register = g; table = λ p. none }) ≡ z → bind z (λ w. cond (eqb (sum_of T w.table) g.dirty_sum) (ok w.table) (err (fault sum_mismatch 0))) ≡ err (fault sum_mismatch 0) → CommittedBefore q
      go (ok w) f h = let (_, _, F) = fixed T S L T.lines m g (λ p. none) w (le_refl T.lines) f in recovery_old w.table F q r
      go (err y) f h =
          let z : ◌≡◌ {A = ℕ} 9 8 = ap number (ap (λ u. u.cause) (sym (err_inj h)) ∙ restore_cause T S T.lines _ y f) in
          absurd (omega arith)
