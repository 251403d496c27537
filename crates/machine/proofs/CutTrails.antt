-- What a chain of commits cut anywhere leaves in the log and in the memory.
use Rattle.std.proofs.Common.{◌≡◌, ℕ, zero, suc, ◌+◌, ◌<◌, ◌≤◌, true, ◌&&◌, ltb, ◌⊎◌, List, [], ◌∷◌, ◌++◌, length, sym, refl, ap, ◌∙◌, subst, inl, inr, ⊎_elim, arith}
use mathlib.Core.Path.{fun_ext}
use mathlib.Core.Option.{some}
use Rattle.std.proofs.lemmas.Bool.{cases_eq}
use Rattle.std.proofs.lemmas.List.{append_assoc, length_push}
use Rattle.suite.specs.Scheme.{Body, Line, Scheme, right}
use Rattle.machine.specs.Layout.{Shape, TreeLaws, update}
use Rattle.machine.specs.Store.{line_at, Log, Write, write_register, write_line, BoardState, after_write, after_writes, log_after, commits_in, place_of}
use Rattle.machine.specs.Plans.{Table, View, commit_under}
use Rattle.machine.specs.History.{counter_in, body_in, InLog}
use Rattle.machine.specs.Laws.{WayStands, Stands, Rests}
use Rattle.machine.specs.CommitLaws.{pending_in, to_come, newest, Checked, then}
use Rattle.machine.proofs.Invariant.{Fine}
use Rattle.machine.proofs.Basics.{update_same, update_other, none≢some}
use Rattle.machine.proofs.Lines.{line_right}
use Rattle.machine.proofs.CommitKeeps.{counter_new, counter_old, body_new, body_old, counter_mono}
use Rattle.machine.proofs.Trails.{Legal, entry, Trail, end, step, OpenHolds, after_line}
use Rattle.machine.proofs.WriteLaws.{lines_apart}
use Rattle.machine.proofs.RegisterSays.{dirty_say}
use Rattle.machine.proofs.CommitOrder.{to_come_front, to_come_one}

log_zero : (ws : List Write) (l : Log) → log_after 0 ws l ≡ l
unfolding log_after
log_zero [] l = refl
log_zero (w ∷ ws) l = refl

newest_front : (xs ys : Log) (q : ℕ) → newest xs ≡ some q → newest (xs ++ ys) ≡ some q
newest_front [] ys q e = absurd (none≢some e)
newest_front (x ∷ xs) ys q e = e

module _ (shapes : ℕ → Shape) (T : Shape) (L : TreeLaws T) (S : Scheme) where
  -- What was committed and what is left, after k writes of a chain that leads from l to l'.
  pub record Parts (ws : List Write) (l l' : Log) (b : BoardState) (k : ℕ) : Type 0 where
    pub rest : Log
    pub new : Log
    pub before : l' ≡ rest ++ log_after k ws l
    pub after : log_after k ws l ≡ new ++ l
    pub many : commits_in k ws ≡ length new
    pub whole : length ws ≤ k → rest ≡ []
    pub hand : k < length ws →
        ((to_come rest ≡ some (place_of k ws)) × WayStands T S (log_after k ws l) b.memory b.register.dirty (place_of k ws) × (counter_in (log_after k ws l) (place_of k ws) < T.limit (place_of k ws)))
        ⊎ ((newest new ≡ some (place_of k ws)) × (Stands T S (log_after k ws l) b.memory (place_of k ws) → ⊥))

  -- A line journaled but not yet written does not stand.
  before_line : (l : Log) (v : View) → OpenHolds shapes T S l v → (t : Table) (a c : ℕ) (b : Body) → Legal T S l v t a c b → v.memory a ≡ line_at T S a c b → ⊥
  before_line l v w t a c b g e = go (w.fine a g.here)
    where
      go : Fine shapes T S l v.memory a → ⊥
      go (inl s) = lines_apart T S a (counter_in l a) b (body_in l a) (ap (λ n. line_at T S a n b) (sym g.next) ∙ sym e ∙ s)
      go (inr f) =
          let (d, u, _) = f c g.young (subst (λ z. right S a c z ≡ true) (sym e) (line_right T S a c b)) in
          omega (arith, (w.durable.known a c d u).1, g.next)

  pub parts : {Q : ℕ → Type 0} {v : View} {l : Log} {ws : List Write} {v' : View} {l' : Log} → OpenHolds shapes T S l v → Trail T S Q v l ws v' l' → (b : BoardState) → b.memory ≡ v.memory → b.register ≡ v.register → (k : ℕ) → Parts ws l l' (after_writes k ws b) k
  unfolding after_writes log_after commits_in place_of
  parts w end b e f k = record { rest = []; new = []; before = refl; after = refl; many = refl; whole = λ _. refl; hand = λ h. absurd (omega arith) }
  parts {v = v} {l = l} {l' = l'} w (step t a c y {ws = ws} q g x) b e f zero =
      let z = parts (after_line shapes T L S l v w t a c y g) x (after_write (after_write b (write_register a (entry a c y ∷ []) (commit_under T S v.memory v.register t a y c).view.register)) (write_line a (line_at T S a c y))) (ap (λ m. update m a (line_at T S a c y)) e) refl 0 in
      record {
        rest = z.rest ++ (entry a c y ∷ []);
        new = [];
        before = z.before ∙ ap (λ u. z.rest ++ u) (log_zero ws (entry a c y ∷ l)) ∙ sym (append_assoc z.rest (entry a c y ∷ []) l);
        after = refl;
        many = refl;
        whole = λ h. absurd (omega arith);
        hand = λ _. inl (to_come_front z.rest (entry a c y ∷ []) a (to_come_one (entry a c y)), λ u r d. stands u (g.way u (subst (λ h. Rests T h.dirty a u) f r)) d, omega (arith, g.next, g.young));
      }
    where
      stands : (u : ℕ) → (u ≡ a) ⊎ Stands T S l v.memory u → (u ≡ a → ⊥) → Stands T S l b.memory u
      stands u (inl h) d = absurd (d h)
      stands u (inr h) d = ap (λ m. m u) e ∙ h
  parts {v = v} {l = l} {l' = l'} w (step t a c y {ws = ws} q g x) b e f (suc zero) =
      let z = parts (after_line shapes T L S l v w t a c y g) x (after_write (after_write b (write_register a (entry a c y ∷ []) (commit_under T S v.memory v.register t a y c).view.register)) (write_line a (line_at T S a c y))) (ap (λ m. update m a (line_at T S a c y)) e) refl 0 in
      record {
        rest = z.rest;
        new = entry a c y ∷ [];
        before = z.before ∙ ap (λ u. z.rest ++ u) (log_zero ws (entry a c y ∷ l));
        after = refl;
        many = refl;
        whole = λ h. absurd (omega arith);
        hand = λ _. inr (refl, λ s. before_line l v w t a c y g (ap (λ m. m a) (sym e) ∙ s ∙ ap (λ n. line_at T S a n (body_in (entry a c y ∷ l) a)) (counter_new l (entry a c y) a refl) ∙ ap (line_at T S a c) (body_new l (entry a c y) a refl)));
      }
  parts {v = v} {l = l} {l' = l'} w (step t a c y {ws = ws} q g x) b e f (suc (suc k)) =
      let z = parts (after_line shapes T L S l v w t a c y g) x (after_write (after_write b (write_register a (entry a c y ∷ []) (commit_under T S v.memory v.register t a y c).view.register)) (write_line a (line_at T S a c y))) (ap (λ m. update m a (line_at T S a c y)) e) refl k in
      record {
        rest = z.rest;
        new = z.new ++ (entry a c y ∷ []);
        before = z.before;
        after = z.after ∙ sym (append_assoc z.new (entry a c y ∷ []) l);
        many = omega (arith, z.many, length_push z.new (entry a c y));
        whole = λ h. z.whole (omega arith);
        hand = λ h. ⊎_elim (λ u. inl u) (λ u. inr (newest_front z.new (entry a c y ∷ []) _ u.0, u.1)) (z.hand (omega arith));
      }

  -- Two writes for each commit.
  pub twice : {Q : ℕ → Type 0} {v : View} {l : Log} {ws : List Write} {v' : View} {l' : Log} → Trail T S Q v l ws v' l' → length ws ≡ commits_in (length ws) ws + commits_in (length ws) ws
  unfolding commits_in
  twice end = refl
  twice (step t a c y u g x) = omega (arith, twice x)

  -- A line whose counter did not rise keeps its body and stays as it was in memory.
  pub frame : {Q : ℕ → Type 0} {v : View} {l : Log} {ws : List Write} {v' : View} {l' : Log} → Trail T S Q v l ws v' l' → (b : BoardState) (k q : ℕ) → (counter_in l q ≤ counter_in (log_after k ws l) q) × (counter_in (log_after k ws l) q ≡ counter_in l q → (body_in (log_after k ws l) q ≡ body_in l q) × ((after_writes k ws b).memory q ≡ b.memory q))
  unfolding after_writes log_after
  frame end b k q = (omega arith, λ _. (refl, refl))
  frame (step t a c y u g x) b zero q = (omega arith, λ _. (refl, refl))
  frame {l = l} (step t a c y u g x) b (suc zero) q = (counter_mono l (entry a c y) g.next q, λ e. (body_old l (entry a c y) q (apart e), refl))
    where
      apart : counter_in (entry a c y ∷ l) q ≡ counter_in l q → q ≡ a → ⊥
      apart e f = omega (arith, e, counter_new l (entry a c y) q f, g.next, ap (counter_in l) f)
  frame {v = v} {l = l} (step t a c y {ws = ws} u g x) b (suc (suc k)) q = go (frame x (after_write (after_write b (write_register a (entry a c y ∷ []) (commit_under T S v.memory v.register t a y c).view.register)) (write_line a (line_at T S a c y))) k q)
    where
      go :
          (counter_in (entry a c y ∷ l) q ≤ counter_in (log_after k ws (entry a c y ∷ l)) q) × (counter_in (log_after k ws (entry a c y ∷ l)) q ≡ counter_in (entry a c y ∷ l) q → (body_in (log_after k ws (entry a c y ∷ l)) q ≡ body_in (entry a c y ∷ l) q) × ((after_writes k ws (after_write (after_write b (write_register a (entry a c y ∷ []) (commit_under T S v.memory v.register t a y c).view.register)) (write_line a (line_at T S a c y)))).memory q ≡ update b.memory a (line_at T S a c y) q))
          → (counter_in l q ≤ counter_in (log_after k ws (entry a c y ∷ l)) q) × (counter_in (log_after k ws (entry a c y ∷ l)) q ≡ counter_in l q → (body_in (log_after k ws (entry a c y ∷ l)) q ≡ body_in l q) × ((after_writes k ws (after_write (after_write b (write_register a (entry a c y ∷ []) (commit_under T S v.memory v.register t a y c).view.register)) (write_line a (line_at T S a c y)))).memory q ≡ b.memory q))
      go ih = (
        omega (arith, counter_mono l (entry a c y) g.next q, ih.0),
        λ e.
            let d : q ≡ a → ⊥ = λ f. omega (arith, e, ih.0, counter_new l (entry a c y) q f, g.next, ap (counter_in l) f) in
            let (f, h) = ih.1 (omega (arith, e, ih.0, counter_mono l (entry a c y) g.next q)) in
            (f ∙ body_old l (entry a c y) q d, h ∙ update_other b.memory a (line_at T S a c y) q d),
      )

  -- A line whose counter rose stands, unless it is the one in hand.
  pub stored : {Q : ℕ → Type 0} {v : View} {l : Log} {ws : List Write} {v' : View} {l' : Log} → Trail T S Q v l ws v' l' → (b : BoardState) (k q : ℕ) → (counter_in (log_after k ws l) q ≡ counter_in l q → ⊥) → Stands T S (log_after k ws l) (after_writes k ws b).memory q ⊎ ((k < length ws) × (place_of k ws ≡ q) × (newest (log_after k ws l) ≡ some q))
  unfolding after_writes log_after place_of
  stored end b k q n = absurd (n refl)
  stored (step t a c y u g x) b zero q n = absurd (n refl)
  stored {l = l} (step t a c y {ws = ws} u g x) b (suc zero) q n = go (cases_eq q a)
    where
      go : (q ≡ a) ⊎ (q ≡ a → ⊥) → Stands T S (entry a c y ∷ l) b.memory q ⊎ ((1 < suc (suc (length ws))) × (a ≡ q) × (newest (entry a c y ∷ l) ≡ some q))
      go (inl e) = inr (omega arith, sym e, ap some (sym e))
      go (inr e) = absurd (n (counter_old l (entry a c y) q e))
  stored {v = v} {l = l} (step t a c y {ws = ws} u g x) b (suc (suc k)) q n = go (cases_eq (counter_in (log_after k ws (entry a c y ∷ l)) q) (counter_in (entry a c y ∷ l) q)) (stored x (after_write (after_write b (write_register a (entry a c y ∷ []) (commit_under T S v.memory v.register t a y c).view.register)) (write_line a (line_at T S a c y))) k q)
    where
      b₂ : BoardState
      b₂ = after_write (after_write b (write_register a (entry a c y ∷ []) (commit_under T S v.memory v.register t a y c).view.register)) (write_line a (line_at T S a c y))

      own : counter_in (log_after k ws (entry a c y ∷ l)) q ≡ counter_in (entry a c y ∷ l) q → (q ≡ a) ⊎ (q ≡ a → ⊥) → Stands T S (log_after k ws (entry a c y ∷ l)) (after_writes k ws b₂).memory q
      own e (inl f) =
          let (h, i) = (frame x b₂ k q).1 e in
          i ∙ update_same b.memory a (line_at T S a c y) q f ∙ ap (λ z. line_at T S z c y) (sym f)
          ∙ ap (λ z. line_at T S q z y) (sym (e ∙ counter_new l (entry a c y) q f)) ∙ ap (line_at T S q (counter_in (log_after k ws (entry a c y ∷ l)) q)) (sym (h ∙ body_new l (entry a c y) q f))
      own e (inr f) = absurd (n (e ∙ counter_old l (entry a c y) q f))

      go : (counter_in (log_after k ws (entry a c y ∷ l)) q ≡ counter_in (entry a c y ∷ l) q) ⊎ (counter_in (log_after k ws (entry a c y ∷ l)) q ≡ counter_in (entry a c y ∷ l) q → ⊥) → ((counter_in (log_after k ws (entry a c y ∷ l)) q ≡ counter_in (entry a c y ∷ l) q → ⊥) → Stands T S (log_after k ws (entry a c y ∷ l)) (after_writes k ws b₂).memory q ⊎ ((k < length ws) × (place_of k ws ≡ q) × (newest (log_after k ws (entry a c y ∷ l)) ≡ some q))) → Stands T S (log_after k ws (entry a c y ∷ l)) (after_writes k ws b₂).memory q ⊎ ((suc (suc k) < suc (suc (length ws))) × (place_of k ws ≡ q) × (newest (log_after k ws (entry a c y ∷ l)) ≡ some q))
      go (inl e) ih = inl (own e (cases_eq q a))
      go (inr e) ih = ⊎_elim inl (λ h. inr (omega (arith, h.0), h.1, h.2)) (ih e)

  was_on : {Q : ℕ → Type 0} {v : View} {l : Log} {ws : List Write} {v' : View} {l' : Log} → Trail T S Q v l ws v' l' → (k q d : ℕ) (f : Body) → InLog l q d f → InLog (log_after k ws l) q d f
  unfolding log_after
  was_on end k q d f h = h
  was_on (step t a c y u g x) zero q d f h = h
  was_on (step t a c y u g x) (suc zero) q d f h = inr h
  was_on (step t a c y u g x) (suc (suc k)) q d f h = was_on x k q d f (inr h)

  -- No line becomes anything but one committed there.
  pub only : {Q : ℕ → Type 0} {v : View} {l : Log} {ws : List Write} {v' : View} {l' : Log} → Trail T S Q v l ws v' l' → (b : BoardState) (k q : ℕ) → ((after_writes k ws b).memory q ≡ b.memory q) ⊎ ((d : ℕ) × (f : Body) × InLog (log_after k ws l) q d f × ((after_writes k ws b).memory q ≡ line_at T S q d f))
  unfolding after_writes log_after
  only end b k q = inl refl
  only (step t a c y u g x) b zero q = inl refl
  only (step t a c y u g x) b (suc zero) q = inl refl
  only {v = v} {l = l} (step t a c y {ws = ws} u g x) b (suc (suc k)) q = go (only x (after_write (after_write b (write_register a (entry a c y ∷ []) (commit_under T S v.memory v.register t a y c).view.register)) (write_line a (line_at T S a c y))) k q) (cases_eq q a)
    where
      b₂ : BoardState
      b₂ = after_write (after_write b (write_register a (entry a c y ∷ []) (commit_under T S v.memory v.register t a y c).view.register)) (write_line a (line_at T S a c y))

      Goal : Type 0
      Goal = ((after_writes k ws b₂).memory q ≡ b.memory q) ⊎ ((d : ℕ) × (f : Body) × InLog (log_after k ws (entry a c y ∷ l)) q d f × ((after_writes k ws b₂).memory q ≡ line_at T S q d f))

      go : ((after_writes k ws b₂).memory q ≡ b₂.memory q) ⊎ ((d : ℕ) × (f : Body) × InLog (log_after k ws (entry a c y ∷ l)) q d f × ((after_writes k ws b₂).memory q ≡ line_at T S q d f)) → (q ≡ a) ⊎ (q ≡ a → ⊥) → Goal
      go (inl e) (inl f) = inr (c, y, was_on x k q c y (inl (sym f, refl, refl)), e ∙ update_same b.memory a (line_at T S a c y) q f ∙ ap (λ z. line_at T S z c y) (sym f))
      go (inl e) (inr f) = inl (e ∙ update_other b.memory a (line_at T S a c y) q f)
      go (inr h) f = inr h

  -- What the memory of the start, m, still says of the lines not committed since.
  abbrev Since : (ℕ → Line) → Log → View → Log → Type 0
  Since m l v k = (u : ℕ) → (counter_in l u ≤ counter_in k u) × (counter_in k u ≡ counter_in l u → (body_in k u ≡ body_in l u) × (v.memory u ≡ m u))

  since_next : (m : ℕ → Line) (l : Log) (v : View) (k : Log) (t : Table) (a c : ℕ) (b : Body) → Legal T S k v t a c b → Since m l v k → Since m l (commit_under T S v.memory v.register t a b c).view (entry a c b ∷ k)
  since_next m l v k t a c b g h u = (
    omega (arith, counter_mono k (entry a c b) g.next u, (h u).0),
    λ e.
        let d : u ≡ a → ⊥ = λ f. omega (arith, e, (h u).0, counter_new k (entry a c b) u f, g.next, ap (counter_in k) f) in
        let (x, y) = (h u).1 (omega (arith, e, (h u).0, counter_mono k (entry a c b) g.next u)) in
        (body_old k (entry a c b) u d ∙ x, update_other v.memory a (line_at T S a c b) u d ∙ y),
  )

  check_next : (m : ℕ → Line) (l : Log) (v : View) (k : Log) (t : Table) (a c : ℕ) (b : Body) → OpenHolds shapes T S k v → Legal T S k v t a c b → Since m l v k → Checked S T m l k → Checked S T m l (entry a c b ∷ k)
  check_next m l v k t a c b w g h x = subst (λ z. Checked S T m l (entry a z b ∷ k)) (sym g.next) (then a b x at)
    where
      dirty : v.register.dirty ≡ λ p. ltb p T.lines && ltb 0 (pending_in T k p)
      dirty = fun_ext (dirty_say T S k v.register w.durable)

      at : (u : ℕ) → Rests T (λ p. ltb p T.lines && ltb 0 (pending_in T k p)) a u → (u ≡ a → ⊥) → counter_in k u ≡ counter_in l u → Stands T S l m u
      at u r d e =
          let (y, z) = (h u).1 e in
          let s : Stands T S k v.memory u = ⊎_elim (λ f. absurd (d f)) (λ f. f) (g.way u (subst (λ n. Rests T n a u) (sym dirty) r)) in
          sym z ∙ s ∙ ap (λ n. line_at T S u n (body_in k u)) e ∙ ap (line_at T S u (counter_in l u)) y

  pub checks : {Q : ℕ → Type 0} {v : View} {k : Log} {ws : List Write} {v' : View} {k' : Log} → (m : ℕ → Line) (l : Log) → OpenHolds shapes T S k v → Since m l v k → Checked S T m l k → Trail T S Q v k ws v' k' → (j : ℕ) → Checked S T m l (log_after j ws k)
  unfolding log_after
  checks m l w h x end j = x
  checks m l w h x (step t a c y u g z) zero = x
  checks {v = v} {k = k} m l w h x (step t a c y u g z) (suc zero) = check_next m l v k t a c y w g h x
  checks {v = v} {k = k} m l w h x (step t a c y u g z) (suc (suc j)) = checks m l (after_line shapes T L S k v w t a c y g) (since_next m l v k t a c y g h) (check_next m l v k t a c y w g h x) z j
