-- A call's writes as a chain of commits, and what every cut of it leaves.
use Rattle.std.proofs.Common.{◌≡◌, ℕ, zero, suc, ◌<◌, ◌≤◌, ◌⊎◌, List, [], ◌∷◌, ◌++◌, length, sym, refl, ap, ◌∙◌, subst, inl, inr, arith}
use mathlib.Core.Option.{some, none}
use Rattle.std.proofs.lemmas.Bool.{cases_eq}
use Rattle.suite.specs.Scheme.{Body, Line, Scheme}
use Rattle.machine.specs.Layout.{Shape, TreeLaws, update}
use Rattle.machine.specs.Store.{line_at, Journal, Register, Commit, Log, Write, write_register, write_line, BoardState, after_writes, log_after, commits_in}
use Rattle.machine.specs.Plans.{Table, View, raise_table, commit_under}
use Rattle.machine.specs.History.{counter_in, body_in, Replayed}
use Rattle.machine.specs.Laws.{Stands, Rests, SameCommit, NoReuse}
use Rattle.std.proofs.lemmas.List.{append_assoc, length_push}
use Rattle.machine.proofs.Invariant.{Durable, Fine, SlotsHold}
use Rattle.machine.proofs.Basics.{update_same, update_other}
use Rattle.machine.proofs.CommitKeeps.{Fits, counter_new, counter_old, body_new, body_old, new_durable, new_live}

-- What a commit needs of the state it is made in.
pub record Legal (T : Shape) (S : Scheme) (l : Log) (v : View) (t : Table) (a c : ℕ) (b : Body) : Type 0 where
  pub here : a < T.lines
  pub next : c ≡ suc (counter_in l a)
  pub young : c ≤ T.limit a
  pub own : t a ≡ none
  pub others : (p : ℕ) → (p ≡ a → ⊥) → t p ≡ v.table p
  pub full : T.data_lines ≤ a → (i : ℕ) → i < T.arity a → b i ≡ counter_in l (T.child a i)
  pub fits : T.parent a < T.lines → Fits T S l v.memory (T.parent a) (v.table (T.parent a))
  pub bare : T.data_lines ≤ a → (i : ℕ) → T.arity a ≤ i → b i ≡ 0
  pub way : (q : ℕ) → Rests T v.register.dirty a q → (q ≡ a) ⊎ Stands T S l v.memory q

abbrev pub entry : ℕ → ℕ → Body → Commit
entry a c b = record { at = a; counter = c; body = b }

-- A chain of commits, all at addresses of which Q holds.
pub data Trail (T : Shape) (S : Scheme) (Q : ℕ → Type 0) : View → Log → List Write → View → Log → Type 0 where
  end : {v : View} {l : Log} → Trail T S Q v l [] v l
  step :
      {v : View} {l : Log} (t : Table) (a c : ℕ) (b : Body) {ws : List Write} {v' : View} {l' : Log}
      → Q a → Legal T S l v t a c b → Trail T S Q (commit_under T S v.memory v.register t a b c).view (entry a c b ∷ l) ws v' l'
      → Trail T S Q v l (write_register a (entry a c b ∷ []) (commit_under T S v.memory v.register t a b c).view.register ∷ write_line a (line_at T S a c b) ∷ ws) v' l'

pub join : {T : Shape} {S : Scheme} {Q : ℕ → Type 0} {v : View} {l : Log} {ws : List Write} {v₁ : View} {l₁ : Log} {ws₁ : List Write} {v₂ : View} {l₂ : Log} → Trail T S Q v l ws v₁ l₁ → Trail T S Q v₁ l₁ ws₁ v₂ l₂ → Trail T S Q v l (ws ++ ws₁) v₂ l₂
join end y = y
join (step t a c b q g x) y = step t a c b q g (join x y)

pub widen : {T : Shape} {S : Scheme} {Q R : ℕ → Type 0} → ((a : ℕ) → Q a → R a) → {v : View} {l : Log} {ws : List Write} {v₁ : View} {l₁ : Log} → Trail T S Q v l ws v₁ l₁ → Trail T S R v l ws v₁ l₁
widen f end = end
widen f (step t a c b q g x) = step t a c b (f a q) g (widen f x)

module _ (shapes : ℕ → Shape) (T : Shape) (S : Scheme) where
  -- The state of an open board, and of one whose journal may still have to be written back.
  pub record OpenHolds (l : Log) (v : View) : Type 0 where
    pub durable : Durable T S l v.register
    pub slots_hold : SlotsHold T l v.register.dirty v.table
    pub fine : (q : ℕ) → q < T.lines → Fine shapes T S l v.memory q

  pub record ColdHolds (l : Log) (m : ℕ → Line) (g : Register) : Type 0 where
    pub durable : Durable T S l g
    pub fine : (q : ℕ) → q < T.lines → ((n : Journal) → g.journal ≡ some n → n.at ≡ q → ⊥) → Fine shapes T S l m q

  pub open_to_cold : {l : Log} {v : View} → OpenHolds l v → ColdHolds l v.memory v.register
  open_to_cold w = record { durable = w.durable; fine = λ q k _. w.fine q k }

module _ (shapes : ℕ → Shape) (T : Shape) (L : TreeLaws T) (S : Scheme) where
  -- A line elsewhere is as fine after a commit as before.
  fine_on : (l : Log) (m : ℕ → Line) (a c : ℕ) (b : Body) (q : ℕ) → (q ≡ a → ⊥) → Fine shapes T S l m q → Fine shapes T S (entry a c b ∷ l) m q
  fine_on l m a c b q d (inl s) = inl (rw (counter_old l (entry a c b) q d, body_old l (entry a c b) q d) s)
  fine_on l m a c b q d (inr f) = inr (λ n k r. let (x, w, e) = f n k r in (x, inr w, e))

  module _ (l : Log) (v : View) (w : OpenHolds shapes T S l v) (t : Table) (a c : ℕ) (b : Body) (G : Legal T S l v t a c b) where
    after_register : ColdHolds shapes T S (entry a c b ∷ l) v.memory (commit_under T S v.memory v.register t a b c).view.register
    after_register =
        record {
          durable = new_durable T L S l v w.durable w.slots_hold t a c b G.here G.next G.young G.own G.others G.full G.fits G.bare;
          fine = λ q k n. fine_on l v.memory a c b q (λ e. n _ refl (sym e)) (w.fine q k);
        }

    pub after_line : OpenHolds shapes T S (entry a c b ∷ l) (commit_under T S v.memory v.register t a b c).view
    after_line =
        record {
          durable = after_register.durable;
          slots_hold = new_live T L S l v w.durable w.slots_hold t a c b G.here G.next G.young G.own G.others G.full G.fits G.bare;
          fine = λ q k. at q k (cases_eq q a);
        }
      where
        at : (q : ℕ) → q < T.lines → (q ≡ a) ⊎ (q ≡ a → ⊥) → Fine shapes T S (entry a c b ∷ l) (update v.memory a (line_at T S a c b)) q
        at q k (inl e) = inl (update_same v.memory a (line_at T S a c b) q e ∙ rw (counter_new l (entry a c b) q e, body_new l (entry a c b) q e) (ap (λ z. line_at T S z c b) (sym e)))
        at q k (inr e) =
            subst (λ (x : Line). (x ≡ line_at T S q (counter_in (entry a c b ∷ l) q) (body_in (entry a c b ∷ l) q)) ⊎ Replayed S T (entry a c b ∷ l) q x) (sym (update_other v.memory a (line_at T S a c b) q e)) (fine_on l v.memory a c b q e (w.fine q k))

  -- A chain of commits keeps an open board's state.
  pub open_after : {Q : ℕ → Type 0} {v : View} {l : Log} {ws : List Write} {v' : View} {l' : Log} → OpenHolds shapes T S l v → Trail T S Q v l ws v' l' → OpenHolds shapes T S l' v'
  open_after w end = w
  open_after {v = v} {l = l} w (step t a c b q g x) = open_after (after_line l v w t a c b g) x

  -- What a board holds after a chain done whole.
  pub after_writes_all : {Q : ℕ → Type 0} {v : View} {l : Log} {ws : List Write} {v' : View} {l' : Log} → Trail T S Q v l ws v' l' → (b : BoardState) → b.memory ≡ v.memory → b.register ≡ v.register → ((after_writes (length ws) ws b).memory ≡ v'.memory) × ((after_writes (length ws) ws b).register ≡ v'.register) × (log_after (length ws) ws l ≡ l')
  unfolding after_writes log_after
  after_writes_all end b e f = (e, f, refl)
  after_writes_all (step t a c y q g x) b e f = after_writes_all x _ (ap (λ m. update m a (line_at T S a c y)) e) refl

  -- And after a chain cut anywhere: the register fits the log, and every line but the journald one is fine.
  pub after_writes_some : {Q : ℕ → Type 0} {v : View} {l : Log} {ws : List Write} {v' : View} {l' : Log} → OpenHolds shapes T S l v → Trail T S Q v l ws v' l' → (b : BoardState) → b.memory ≡ v.memory → b.register ≡ v.register → (k : ℕ) → ColdHolds shapes T S (log_after k ws l) (after_writes k ws b).memory (after_writes k ws b).register
  unfolding after_writes log_after
  after_writes_some w end b e f k = rw (e, f) (open_to_cold shapes T S w)
  after_writes_some w (step t a c y q g x) b e f zero = rw (e, f) (open_to_cold shapes T S w)
  after_writes_some {v = v} {l = l} w (step t a c y q g x) b e f (suc zero) = rw e (after_register l v w t a c y g)
  after_writes_some {v = v} {l = l} w (step t a c y q g x) b e f (suc (suc k)) = after_writes_some (after_line l v w t a c y g) x _ (ap (λ m. update m a (line_at T S a c y)) e) refl k

  pub once_some : {Q : ℕ → Type 0} {v : View} {l : Log} {ws : List Write} {v' : View} {l' : Log} → OpenHolds shapes T S l v → NoReuse l → Trail T S Q v l ws v' l' → (k : ℕ) → NoReuse (log_after k ws l)
  unfolding log_after
  once_some w o end k = o
  once_some w o (step t a c y q g x) zero = o
  once_some {v = v} {l = l} w o (step t a c y q g x) (suc zero) = (λ d h. absurd (omega (arith, (w.durable.known a c d h).1, g.next)), o)
  once_some {v = v} {l = l} w o (step t a c y q g x) (suc (suc k)) = once_some (after_line l v w t a c y g) (λ d h. absurd (omega (arith, (w.durable.known a c d h).1, g.next)), o) x k

-- What a chain cut after k writes adds to the log, counted.
pub counted : {T : Shape} {S : Scheme} {Q : ℕ → Type 0} {v : View} {l : Log} {ws : List Write} {v' : View} {l' : Log} → Trail T S Q v l ws v' l' → (k : ℕ) → (new : Log) × (log_after k ws l ≡ new ++ l) × (commits_in k ws ≡ length new)
unfolding log_after commits_in
counted end k = ([], refl, refl)
counted (step t a c y q g x) zero = ([], refl, refl)
counted (step t a c y q g x) (suc zero) = (entry a c y ∷ [], refl, refl)
counted {l = l} (step t a c y q g x) (suc (suc k)) =
    let (new, e, n) = counted x k in
    (new ++ (entry a c y ∷ []), e ∙ sym (append_assoc new (entry a c y ∷ []) l), omega (arith, n, length_push new (entry a c y)))

kept_on : (l l' : Log) (a c : ℕ) (y : Body) (z : ℕ) → (z ≡ a → ⊥) → SameCommit (entry a c y ∷ l) l' z → SameCommit l l' z
kept_on l l' a c y z d h = (h.0 ∙ counter_old l (entry a c y) z d, h.1 ∙ body_old l (entry a c y) z d)

-- An address at which the chain commits nothing keeps its counter and body.
pub kept_some : {T : Shape} {S : Scheme} {Q : ℕ → Type 0} {v : View} {l : Log} {ws : List Write} {v' : View} {l' : Log} → Trail T S Q v l ws v' l' → (z : ℕ) → ((a : ℕ) → Q a → z ≡ a → ⊥) → (k : ℕ) → SameCommit l (log_after k ws l) z
unfolding log_after
kept_some end z d k = (refl, refl)
kept_some (step t a c y q g x) z d zero = (refl, refl)
kept_some {l = l} (step t a c y q g x) z d (suc zero) = kept_on l (entry a c y ∷ l) a c y z (d a q) (refl, refl)
kept_some {l = l} (step t a c y q g x) z d (suc (suc k)) = kept_on l _ a c y z (d a q) (kept_some x z d k)

-- A commit touches no slot but the line's own and its parent's.
pub raise_other : (T : Shape) (S : Scheme) (r : ℕ) (v : View) (t : Table) (a c p : ℕ) → (p ≡ T.parent a → ⊥) → raise_table T r v.memory t a c p ≡ t p
raise_other T S zero v t a c p d = refl
raise_other T S (suc r) v t a c p d = update_other t (T.parent a) _ p d

-- Commits of nodes leave a leaf's slot as it was, or empty it.
pub leaf_kept : {T : Shape} {S : Scheme} {v : View} {l : Log} {ws : List Write} {v' : View} {l' : Log} → TreeLaws T → Trail T S (λ a. T.data_lines ≤ a) v l ws v' l' → (d : ℕ) → d < T.data_lines → (v'.table (T.parent d) ≡ v.table (T.parent d)) ⊎ (v'.table (T.parent d) ≡ none)
leaf_kept L end d h = inl refl
leaf_kept {T} {S} {v} {l} {v' = v'} L (step t a c y q g x) d h = go (leaf_kept L x d h) (cases_eq (T.parent d) a)
  where
    same : (commit_under T S v.memory v.register t a y c).view.table (T.parent d) ≡ t (T.parent d)
    same = raise_other T S (T.depth (T.parent a)) v t a c (T.parent d) (λ e. omega (arith, L.leaf_children d a h g.here e))

    go : (v'.table (T.parent d) ≡ (commit_under T S v.memory v.register t a y c).view.table (T.parent d)) ⊎ (v'.table (T.parent d) ≡ none) → (T.parent d ≡ a) ⊎ (T.parent d ≡ a → ⊥) → (v'.table (T.parent d) ≡ v.table (T.parent d)) ⊎ (v'.table (T.parent d) ≡ none)
    go (inl e) (inl f) = inr (e ∙ same ∙ ap t f ∙ g.own)
    go (inl e) (inr f) = inl (e ∙ same ∙ g.others (T.parent d) f)
    go (inr e) f = inr e

-- What a chain never changes in the register.
abbrev pub SameBoard : Register → Register → Type 0
SameBoard g h = (g.formatted ≡ h.formatted) × (g.levels ≡ h.levels) × (g.suite ≡ h.suite)

pub register_kept : {T : Shape} {S : Scheme} {Q : ℕ → Type 0} {v : View} {l : Log} {ws : List Write} {v' : View} {l' : Log} → Trail T S Q v l ws v' l' → (b : BoardState) → b.register ≡ v.register → (k : ℕ) → SameBoard (after_writes k ws b).register v.register
unfolding after_writes
register_kept end b e k = rw e (refl, refl, refl)
register_kept (step t a c y q g x) b e zero = rw e (refl, refl, refl)
register_kept (step t a c y q g x) b e (suc zero) = (refl, refl, refl)
register_kept (step t a c y q g x) b e (suc (suc k)) = register_kept x _ refl k
