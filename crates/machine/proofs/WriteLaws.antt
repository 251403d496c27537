-- The laws of writes and flushes.
use Rattle.std.proofs.Common.{◌≡◌, ℕ, suc, ◌+◌, ◌%◌, ◌<◌, ◌≤◌, Bool, true, false, cond, ltb, ◌⊎◌, ◌↔◌, List, [], ◌∷◌, ◌++◌, length, sym, refl, ap, ◌∙◌, subst, inl, inr, ⊎_elim, arith}
use mathlib.Core.Option.{Option, some, none}
use Rattle.std.proofs.lemmas.Bool.{ltb-true, ltb-false, cases_lt}
use Rattle.std.proofs.lemmas.List.{length-append}
use Rattle.suite.specs.Scheme.{Body, Scheme}
use Rattle.board.specs.Meaning.{Power}
use Rattle.machine.specs.Layout.{Shape, TreeLaws}
use Rattle.machine.specs.Store.{line_at, Log, Write, BoardState, after_writes, log_after, commits_in, Cut}
use Rattle.machine.specs.Faults.{Fault, fault, not_data, power_lost}
use Rattle.machine.specs.Plans.{Slot, Table, is_dirty, View, Run, stop, commit_under, write_at, write_call, flush_call}
use Rattle.machine.specs.History.{World, Answer, done, refused, power_lost_at, answer_of, chip_of, after, view_of, counter_in, body_in, shape_of, Ran}
use Rattle.machine.specs.Laws.{Stands, CommitsNext, SameCommit}
use Rattle.machine.proofs.Invariant.{Exact}
use Rattle.machine.proofs.Basics.{update_same, some_inj, none≢some}
use Rattle.machine.proofs.Lines.{tag_low}
use Rattle.machine.proofs.CommitKeeps.{counter_new, body_new}
use Rattle.machine.proofs.Trails.{entry, Trail, end, step, join, widen, OpenHolds, open_after, after_writes_all, after_writes_some, kept_some}
use Rattle.machine.proofs.Runs.{Goes, Wrote, short, whole, wrote, flush_goes, flush_ends}
use Rattle.machine.proofs.Cuts.{after_writes_front, log_front, after_writes_back, log_back, cut_le, answer_done, answer_refused}

-- Lines committed under neighbouring counters differ.
pub lines_apart : (T : Shape) (S : Scheme) (a c : ℕ) (b d : Body) → line_at T S a (suc c) b ≡ line_at T S a c d → ⊥
lines_apart T S a c b d e =
    let z : suc c % 1024 ≡ c % 1024 = sym (tag_low T S a (suc c) b) ∙ ap (λ x. x.tag % 1024) e ∙ tag_low T S a c d in
    omega arith

module _ (shapes : ℕ → Shape) (T : Shape) (L : TreeLaws T) (S : Scheme) (l : Log) (v : View) (w : OpenHolds shapes T S l v) (bd : BoardState) (em : bd.memory ≡ v.memory) (eg : bd.register ≡ v.register) where
  -- A run of node commits commits no body, and its journal is not that of one.
  before_register : {ws : List Write} {u : View} {l₁ : Log} → Trail T S (λ q. T.data_lines ≤ q) v l ws u l₁ → (a : ℕ) (b : Body) → a < T.data_lines → (k : ℕ) (X : Type 0) → CommitsNext l (log_after k ws l) a b ↔ (X × ((after_writes k ws bd).register.journal ≡ some (record { at = a; line = line_at T S a (suc (counter_in l a)) b })))
  before_register {ws} tr a b h k X =
      let kept = kept_some tr a (λ q n e. omega arith) k in
      let C = after_writes_some shapes T L S w tr bd em eg k in (
        λ y. absurd (omega (arith, kept.0, y.0)),
        λ y. absurd (lines_apart T S a (counter_in l a) b (body_in (log_after k ws l) a)
            ((C.durable.journaled _ y.1).1 ∙ ap (λ n. line_at T S a n (body_in (log_after k ws l) a)) kept.0)),
      )

  module _ (a : ℕ) (b : Body) (h : a < T.data_lines) where
    abbrev pub Touched : ℕ → Type 0
    Touched q = (T.data_lines ≤ q) ⊎ (q ≡ a)

    pub touched : {r : Run} → Wrote shapes T L S l v a b r → (l₁ : Log) × Trail T S Touched v l r.planned r.view l₁
    touched (short g x e) = (g.log, widen (λ q n. inl n) g.trail)
    touched (whole {u = u} l₁ tr G) = (entry a (suc (counter_in l₁ a)) b ∷ l₁, join (widen (λ q n. inl n) tr) (step u.table a (suc (counter_in l₁ a)) b (inr refl) G end))

    -- The counter below which the data line's own commit is made.
    same_counter : {ws : List Write} {u : View} {l₁ : Log} → Trail T S (λ q. T.data_lines ≤ q) v l ws u l₁ → counter_in l₁ a ≡ counter_in l a
    same_counter {ws} {l₁ = l₁} tr = ap (λ z. counter_in z a) (sym (after_writes_all shapes T L S tr bd em eg).2) ∙ (kept_some tr a (λ q n e. omega arith) (length ws)).0

    committed : (l₁ : Log) → counter_in l₁ a ≡ counter_in l a → CommitsNext l (entry a (suc (counter_in l₁ a)) b ∷ l₁) a b
    committed l₁ e = (counter_new l₁ (entry a (suc (counter_in l₁ a)) b) a refl ∙ ap suc e, body_new l₁ (entry a (suc (counter_in l₁ a)) b) a refl)

    pub done_law : {r : Run} → Wrote shapes T L S l v a b r → r.ends ≡ none → CommitsNext l (log_after (length r.planned) r.planned l) a b × Stands T S (log_after (length r.planned) r.planned l) (after_writes (length r.planned) r.planned bd).memory a
    unfolding touched
    done_law (short g x e) n = absurd (none≢some (sym n ∙ e))
    done_law (whole {ws} {u} l₁ tr G) n =
        let (m, _, e) = after_writes_all shapes T L S (touched (whole l₁ tr G)).1 bd em eg in
        rw (m, e) (
          committed l₁ (same_counter tr),
          update_same u.memory a (line_at T S a (suc (counter_in l₁ a)) b) a refl ∙ rw (counter_new l₁ (entry a (suc (counter_in l₁ a)) b) a refl, body_new l₁ (entry a (suc (counter_in l₁ a)) b) a refl),
        )

    pub half_law : {r : Run} → Wrote shapes T L S l v a b r → (k : ℕ) (y : Fault) → ((k < length r.planned) × (y ≡ power_lost_at k r.planned)) ⊎ ((k ≡ length r.planned) × (r.ends ≡ some y)) → CommitsNext l (log_after k r.planned l) a b ↔ ((y.cause ≡ power_lost) × ((after_writes k r.planned bd).register.journal ≡ some (record { at = a; line = line_at T S a (suc (counter_in l a)) b })))
    unfolding log_after after_writes
    half_law (short g x e) k y z = before_register g.trail a b h k (y.cause ≡ power_lost)
    half_law (whole {ws} {u} l₁ tr G) k y (inr z) = absurd (none≢some z.1)
    half_law (whole {ws} {u} l₁ tr G) k y (inl z) = go (cases_lt (length ws) k)
      where
        two : List Write
        two = (commit_under T S u.memory u.register u.table a b (suc (counter_in l₁ a))).planned

        Goal : Type 0
        Goal = CommitsNext l (log_after k (ws ++ two) l) a b ↔ ((y.cause ≡ power_lost) × ((after_writes k (ws ++ two) bd).register.journal ≡ some (record { at = a; line = line_at T S a (suc (counter_in l a)) b })))

        go : (length ws < k) ⊎ (k ≤ length ws) → Goal
        go (inr i) = rw (after_writes_front ws two k bd i, log_front ws two k l i) (before_register tr a b h k (y.cause ≡ power_lost))
        go (inl i) =
            ((λ _. (ap (λ q. q.cause) z.1, journal)), λ _. subst (λ q. CommitsNext l q a b) (sym rec) (committed l₁ (same_counter tr)))
          where
            at : k ≡ length ws + 1
            at = omega (arith, z.0, i, length-append ws two)

            rec : log_after k (ws ++ two) l ≡ entry a (suc (counter_in l₁ a)) b ∷ l₁
            rec = ap (λ n. log_after n (ws ++ two) l) at ∙ log_back ws two 1 l ∙ ap (λ q. log_after 1 two q) (after_writes_all shapes T L S tr bd em eg).2

            journal : (after_writes k (ws ++ two) bd).register.journal ≡ some (record { at = a; line = line_at T S a (suc (counter_in l a)) b })
            journal =
                ap (λ n. (after_writes n (ws ++ two) bd).register.journal) at ∙ ap (λ q. q.register.journal) (after_writes_back ws two 1 bd)
                ∙ ap (λ n. some (record { at = a; line = line_at T S a (suc n) b })) (same_counter tr)

-- What a write leaves of data lines.
pub record WritePart (S : Scheme) (T : Shape) (w : World) (l : Log) (a : ℕ) (b : Body) (x : Answer) (w' : World) (l' : Log) : Type 0 where
  pub committed : (n : ℕ) → x ≡ done n → CommitsNext l l' a b × Stands T S l' w'.board.memory a
  pub half : (r : Fault) (n : ℕ) → x ≡ refused r n → CommitsNext l l' a b ↔ ((r.cause ≡ power_lost) × (w'.board.register.journal ≡ some (record { at = a; line = line_at T S a (suc (counter_in l a)) b })))
  pub keeps : (q : ℕ) → q < T.data_lines → (q ≡ a → ⊥) → SameCommit l l' q

-- What a flush leaves of them, and of the dirty map.
pub record FlushPart (T : Shape) (l : Log) (x : Answer) (w' : World) (l' : Log) : Type 0 where
  pub clean : (n : ℕ) → x ≡ done n → (p : ℕ) → p < T.lines → w'.board.register.dirty p ≡ false
  pub keeps : (q : ℕ) → q < T.data_lines → SameCommit l l' q

module _ (shapes : ℕ → Shape) (S : Scheme) (w : World) (L : TreeLaws (shape_of shapes w.board)) (cap : ℕ) (t : Table) (l : Log) (W : OpenHolds shapes (shape_of shapes w.board) S l (view_of w.board t)) where
  abbrev T : Shape
  T = shape_of shapes w.board

  abbrev v : View
  v = view_of w.board t

  law_of : (a : ℕ) (b : Body) → a < T.data_lines → (r : Run) → Wrote shapes T L S l v a b r → (k : ℕ) (p : Power) → Cut w.board.power (length r.planned) k p → WritePart S T w l a b (answer_of r k) (record { board = after w.board k r.planned p; chip = chip_of cap r k }) (log_after k r.planned l)
  law_of a b h r wr k p c =
      record {
        committed =
            λ m f.
            let z = answer_done r k m le f in
            subst (λ j. CommitsNext l (log_after j r.planned l) a b × Stands T S (log_after j r.planned l) (after_writes j r.planned w.board).memory a) (sym z.0)
            (done_law shapes T L S l v W w.board refl refl a b h wr z.1);
        half = λ y m f. half_law shapes T L S l v W w.board refl refl a b h wr k y (answer_refused r k m y le f).1;
        keeps = λ q i d. kept_some full.1 q (λ z n e. ⊎_elim (λ o. omega arith) (λ o. d (e ∙ o)) n) k;
      }
    where
      le : k ≤ length r.planned
      le = cut_le w.board.power p (length r.planned) k c

      full : (l₁ : Log) × Trail T S (λ q. (T.data_lines ≤ q) ⊎ (q ≡ a)) v l r.planned r.view l₁
      full = touched shapes T L S l v W w.board refl refl a b h wr

  -- A write beyond the data addresses.
  beyond : (a : ℕ) (b : Body) → T.data_lines ≤ a → (k : ℕ) (p : Power) → Cut w.board.power 0 k p → WritePart S T w l a b (answer_of (stop v (fault not_data a)) k) (record { board = after w.board k [] p; chip = chip_of cap (stop v (fault not_data a)) k }) (log_after k [] l)
  unfolding log_after after_writes commits_in
  beyond a b h k p c =
      record {
        committed = λ m f. absurd (none≢some (sym (answer_done (stop v (fault not_data a)) k m le f).1));
        half = λ y m f. (λ z. absurd (omega (arith, z.0)), λ z. absurd (cc (is y m f)));
        keeps = λ q i d. (refl, refl);
      }
    where
      le : k ≤ 0
      le = cut_le w.board.power p 0 k c

      is : (y : Fault) (m : ℕ) → answer_of (stop v (fault not_data a)) k ≡ refused y m → fault not_data a ≡ y
      is y m f = ⊎_elim (λ z. absurd (omega (arith, z.0))) (λ z. some_inj z.1) (answer_refused (stop v (fault not_data a)) k m y le f).1

  pub write_part : (a : ℕ) (b : Body) (x : Answer) (w' : World) (l' : Log) → Ran cap (write_call T S cap v a b) w.board l x w' l' → WritePart S T w l a b x w' l'
  unfolding write_call
  write_part a b x w' l' (k, p, c, ex, ew, el) = rw (ex, ew, el) (go (ltb a T.data_lines) refl c)
    where
      r : Bool → Run
      r d = cond d (write_at T S (T.depth (T.parent a)) cap v a b) (stop v (fault not_data a))

      go : (d : Bool) → ltb a T.data_lines ≡ d → Cut w.board.power (length (r d).planned) k p → WritePart S T w l a b (answer_of (r d) k) (record { board = after w.board k (r d).planned p; chip = chip_of cap (r d) k }) (log_after k (r d).planned l)
      go true e c = let h = ltb-true _ _ e in law_of a b h (r true) (wrote shapes T L S cap l v W a b h) k p c
      go false e c = beyond a b (ltb-false _ _ e) k p c

  -- Likewise for a flush.
  pub flush_part : (x : Answer) (w' : World) (l' : Log) → Ran cap (flush_call T S v) w.board l x w' l' → FlushPart T l x w' l'
  flush_part x w' l' (k, p, c, ex, ew, el) =
      rw (ex, ew, el)
      (record {
        clean = λ m f q i. let z = answer_done r k m le f in rests z.0 z.1 q i;
        keeps = λ q i. kept_some g.trail q (λ z n e. omega arith) k;
      })
    where
      r : Run
      r = flush_call T S v

      g : Goes shapes T L S (λ q. T.data_lines ≤ q) l v r
      g = flush_goes shapes T L S l v W

      le : k ≤ length r.planned
      le = cut_le w.board.power p (length r.planned) k c

      rests : k ≡ length r.planned → r.ends ≡ none → (q : ℕ) → q < T.lines → (after_writes k r.planned w.board).register.dirty q ≡ false
      rests i e q j =
          let (_, m, _) = after_writes_all shapes T L S g.trail w.board refl refl in
          let u = open_after shapes T L S W g.trail in
          ap (λ z. (after_writes z r.planned w.board).register.dirty q) i ∙ ap (λ z. z.dirty q) m ∙ at (r.view.table q) (u.slots_hold.exact q) (flush_ends shapes T L S l v W e q j)
        where
          at : (o : Option Slot) → Exact T g.log r.view.register.dirty o q → is_dirty o ≡ false → r.view.register.dirty q ≡ false
          at (some s) x y = x.0 ∙ y
          at none x y = x
