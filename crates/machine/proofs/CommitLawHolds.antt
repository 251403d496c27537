-- The law of commits for writes and flushes.
use Rattle.std.proofs.Common.{◌≡◌, ℕ, ◌+◌, ◌<◌, ◌≤◌, Bool, true, false, cond, ltb, ◌⊎◌, ◌++◌, length, sym, refl, ap, ◌∙◌, subst, inl, inr, ⊎_elim, arith}
use mathlib.Core.Option.{Option, some, none}
use Rattle.std.proofs.lemmas.Bool.{ltb-true, ltb-false, lt-ltb, le-ltb}
use Rattle.std.proofs.lemmas.List.{append_assoc, append-nil}
use Rattle.suite.specs.Scheme.{Body, Scheme}
use Rattle.board.specs.Meaning.{Power, endless, writes}
use Rattle.machine.specs.Layout.{Shape, TreeLaws}
use Rattle.machine.specs.Store.{Log, BoardState, after_writes, log_after, commits_in, place_of, Cut}
use Rattle.machine.specs.Faults.{Fault, fault, not_data, power_lost}
use Rattle.machine.specs.Plans.{Table, View, Run, stop, write_at, write_call, flush_call}
use Rattle.machine.specs.History.{counter_in, World, opened, latched, Answer, done, refused, ending, power_lost_at, answer_of, chip_of, after, view_of, shape_of, Ran}
use Rattle.machine.specs.Laws.{Stands, WayStands, Unchanged}
use Rattle.machine.specs.CommitLaws.{NotRaised, none_yet, EvictedUntil, Written, to_come, newest, InHand, limit_reached, before_register, before_line, corrupt_above, CommitLaw}
use Rattle.machine.proofs.Trails.{OpenHolds, after_writes_all, register_kept}
use Rattle.machine.proofs.Runs.{Reason}
use Rattle.machine.proofs.Cuts.{cut_le, cut_lost, answer_done, answer_refused}
use Rattle.machine.proofs.CutTrails.{Parts, parts, twice, checks, frame, stored, only}
use Rattle.machine.proofs.CommitOrder.{to_come_front}
use Rattle.machine.proofs.CallOrder.{Plan, write_plan, flush_plan}

module _ (shapes : ℕ → Shape) (S : Scheme) (w : World) (L : TreeLaws (shape_of shapes w.board)) (cap : ℕ) (t : Table) (l : Log) (W : OpenHolds shapes (shape_of shapes w.board) S l (view_of w.board t)) where
  abbrev T : Shape
  T = shape_of shapes w.board

  abbrev v : View
  v = view_of w.board t

  module _ (F : Log → Log → Type 0) (r : Run) (P : Plan shapes T L S (F l) l v r) (k : ℕ) (p : Power) (c : Cut w.board.power (length r.planned) k p) where
    abbrev w' : World
    w' = record { board = after w.board k r.planned p; chip = chip_of cap r k }

    abbrev l' : Log
    l' = log_after k r.planned l

    le : k ≤ length r.planned
    le = cut_le w.board.power p (length r.planned) k c

    part : Parts shapes T L S r.planned l P.log (after_writes k r.planned w.board) k
    part = parts shapes T L S W P.trail w.board refl refl k

    open_chip : k ≡ length r.planned → chip_of cap r k ≡ opened cap r.view.table
    open_chip e = ap (λ b. cond b (latched (power_lost_at k r.planned)) (opened cap r.view.table)) (le-ltb k (length r.planned) (omega arith))

    latched_chip : k < length r.planned → chip_of cap r k ≡ latched (power_lost_at k r.planned)
    latched_chip e = ap (λ b. cond b (latched (power_lost_at k r.planned)) (opened cap r.view.table)) (lt-ltb k (length r.planned) e)

    abbrev over : Log
    over = P.extra ++ part.rest

    -- The reason of a fault other than for lost power, as the board stands.
    reason : k ≡ length r.planned → (y : Fault) → r.ends ≡ some y → (q : ℕ) × (to_come over ≡ some q) × Reason shapes T L S l' (record { memory = (after_writes k r.planned w.board).memory; register = (after_writes k r.planned w.board).register; table = r.view.table }) q y
    reason i y e =
        let (q, u, z) = P.why y e in
        let (m, g, f) = after_writes_all shapes T L S P.trail w.board refl refl in
        let z' : Reason shapes T L S (log_after (length r.planned) r.planned l) (record { memory = (after_writes (length r.planned) r.planned w.board).memory; register = (after_writes (length r.planned) r.planned w.board).register; table = r.view.table }) q y = rw (m, g, f) z in (
          q,
          subst (λ x. to_come (P.extra ++ x) ≡ some q) (sym (part.whole (omega arith))) (ap to_come (append-nil P.extra) ∙ u),
          subst (λ j. Reason shapes T L S (log_after j r.planned l) (record { memory = (after_writes j r.planned w.board).memory; register = (after_writes j r.planned w.board).register; table = r.view.table }) q y) (sym i) z',
        )

    abbrev Ending : Fault → Type 0
    Ending y = ((k < length r.planned) × (y ≡ power_lost_at k r.planned)) ⊎ ((k ≡ length r.planned) × (r.ends ≡ some y))

    in_hand : (y : Fault) → Ending y → InHand S T w' part.new over l' y
    in_hand y (inl (i, e)) = subst (InHand S T w' part.new over l') (sym e) (at (part.hand i))
      where
        d : p ≡ writes 0
        d = cut_lost w.board.power p (length r.planned) k c i

        at : ((to_come part.rest ≡ some (place_of k r.planned)) × WayStands T S l' (after_writes k r.planned w.board).memory (after_writes k r.planned w.board).register.dirty (place_of k r.planned) × (counter_in l' (place_of k r.planned) < T.limit (place_of k r.planned))) ⊎ ((newest part.new ≡ some (place_of k r.planned)) × (Stands T S l' (after_writes k r.planned w.board).memory (place_of k r.planned) → ⊥)) → InHand S T w' part.new over l' (power_lost_at k r.planned)
        at (inl u) = before_register (to_come_front P.extra part.rest (place_of k r.planned) u.0) u.1 u.2 d
        at (inr u) = before_line u.0 u.1 d
    in_hand y (inr (i, e)) = let (q, u, z) = reason i y e in at q u z
      where
        at : (q : ℕ) → to_come over ≡ some q → Reason shapes T L S l' (record { memory = (after_writes k r.planned w.board).memory; register = (after_writes k r.planned w.board).register; table = r.view.table }) q y → InHand S T w' part.new over l' y
        at q u (inl (f, m, n)) = subst (InHand S T w' part.new over l') (sym f) (limit_reached u m n)
        at q u (inr (x, f, a, b, n, h)) = subst (InHand S T w' part.new over l') (sym f) (corrupt_above u a b n h)

    latch : (y : Fault) → Ending y → ((y.cause ≡ power_lost) × (w'.chip ≡ latched y)) ⊎ ((y.cause ≡ power_lost → ⊥) × ((t : Table) × (w'.chip ≡ opened cap t)))
    latch y (inl (i, e)) = inl (ap (λ z. z.cause) e, latched_chip i ∙ ap latched (sym e))
    latch y (inr (i, e)) = let (q, u, z) = reason i y e in inr (at z, (r.view.table, open_chip i))
      where
        at : {q : ℕ} → Reason shapes T L S l' (record { memory = (after_writes k r.planned w.board).memory; register = (after_writes k r.planned w.board).register; table = r.view.table }) q y → y.cause ≡ power_lost → ⊥
        at (inl (f, _, _)) h = cc
        at (inr (x, f, _, _, _, _)) h = cc

    answered : ((n : ℕ) × (answer_of r k ≡ done n)) ⊎ ((y : Fault) × (n : ℕ) × (answer_of r k ≡ refused y n))
    answered = go (ltb k (length r.planned))
      where
        at : (o : Option Fault) → ((n : ℕ) × (ending o (commits_in k r.planned) ≡ done n)) ⊎ ((y : Fault) × (n : ℕ) × (ending o (commits_in k r.planned) ≡ refused y n))
        at none = inl (_, refl)
        at (some y) = inr (y, _, refl)

        go : (b : Bool) → ((n : ℕ) × (cond b (refused (power_lost_at k r.planned) (commits_in k r.planned)) (ending r.ends (commits_in k r.planned)) ≡ done n)) ⊎ ((y : Fault) × (n : ℕ) × (cond b (refused (power_lost_at k r.planned) (commits_in k r.planned)) (ending r.ends (commits_in k r.planned)) ≡ refused y n))
        go true = inr (_, _, refl)
        go false = at r.ends

    lower : (p q : Power) (w k : ℕ) → Cut p w k q → NotRaised p q
    lower endless endless w k c = tt
    lower endless (writes q) w k c = absurd c
    lower (writes p) endless w k c = absurd c
    lower (writes p) (writes q) w k c = omega (arith, c.1)

    costs : (n : ℕ) → k ≡ length r.planned → n ≡ commits_in k r.planned → Cut w.board.power (n + n) (n + n) p
    costs n i m =
        let e : length r.planned ≡ n + n = twice shapes T L S P.trail ∙ ap (λ j. commits_in j r.planned + commits_in j r.planned) (sym i) ∙ ap (λ j. j + j) (sym m) in
        subst (λ j. Cut w.board.power j (n + n) p) e (subst (λ j. Cut w.board.power (length r.planned) j p) (i ∙ e) c)

    pub commit_law : CommitLaw S T cap F w l (answer_of r k) w' l'
    commit_law =
        record {
          answers = answered;
          begins = (
            P.extra ++ P.log,
            over,
            part.new,
            P.full,
            ap (λ x. P.extra ++ x) part.before ∙ sym (append_assoc P.extra part.rest l'),
            part.after,
            λ n f.
                let (i, e, m) = answer_done r k n le f in
                (m ∙ part.many, ap (λ x. x ++ part.rest) (P.ending e) ∙ part.whole (omega arith), (r.view.table, open_chip i)),
            λ y n f. let z = answer_refused r k n y le f in (z.0 ∙ part.many, in_hand y z.1),
          );
          latches = λ y n f. latch y (answer_refused r k n y le f).1;
          board = (refl, (register_kept P.trail w.board refl k).0, (register_kept P.trail w.board refl k).1);
          spends = (lower w.board.power p (length r.planned) k c, λ n f. let (i, e, m) = answer_done r k n le f in costs n i m);
          checked = checks shapes T L S w.board.memory l W (λ u. (omega arith, λ _. (refl, refl))) none_yet P.trail k;
          untouched = λ q e. ((frame shapes T L S P.trail w.board k q).1 e).1;
          stored = λ q n. ⊎_elim inl (λ h. inr (commits_in k r.planned, at q h.0 h.1, h.2)) (stored shapes T L S P.trail w.board k q n);
          only = λ q. only shapes T L S P.trail w.board k q;
        }
      where
        at : (q : ℕ) → k < length r.planned → place_of k r.planned ≡ q → answer_of r k ≡ refused (fault power_lost q) (commits_in k r.planned)
        at q i e = ap (λ b. cond b (refused (power_lost_at k r.planned) (commits_in k r.planned)) (ending r.ends (commits_in k r.planned))) (lt-ltb k (length r.planned) i) ∙ ap (λ z. refused (fault power_lost z) (commits_in k r.planned)) e

  pub flush_commits : (x : Answer) (w' : World) (l' : Log) → Ran cap (flush_call T S v) w.board l x w' l' → CommitLaw S T cap (EvictedUntil T 0) w l x w' l'
  flush_commits x w' l' (k, p, c, ex, ew, el) = rw (ex, ew, el) (commit_law (EvictedUntil T 0) (flush_call T S v) (flush_plan shapes T L S l v W) k p c)

  pub write_commits : (a : ℕ) (b : Body) → a < T.data_lines → (x : Answer) (w' : World) (l' : Log) → Ran cap (write_call T S cap v a b) w.board l x w' l' → CommitLaw S T cap (Written T cap a b) w l x w' l'
  unfolding write_call
  write_commits a b h x w' l' (k, p, c, ex, ew, el) = rw (ex, ew, el) (go (ltb a T.data_lines) refl c)
    where
      r : Bool → Run
      r d = cond d (write_at T S (T.depth (T.parent a)) cap v a b) (stop v (fault not_data a))

      go : (d : Bool) → ltb a T.data_lines ≡ d → Cut w.board.power (length (r d).planned) k p → CommitLaw S T cap (Written T cap a b) w l (answer_of (r d) k) (record { board = after w.board k (r d).planned p; chip = chip_of cap (r d) k }) (log_after k (r d).planned l)
      go true e c = commit_law (Written T cap a b) (r true) (write_plan shapes T L S cap l v W a b h) k p c
      go false e c = absurd (omega (arith, ltb-false _ _ e))

  same_power : (b : BoardState) (q : Power) (k : ℕ) → Cut b.power 0 k q → (k ≡ 0) × (q ≡ b.power)
  same_power b q k c = go b.power q c
    where
      go : (p q : Power) → Cut p 0 k q → (k ≡ 0) × (q ≡ p)
      go endless endless c = (c, refl)
      go endless (writes q) c = absurd c
      go (writes p) endless c = absurd c
      go (writes p) (writes q) c = let z : k ≡ 0 = omega (arith, c.0) in (z, ap writes (c.3 z))

  -- A write beyond the data addresses changes nothing.
  pub write_beyond : (a : ℕ) (b : Body) → T.data_lines ≤ a → (x : Answer) (w' : World) (l' : Log) → Ran cap (write_call T S cap v a b) w.board l x w' l' → (x ≡ refused (fault not_data a) 0) × Unchanged w (opened cap t) l w' l'
  unfolding write_call log_after after_writes commits_in
  write_beyond a b h x w' l' (k, p, c, ex, ew, el) = rw (ex, ew, el) (go (ltb a T.data_lines) refl c)
    where
      r : Bool → Run
      r d = cond d (write_at T S (T.depth (T.parent a)) cap v a b) (stop v (fault not_data a))

      go : (d : Bool) → ltb a T.data_lines ≡ d → Cut w.board.power (length (r d).planned) k p → (answer_of (r d) k ≡ refused (fault not_data a) 0) × Unchanged w (opened cap t) l (record { board = after w.board k (r d).planned p; chip = chip_of cap (r d) k }) (log_after k (r d).planned l)
      go true e c = absurd (omega (arith, ltb-true _ _ e))
      go false e c =
          let (z, y) = same_power w.board p k c in (
            ap (λ j. answer_of (r false) j) z,
            (ap (λ q. record { memory = w.board.memory; size = w.board.size; register = w.board.register; power = q }) y, ap (λ j. chip_of cap (r false) j) z, refl),
          )
