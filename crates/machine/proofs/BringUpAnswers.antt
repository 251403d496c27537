-- What a bring-up answers, by what was committed.
use Rattle.std.proofs.Common.{◌≡◌, ℕ, zero, suc, ◌<◌, ◌≤◌, Bool, true, false, cond, ◌&&◌, eqb, ltb, leb, ◌⊎◌, List, length, sym, refl, ap, ◌∙◌, subst, inl, inr, ⊎_elim, arith}
use mathlib.Core.Option.{Option, some, none}
use Rattle.std.proofs.lemmas.Bool.{ltb-true, ltb-false, lt-ltb, cases_eq, le-leb, lt-leb, eq-eqb, ne_eqb, and_from}
use Rattle.suite.specs.Scheme.{Body, Line, Scheme}
use Rattle.board.specs.Meaning.{Power, endless, writes}
use Rattle.machine.specs.Layout.{Shape, TreeLaws, update}
use Rattle.machine.specs.Store.{line_at, Journal, Register, Log, Write, BoardState, after_writes, place_of, Cut}
use Rattle.machine.specs.Faults.{Fault, fault, Outcome, ok, err, bad_size, invalid_register, other_suite, too_many_dirty, corrupt, sum_mismatch, power_lost}
use Rattle.machine.specs.Plans.{Table, recover, map_count}
use Rattle.machine.specs.History.{cold, bring_up, InLog, World, latched, Answer, done, refused, power_lost_at, after, shape_of, journal_writes, register_valid, bring_up_check, recovered_answer, recovered_chip, BroughtUp}
use Rattle.machine.specs.Laws.{RecoveryRests, Unchanged, Stands, Rests}
use Rattle.machine.specs.CommitLaws.{NotRaised, dirty_in, pending_in}
use Rattle.machine.specs.Promises.{Law, UnformattedLaw, BringUpLaw, Powerless, Passes}
use Rattle.machine.proofs.Invariant.{Durable}
use Rattle.machine.proofs.Basics.{update_same, update_other, sum_same, some_inj, none≢some, same_cause}
use Rattle.machine.proofs.Trails.{ColdHolds}
use Rattle.machine.proofs.BoardHolds.{FormattedBoard, BoardHolds}
use Rattle.machine.proofs.Cuts.{cut_le, refused_inj, done≢refused}
use Rattle.machine.proofs.Recovery.{recover_why, recover_cause}
use Rattle.machine.proofs.RegisterSays.{dirty_say}
use Rattle.machine.proofs.BringUp.{Recovers, valid_holds, journal_register, journal_fine, bring_up_holds}
use Rattle.machine.proofs.SumMismatch.{missed_old}
use Rattle.machine.proofs.CorruptPlace.{recover_fails}

-- Lost power at the journal's line.
abbrev JournalPowerLost : World → Fault → Option Journal → Type 0
JournalPowerLost w r none = ⊥
JournalPowerLost w r (some n) = (r ≡ fault power_lost n.at) × (w.board.power ≡ writes 0)

module _ (shapes : ℕ → Shape) (S : Scheme) where
  dirty_dirty : (T : Shape) (l : Log) (g : Register) → Durable T S l g → map_count T g ≡ dirty_in T l
  unfolding map_count dirty_in
  dirty_dirty T l g D = sum_same T.lines _ _ (λ p k. ap (λ b. cond b 1 0) (dirty_say T S l g D p ∙ ap (λ b. b && ltb 0 (pending_in T l p)) (lt-ltb p T.lines k)))

  -- The first checks on a formatted board.
  check_is : (b : BoardState) (l : Log) → TreeLaws (shape_of shapes b) → FormattedBoard shapes S b.size b.register → Durable (shape_of shapes b) S l b.register → (cap num : ℕ) → bring_up_check shapes cap num b ≡ cond (leb 1 cap && leb cap 64) (cond (eqb num S.number) (cond (leb (dirty_in (shape_of shapes b) l) cap) none (some (fault too_many_dirty 0))) (some (fault other_suite 0))) (some (fault bad_size 0))
  unfolding bring_up_check
  check_is b l L s D cap num = rw (valid_holds shapes S b.size b.register l L s D, le-leb (shape_of shapes b).lines b.size s.fitting, dirty_dirty (shape_of shapes b) l b.register D, s.own)

  slots_err : (cap : ℕ) → (cap < 1) ⊎ (64 < cap) → (leb 1 cap && leb cap 64) ≡ false
  slots_err cap (inl h) = ap (λ b. b && leb cap 64) (lt-leb 1 cap h)
  slots_err cap (inr h) = go (leb 1 cap) (lt-leb cap 64 h)
    where
      go : (b : Bool) → leb cap 64 ≡ false → (b && leb cap 64) ≡ false
      go true e = e
      go false e = refl

  slots_ok : (cap : ℕ) → 1 ≤ cap → cap ≤ 64 → (leb 1 cap && leb cap 64) ≡ true
  slots_ok cap h i = and_from _ _ (le-leb 1 cap h) (le-leb cap 64 i)

  module _ (cap num : ℕ) (w : World) (l : Log) (x : Answer) (w' : World) (l' : Log) (B : BroughtUp shapes S cap w.board (bring_up_check shapes cap num w.board) l x w' l') where
    abbrev ws : List Write
    ws = journal_writes w.board.register.journal

    abbrev T : Shape
    T = shape_of shapes w.board

    asked : {o : Option Fault} → bring_up_check shapes cap num w.board ≡ o → BroughtUp shapes S cap w.board o l x w' l'
    asked e = subst (λ o. BroughtUp shapes S cap w.board o l x w' l') e B

    pub log_kept : l' ≡ l
    log_kept = go (bring_up_check shapes cap num w.board) B
      where
        go : (o : Option Fault) → BroughtUp shapes S cap w.board o l x w' l' → l' ≡ l
        go (some r) b = b.2
        go none b = b.5

    -- A fault before any write.
    early : (r : Fault) → bring_up_check shapes cap num w.board ≡ some r → (x ≡ refused r 0) × Unchanged w (latched r) l w' l'
    early r e = let b = asked e in (b.0, (ap (λ z. z.board) b.1, ap (λ z. z.chip) b.1, b.2))

    bare : {r : Fault} → (x ≡ refused r 0) × Unchanged w (latched r) l w' l' → (x ≡ refused r 0) × (w'.board ≡ w.board)
    bare y = (y.0, y.1.0)

    lower : (p q : Power) (n k : ℕ) → Cut p n k q → NotRaised p q
    lower endless endless n k c = tt
    lower endless (writes q) n k c = absurd c
    lower (writes p) endless n k c = absurd c
    lower (writes p) (writes q) n k c = omega (arith, c.1)

    level : (p : Power) → NotRaised p p
    level endless = tt
    level (writes p) = omega arith

    spends : NotRaised w.board.power w'.board.power
    spends = go (bring_up_check shapes cap num w.board) B
      where
        go : (o : Option Fault) → BroughtUp shapes S cap w.board o l x w' l' → NotRaised w.board.power w'.board.power
        go (some r) (ex, ew, el) = subst (λ z. NotRaised w.board.power z.board.power) (sym ew) (level w.board.power)
        go none (k, p, c, ex, ew, el) = subst (λ z. NotRaised w.board.power z.board.power) (sym ew) (lower w.board.power p (length ws) k c)

    same_power : (p q : Power) (k : ℕ) → Cut p 0 k q → q ≡ p
    same_power endless endless k c = refl
    same_power endless (writes q) k c = absurd c
    same_power (writes p) endless k c = absurd c
    same_power (writes p) (writes q) k c = ap writes (c.3 (omega (arith, c.0)))

    idle : w.board.register.journal ≡ none → w'.board ≡ w.board
    unfolding after_writes
    idle e = go (bring_up_check shapes cap num w.board) B
      where
        at : (o : Option Journal) → o ≡ none → (k : ℕ) (p : Power) → Cut w.board.power (length (journal_writes o)) k p → after w.board k (journal_writes o) p ≡ w.board
        at none f k p c = ap (λ z. record { memory = w.board.memory; size = w.board.size; register = w.board.register; power = z }) (same_power w.board.power p k c)
        at (some n) f k p c = absurd (none≢some (sym f))

        go : (o : Option Fault) → BroughtUp shapes S cap w.board o l x w' l' → w'.board ≡ w.board
        go (some r) (ex, ew, el) = ap (λ z. z.board) ew
        go none (k, p, c, ex, ew, el) = ap (λ z. z.board) ew ∙ at w.board.register.journal e k p c

    answers : (x ≡ done 0) ⊎ ((r : Fault) × (x ≡ refused r 0) × (w'.chip ≡ latched r))
    answers = go (bring_up_check shapes cap num w.board) B
      where
        revived : (z : Outcome Table) → (recovered_answer z ≡ done 0) ⊎ ((r : Fault) × (recovered_answer z ≡ refused r 0) × (recovered_chip cap z ≡ latched r))
        revived (ok t) = inl refl
        revived (err r) = inr (r, refl, refl)

        cut : (k : ℕ) (z : Outcome Table) (d : Bool) → (cond d (refused (power_lost_at k ws) 0) (recovered_answer z) ≡ done 0) ⊎ ((r : Fault) × (cond d (refused (power_lost_at k ws) 0) (recovered_answer z) ≡ refused r 0) × (cond d (latched (power_lost_at k ws)) (recovered_chip cap z) ≡ latched r))
        cut k z true = inr (power_lost_at k ws, refl, refl)
        cut k z false = revived z

        go : (o : Option Fault) → BroughtUp shapes S cap w.board o l x w' l' → (x ≡ done 0) ⊎ ((r : Fault) × (x ≡ refused r 0) × (w'.chip ≡ latched r))
        go (some r) (ex, ew, el) = inr (r, ex, ap (λ z. z.chip) ew)
        go none (k, p, c, ex, ew, el) = rw (ex, ew) (cut k _ (ltb k (length ws)))

    abbrev SameBoard : BoardState → Type 0
    SameBoard b = (b.size ≡ w.board.size) × (b.register ≡ w.board.register) × ((q : ℕ) → (b.memory q ≡ w.board.memory q) ⊎ ((L : Line) × (w.board.register.journal ≡ some (record { at = q; line = L })) × (b.memory q ≡ L)))

    keeps : SameBoard w'.board
    unfolding after_writes
    keeps = go (bring_up_check shapes cap num w.board) B
      where
        at : (o : Option Journal) → w.board.register.journal ≡ o → (k q : ℕ) → ((after_writes k (journal_writes o) w.board).memory q ≡ w.board.memory q) ⊎ ((L : Line) × (w.board.register.journal ≡ some (record { at = q; line = L })) × ((after_writes k (journal_writes o) w.board).memory q ≡ L))
        at none e k q = inl refl
        at (some n) e zero q = inl refl
        at (some n) e (suc k) q = or (cases_eq q n.at)
          where
            or : (q ≡ n.at) ⊎ (q ≡ n.at → ⊥) → (update w.board.memory n.at n.line q ≡ w.board.memory q) ⊎ ((L : Line) × (w.board.register.journal ≡ some (record { at = q; line = L })) × (update w.board.memory n.at n.line q ≡ L))
            or (inl f) = inr (n.line, e ∙ ap (λ z. some (record { at = z; line = n.line })) (sym f), update_same w.board.memory n.at n.line q f)
            or (inr f) = inl (update_other w.board.memory n.at n.line q f)

        go : (o : Option Fault) → BroughtUp shapes S cap w.board o l x w' l' → SameBoard w'.board
        go (some r) (ex, ew, el) = subst (λ z. SameBoard z.board) (sym ew) (refl, refl, λ q. inl refl)
        go none (k, p, c, ex, ew, el) = subst (λ z. SameBoard z.board) (sym ew) (refl, journal_register shapes S w.board.register.journal k w.board, at w.board.register.journal refl k)

    module _ (laws : (h : ℕ) → 1 ≤ h → h ≤ 4 → TreeLaws (shapes h)) (s : FormattedBoard shapes S w.board.size w.board.register) (C : ColdHolds shapes T S l w.board.memory w.board.register) where
      is : bring_up_check shapes cap num w.board ≡ cond (leb 1 cap && leb cap 64) (cond (eqb num S.number) (cond (leb (dirty_in T l) cap) none (some (fault too_many_dirty 0))) (some (fault other_suite 0))) (some (fault bad_size 0))
      is = check_is w.board l (laws _ s.low s.high) s C.durable cap num

      law : Recovers shapes S laws w l (inr (s, C)) cap num x w'
      law = (bring_up_holds shapes S laws w l (inr (s, C)) cap num x w' l' B).0.1

      passes : Passes S T cap num l → bring_up_check shapes cap num w.board ≡ none
      passes (h, i, e, f) = is ∙ rw (slots_ok cap h i, eq-eqb num S.number e, le-leb (dirty_in T l) cap f)

      power_out : (o : Option Journal) (k : ℕ) (p q : Power) → Cut p (length (journal_writes o)) k q → k < length (journal_writes o) → p ≡ writes 0
      power_out none k p q c h = absurd (omega arith)
      power_out (some n) k endless endless c h = absurd (omega arith)
      power_out (some n) k endless (writes q) c h = absurd c
      power_out (some n) k (writes p) endless c h = absurd c
      power_out (some n) k (writes p) (writes q) c h = ap writes (sym (c.3 (omega arith)) ∙ c.2 h)

      no_power : (o : Option Journal) (n : Journal) → o ≡ some n → (k : ℕ) (p q : Power) → p ≡ writes 0 → Cut p (length (journal_writes o)) k q → k < length (journal_writes o)
      no_power none n e k p q z c = absurd (none≢some e)
      no_power (some m) n e k endless endless z c = absurd cc
      no_power (some m) n e k endless (writes q) z c = absurd c
      no_power (some m) n e k (writes p) endless z c = absurd c
      no_power (some m) n e k (writes p) (writes q) z c = let none_left : p ≡ 0 = cc in omega (arith, c.1)

      journal_place : (o : Option Journal) (n : Journal) → o ≡ some n → (k : ℕ) → k < length (journal_writes o) → place_of k (journal_writes o) ≡ n.at
      unfolding place_of
      journal_place none n e k h = absurd (none≢some e)
      journal_place (some m) n e zero h = ap (λ z. z.at) (some_inj e)
      journal_place (some m) n e (suc k) h = absurd (omega arith)

      journal_put : (o : Option Journal) (n : Journal) → o ≡ some n → (k : ℕ) → (k < length (journal_writes o) → ⊥) → (after_writes k (journal_writes o) w.board).memory n.at ≡ n.line
      unfolding after_writes
      journal_put none n e k h = absurd (none≢some e)
      journal_put (some m) n e zero h = absurd (h (omega arith))
      journal_put (some m) n e (suc k) h = update_same w.board.memory m.at m.line n.at (ap (λ z. z.at) (sym (some_inj e))) ∙ ap (λ z. z.line) (some_inj e)

      Why : Fault → Type 0
      Why r = JournalPowerLost w r w.board.register.journal ⊎ ((((q : ℕ) × (r ≡ fault corrupt q) × RecoveryRests T w.board.register.dirty q) ⊎ (r ≡ fault sum_mismatch 0)) × (((q : ℕ) → RecoveryRests T w.board.register.dirty q → Stands T S l w'.board.memory q) → ⊥))

      why : bring_up_check shapes cap num w.board ≡ none → (r : Fault) → x ≡ refused r 0 → Why r
      unfolding Why
      why e r f = go (asked e)
        where
          journal_lost : (o : Option Journal) → w.board.register.journal ≡ o → (k : ℕ) → k < length (journal_writes o) → place_of k (journal_writes o) ≡ r.place → r.cause ≡ power_lost → w.board.power ≡ writes 0 → JournalPowerLost w r o
          journal_lost none g k h y z u = absurd (omega arith)
          journal_lost (some n) g k h y z u = (λ i. record { cause = z i; place = (sym y ∙ journal_place (some n) n refl k h) i }, u)

          corrupt_above : (z : Outcome Table) (m : ℕ → Line) → recover T S m w.board.register ≡ z → x ≡ recovered_answer z → (((q : ℕ) × (r ≡ fault corrupt q) × RecoveryRests T w.board.register.dirty q) ⊎ (r ≡ fault sum_mismatch 0)) × (r.cause ≡ power_lost → ⊥)
          corrupt_above (ok t) m g h = absurd (done≢refused (sym h ∙ f))
          corrupt_above (err y) m g h =
              let i : y ≡ r = (refused_inj (sym h ∙ f)).0 in
              (recover_why T S (laws _ s.low s.high) m w.board.register r (g ∙ ap err i), recover_cause T S m w.board.register r (g ∙ ap err i))

          cut : (k : ℕ) (p : Power) (d : Bool) → ltb k (length ws) ≡ d → Cut w.board.power (length ws) k p → x ≡ cond d (refused (power_lost_at k ws) 0) (recovered_answer (recover T S (after_writes k ws w.board).memory w.board.register)) → JournalPowerLost w r w.board.register.journal ⊎ ((((q : ℕ) × (r ≡ fault corrupt q) × RecoveryRests T w.board.register.dirty q) ⊎ (r ≡ fault sum_mismatch 0)) × (((q : ℕ) → RecoveryRests T w.board.register.dirty q → Stands T S l w'.board.memory q) → ⊥))
          cut k p true g c ex =
              let i : power_lost_at k ws ≡ r = (refused_inj (sym ex ∙ f)).0 in
              inl (journal_lost w.board.register.journal refl k (ltb-true _ _ g) (ap (λ z. z.place) i) (ap (λ z. z.cause) (sym i)) (power_out w.board.register.journal k w.board.power p c (ltb-true _ _ g)))
          cut k p false g c ex =
              let (y, z) = corrupt_above (recover T S (after_writes k ws w.board).memory w.board.register) _ refl ex in
              inr (y, λ all. done≢refused (sym ((law.accepts e (λ r' n h u. z (ap (λ q. q.cause) (refused_inj (sym f ∙ h)).0 ∙ u))).1 all) ∙ f))

          go : BroughtUp shapes S cap w.board none l x w' l' → JournalPowerLost w r w.board.register.journal ⊎ ((((q : ℕ) × (r ≡ fault corrupt q) × RecoveryRests T w.board.register.dirty q) ⊎ (r ≡ fault sum_mismatch 0)) × (((q : ℕ) → RecoveryRests T w.board.register.dirty q → Stands T S l w'.board.memory q) → ⊥))
          go (k, p, c, ex, ew, el) = cut k p (ltb k (length ws)) refl c ex

      goes_lost : bring_up_check shapes cap num w.board ≡ none → (n : Journal) → w.board.register.journal ≡ some n → w.board.power ≡ writes 0 → x ≡ refused (fault power_lost n.at) 0
      goes_lost e n f z = go (asked e)
        where
          go : BroughtUp shapes S cap w.board none l x w' l' → x ≡ refused (fault power_lost n.at) 0
          go (k, p, c, ex, ew, el) =
              let i = no_power w.board.register.journal n f k w.board.power p z c in
              ex ∙ ap (λ b. cond b (refused (power_lost_at k ws) 0) (recovered_answer (recover T S (after_writes k ws w.board).memory w.board.register))) (lt-ltb k (length ws) i) ∙ ap (λ q. refused (fault power_lost q) 0) (journal_place w.board.register.journal n f k i)

      writes_back : bring_up_check shapes cap num w.board ≡ none → (n : Journal) → w.board.register.journal ≡ some n → (w.board.power ≡ writes 0 → ⊥) → w'.board.memory n.at ≡ n.line
      writes_back e n f z = go (asked e)
        where
          go : BroughtUp shapes S cap w.board none l x w' l' → w'.board.memory n.at ≡ n.line
          go (k, p, c, ex, ew, el) = ap (λ u. u.board.memory n.at) ew ∙ journal_put w.board.register.journal n f k (λ h. z (power_out w.board.register.journal k w.board.power p c h))

      missed : x ≡ refused (fault sum_mismatch 0) 0 → (q : ℕ) → RecoveryRests T w.board.register.dirty q → (c : ℕ) × (b : Body) × InLog l q c b × (w'.board.memory q ≡ line_at T S q c b)
      missed f q y = go (bring_up_check shapes cap num w.board) refl B
        where
          Goal : Type 0
          Goal = (c : ℕ) × (b : Body) × InLog l q c b × (w'.board.memory q ≡ line_at T S q c b)

          not_early : (r : Fault) → r ≡ fault sum_mismatch 0 → bring_up_check shapes cap num w.board ≡ some r → Goal
          not_early r e h = at (leb 1 cap && leb cap 64) (eqb num S.number) (leb (dirty_in T l) cap) (sym is ∙ h)
            where
              at : (a b c : Bool) → cond a (cond b (cond c none (some (fault too_many_dirty 0))) (some (fault other_suite 0))) (some (fault bad_size 0)) ≡ some r → Goal
              at true true true z = absurd (none≢some z)
              at true true false z = absurd (cc (same_cause (some_inj z ∙ e)))
              at true false c z = absurd (cc (same_cause (some_inj z ∙ e)))
              at false b c z = absurd (cc (same_cause (some_inj z ∙ e)))

          late : (k : ℕ) (p : Power) → k ≡ length ws → (z : Outcome Table) → recover T S (after_writes k ws w.board).memory w.board.register ≡ z → x ≡ recovered_answer z → w' ≡ record { board = after w.board k ws p; chip = cond (ltb k (length ws)) (latched (power_lost_at k ws)) (recovered_chip cap (recover T S (after_writes k ws w.board).memory w.board.register)) } → Goal
          late k p i (ok t) e ex ew = absurd (done≢refused (sym ex ∙ f))
          late k p i (err r) e ex ew =
              let (c, b, u, o) = missed_old shapes T (laws _ s.low s.high) S l (after_writes k ws w.board).memory w.board.register C.durable (journal_fine shapes S T l w.board C w.board.register.journal refl k i) (e ∙ ap err (refused_inj (sym ex ∙ f)).0) q y in
              (c, b, u, ap (λ z. z.board.memory q) ew ∙ o)

          cut : (k : ℕ) (p : Power) (d : Bool) → ltb k (length ws) ≡ d → Cut w.board.power (length ws) k p → x ≡ cond d (refused (power_lost_at k ws) 0) (recovered_answer (recover T S (after_writes k ws w.board).memory w.board.register)) → w' ≡ record { board = after w.board k ws p; chip = cond (ltb k (length ws)) (latched (power_lost_at k ws)) (recovered_chip cap (recover T S (after_writes k ws w.board).memory w.board.register)) } → Goal
          cut k p true g c ex ew = absurd (cc (same_cause (refused_inj (sym ex ∙ f)).0))
          cut k p false g c ex ew = late k p (omega (arith, ltb-false _ _ g, cut_le w.board.power p (length ws) k c)) (recover T S (after_writes k ws w.board).memory w.board.register) refl ex ew

          go : (o : Option Fault) → bring_up_check shapes cap num w.board ≡ o → BroughtUp shapes S cap w.board o l x w' l' → Goal
          go (some r) e (ex, ew, el) = not_early r (refused_inj (sym ex ∙ f)).0 e
          go none e (k, p, c, ex, ew, el) = cut k p (ltb k (length ws)) refl c ex ew

      places : (q : ℕ) → x ≡ refused (fault corrupt q) 0 → ((u : ℕ) → Rests T (λ p. false) q u → Stands T S l w'.board.memory u) → ⊥
      places q f h = go (bring_up_check shapes cap num w.board) refl B
        where
          not_early : (r : Fault) → r ≡ fault corrupt q → bring_up_check shapes cap num w.board ≡ some r → ⊥
          not_early r e h = at (leb 1 cap && leb cap 64) (eqb num S.number) (leb (dirty_in T l) cap) (sym is ∙ h)
            where
              at : (a b c : Bool) → cond a (cond b (cond c none (some (fault too_many_dirty 0))) (some (fault other_suite 0))) (some (fault bad_size 0)) ≡ some r → ⊥
              at true true true z = absurd (none≢some z)
              at true true false z = cc (same_cause (some_inj z ∙ e))
              at true false c z = cc (same_cause (some_inj z ∙ e))
              at false b c z = cc (same_cause (some_inj z ∙ e))

          late : (k : ℕ) → w'.board.memory ≡ (after_writes k ws w.board).memory → (z : Outcome Table) → recover T S (after_writes k ws w.board).memory w.board.register ≡ z → x ≡ recovered_answer z → ⊥
          late k em (ok t) e ex = done≢refused (sym ex ∙ f)
          late k em (err r) e ex =
              recover_fails shapes T (laws _ s.low s.high) S l (after_writes k ws w.board).memory w.board.register C.durable r e q (refused_inj (sym ex ∙ f)).0
              (λ u y. subst (λ m. Stands T S l m u) em (h u y))

          cut : (k : ℕ) (d : Bool) → w'.board.memory ≡ (after_writes k ws w.board).memory → x ≡ cond d (refused (power_lost_at k ws) 0) (recovered_answer (recover T S (after_writes k ws w.board).memory w.board.register)) → ⊥
          cut k true em ex = cc (same_cause (refused_inj (sym ex ∙ f)).0)
          cut k false em ex = late k em (recover T S (after_writes k ws w.board).memory w.board.register) refl ex

          go : (o : Option Fault) → bring_up_check shapes cap num w.board ≡ o → BroughtUp shapes S cap w.board o l x w' l' → ⊥
          go (some r) e (ex, ew, el) = not_early r (refused_inj (sym ex ∙ f)).0 e
          go none e (k, p, c, ex, ew, el) = cut k (ltb k (length ws)) (ap (λ z. z.board.memory) ew) ex

      not_lost : bring_up_check shapes cap num w.board ≡ none → ((n : Journal) → w.board.register.journal ≡ some n → w.board.power ≡ writes 0 → ⊥) → (r : Fault) (n : ℕ) → x ≡ refused r n → r.cause ≡ power_lost → ⊥
      unfolding Why
      not_lost e d r n f c = go answers
        where
          journaled : (o : Option Journal) → w.board.register.journal ≡ o → JournalPowerLost w r o → ⊥
          journaled none g y = y
          journaled (some m) g y = d m g y.1

          at : JournalPowerLost w r w.board.register.journal ⊎ ((((q : ℕ) × (r ≡ fault corrupt q) × RecoveryRests T w.board.register.dirty q) ⊎ (r ≡ fault sum_mismatch 0)) × (((q : ℕ) → RecoveryRests T w.board.register.dirty q → Stands T S l w'.board.memory q) → ⊥)) → ⊥
          at (inl y) = journaled w.board.register.journal refl y
          at (inr (inl (q, y, _), _)) = cc
          at (inr (inr y, _)) = cc

          go : (x ≡ done 0) ⊎ ((y : Fault) × (x ≡ refused y 0) × (w'.chip ≡ latched y)) → ⊥
          go (inl g) = done≢refused (sym g ∙ f)
          go (inr (y, g, _)) = at (why e r (g ∙ ap (λ u. refused u 0) (refused_inj (sym g ∙ f)).0))

      in_journal : (r : Fault) (o : Option Journal) → w.board.register.journal ≡ o → JournalPowerLost w r o → (j : Journal) × Powerless S T w j
      in_journal r none g y = absurd y
      in_journal r (some m) g y = (m, (g, y.1))

      pub formatted_law : BringUpLaw S T cap num w l x w'
      unfolding Why
      formatted_law =
          record {
            answers = answers;
            bad_slots = λ h. bare (early (fault bad_size 0) (is ∙ rw (slots_err cap h)));
            other_suites = λ h i n. bare (early (fault other_suite 0) (is ∙ rw (slots_ok cap h i, ne_eqb num S.number n)));
            too_many = λ h i n f. bare (early (fault too_many_dirty 0) (is ∙ rw (slots_ok cap h i, eq-eqb num S.number n, lt-leb (dirty_in T l) cap f)));
            powerless = λ u j y. goes_lost (passes u) j y.0 y.1;
            rewrites = λ u. writes_back (passes u);
            accepts = λ u d. law.accepts (passes u) (not_lost (passes u) (λ j e f. d j (e, f)));
            restores = law.restores;
            why = λ u r f. ⊎_elim (λ y. inl (in_journal r w.board.register.journal refl y)) (λ y. inr y.0) (why (passes u) r f);
            places = places;
            missed = missed;
            idle = idle;
            spends = spends;
            keeps = keeps;
          }

    not_formatted : (w.board.register.formatted ≡ 1 → ⊥) → register_valid shapes w.board.register ≡ false
    unfolding register_valid
    not_formatted h = rw (ne_eqb w.board.register.formatted 1 h)

    pub unmade_law : w.board.register.formatted ≡ 0 → UnformattedLaw cap w l x w' l'
    unfolding bring_up_check
    unmade_law h =
        record {
          bad_slots = λ i. early (fault bad_size 0) (rw (slots_err cap i));
          invalid = λ i j. early (fault invalid_register 0) (rw (slots_ok cap i j, not_formatted (λ e. omega arith)));
        }

  pub bring_up_law : (laws : (h : ℕ) → 1 ≤ h → h ≤ 4 → TreeLaws (shapes h)) (cap num : ℕ) (w : World) (l : Log) → BoardHolds shapes S w.board l → (x : Answer) (w' : World) (l' : Log) → BroughtUp shapes S cap w.board (bring_up_check shapes cap num w.board) l x w' l' → Law shapes S w l cold (bring_up cap num) x w' l'
  bring_up_law laws cap num w l H x w' l' B = (log_kept cap num w l x w' l' B, go H, unmade_law cap num w l x w' l' B)
    where
      go : BoardHolds shapes S w.board l → w.board.register.formatted ≡ 1 → BringUpLaw S (shape_of shapes w.board) cap num w l x w'
      go (inl z) e = absurd (omega (arith, z.0))
      go (inr (s, C)) e = formatted_law cap num w l x w' l' B laws s C
