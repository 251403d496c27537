-- Bring-up keeps what holds, and its law.
use Rattle.std.proofs.Common.{◌≡◌, ℕ, zero, suc, ◌+◌, ◌<◌, ◌≤◌, Bool, true, false, cond, not, ◌&&◌, ◌||◌, eqb, ltb, leb, ◌⊎◌, ◌↔◌, List, length, sym, refl, ap, ◌∙◌, subst, inl, inr, le_refl, arith}
use mathlib.Core.Option.{Option, some, none}
use Rattle.std.proofs.lemmas.Bool.{ltb-true, ltb-false, lt-ltb, cases_eq, leb-true, le-leb, eq-eqb, eqb-true, and_parts, and_from, both_ways, or_left, or_right}
use Rattle.suite.specs.Scheme.{Line, Scheme}
use Rattle.board.specs.Meaning.{Power}
use Rattle.machine.specs.Layout.{Shape, TreeLaws, update}
use Rattle.machine.specs.Store.{line_at, Journal, Register, Log, Write, BoardState, after_writes, Cut}
use Rattle.machine.specs.Faults.{power_lost, Fault, fault, Outcome, ok, err, bad_size, too_few_lines, invalid_register, other_suite, too_many_dirty}
use Rattle.machine.specs.Plans.{Slot, Table, is_dirty, dirty_count, recover, map_count}
use Rattle.machine.specs.History.{opened, refused, done, counter_in, World, latched, Answer, power_lost_at, after, body_in, shape_of, journal_writes, journal_in, register_valid, bring_up_check, recovered_answer, recovered_chip, BroughtUp, Replayed}
use Rattle.machine.specs.Laws.{Stands, RecoveryRests}
use Rattle.machine.proofs.Invariant.{Durable, Fine, Exact, SlotsHold}
use Rattle.machine.proofs.Basics.{update_same, update_other, every_from, sum_le, some_inj, none≢some, err≢ok}
use Rattle.machine.proofs.Trails.{ColdHolds}
use Rattle.machine.proofs.BoardHolds.{FormattedBoard, BoardHolds, Holds}
use Rattle.machine.proofs.Cuts.{cut_le, done≢refused}
use Rattle.machine.proofs.Recovery.{recover_valid, recover_complete}

module _ (shapes : ℕ → Shape) (S : Scheme) where
  -- A formatted board's register is valid.
  pub valid_holds : (size : ℕ) (g : Register) (l : Log) → TreeLaws (shapes g.levels) → FormattedBoard shapes S size g → Durable (shapes g.levels) S l g → register_valid shapes g ≡ true
  unfolding register_valid
  valid_holds size g l L s D =
      and_from _ _
      (and_from _ _
      (and_from _ _ (and_from _ _ (eq-eqb _ _ s.formatted) (and_from _ _ (le-leb _ _ s.low) (le-leb _ _ s.high)))
      (every_from _ (λ i. leb (g.roots i) (T.limit (T.child T.lines i))) (λ i j. le-leb _ _ (rw (D.roots i j) (D.small _ (L.child_in T.lines i L.data_in (le_refl T.lines) j))))))
      (every_from 640 (λ j. ltb (T.data_lines + j) T.lines || not (g.dirty (T.data_lines + j))) (λ j _. map_in (T.data_lines + j) (g.dirty (T.data_lines + j)) refl)))
      (journaled_in g.journal refl)
    where
      T : Shape
      T = shapes g.levels

      map_in : (p : ℕ) (b : Bool) → g.dirty p ≡ b → (ltb p T.lines || not b) ≡ true
      map_in p true e = or_left _ _ (lt-ltb _ _ (D.inner p e).1)
      map_in p false e = or_right (ltb p T.lines) true refl

      journaled_in : (o : Option Journal) → g.journal ≡ o → journal_in T o ≡ true
      journaled_in none e = refl
      journaled_in (some n) e = lt-ltb _ _ (D.journaled n e).0

  pub bring_up_may : (cap num : ℕ) (b : BoardState) → bring_up_check shapes cap num b ≡ none → b.register.formatted ≡ 1
  unfolding bring_up_check register_valid
  bring_up_may cap num b e = eqb-true _ _ (and_parts _ _ (and_parts _ _ (and_parts _ _ (and_parts _ _ fits).0).0).0).0
    where
      two : (x y : Bool) (u : Option Fault) → cond x (cond y u (some (fault invalid_register 0))) (some (fault bad_size 0)) ≡ none → y ≡ true
      two true true u e = refl
      two true false u e = absurd (none≢some (sym e))
      two false y u e = absurd (none≢some (sym e))

      fits : register_valid shapes b.register ≡ true
      fits = two (leb 1 cap && leb cap 64) (register_valid shapes b.register) _ e

  slots_may : (cap num : ℕ) (b : BoardState) → bring_up_check shapes cap num b ≡ none → (1 ≤ cap) × (cap ≤ 64) × (map_count (shape_of shapes b) b.register ≤ cap)
  unfolding bring_up_check
  slots_may cap num b e = go (leb 1 cap && leb cap 64) refl (register_valid shapes b.register) (leb (shape_of shapes b).lines b.size) (eqb num b.register.suite) (leb (map_count (shape_of shapes b) b.register) cap) refl e
    where
      go : (a : Bool) → (leb 1 cap && leb cap 64) ≡ a → (x c d f : Bool) → leb (map_count (shape_of shapes b) b.register) cap ≡ f → cond a (cond x (cond c (cond d (cond f none (some (fault too_many_dirty 0))) (some (fault other_suite 0))) (some (fault too_few_lines 0))) (some (fault invalid_register 0))) (some (fault bad_size 0)) ≡ none → (1 ≤ cap) × (cap ≤ 64) × (map_count (shape_of shapes b) b.register ≤ cap)
      go true p true true true true q e = (leb-true _ _ (and_parts _ _ p).0, leb-true _ _ (and_parts _ _ p).1, leb-true _ _ q)
      go true p true true true false q e = absurd (none≢some (sym e))
      go true p true true false f q e = absurd (none≢some (sym e))
      go true p true false d f q e = absurd (none≢some (sym e))
      go true p false c d f q e = absurd (none≢some (sym e))
      go false p x c d f q e = absurd (none≢some (sym e))

  used_map : (T : Shape) (l : Log) (g : Register) (t : Table) → SlotsHold T l g.dirty t → dirty_count T t ≤ map_count T g
  unfolding dirty_count map_count
  used_map T l g t O = sum_le T.lines (λ p. cond (is_dirty (t p)) 1 0) (λ p. cond (g.dirty p) 1 0) (λ p k. at p (t p) (O.exact p))
    where
      at : (p : ℕ) (o : Option Slot) → Exact T l g.dirty o p → cond (is_dirty o) 1 0 ≤ cond (g.dirty p) 1 0
      at p (some s) x = rw x.0 (omega arith)
      at p none x = rw x (omega arith)

  -- Writing the journal's line back.
  pub journal_register : (o : Option Journal) (k : ℕ) (b : BoardState) → (after_writes k (journal_writes o) b).register ≡ b.register
  unfolding after_writes
  journal_register none k b = refl
  journal_register (some n) zero b = refl
  journal_register (some n) (suc k) b = refl

  journal_not : (o : Option Journal) (k : ℕ) (b : BoardState) → k < length (journal_writes o) → (after_writes k (journal_writes o) b).memory ≡ b.memory
  unfolding after_writes
  journal_not none k b h = absurd (omega arith)
  journal_not (some n) zero b h = refl
  journal_not (some n) (suc k) b h = absurd (omega arith)

  pub journal_fine : (T : Shape) (l : Log) (b : BoardState) → ColdHolds shapes T S l b.memory b.register → (o : Option Journal) → b.register.journal ≡ o → (k : ℕ) → k ≡ length (journal_writes o) → (q : ℕ) → q < T.lines → Fine shapes T S l (after_writes k (journal_writes o) b).memory q
  unfolding after_writes
  journal_fine T l b C none e k i q j = C.fine q j (λ n f. absurd (none≢some (sym e ∙ f)))
  journal_fine T l b C (some n) e zero i q j = absurd (omega arith)
  journal_fine T l b C (some n) e (suc k) i q j = at (cases_eq q n.at)
    where
      at : (q ≡ n.at) ⊎ (q ≡ n.at → ⊥) → Fine shapes T S l (update b.memory n.at n.line) q
      at (inl f) = inl (update_same b.memory n.at n.line q f ∙ (C.durable.journaled n e).1 ∙ ap (λ z. line_at T S z (counter_in l z) (body_in l z)) (sym f))
      at (inr f) =
          subst (λ (x : Line). (x ≡ line_at T S q (counter_in l q) (body_in l q)) ⊎ Replayed S T l q x) (sym (update_other b.memory n.at n.line q f))
          (C.fine q j (λ m g z. f (sym z ∙ ap (λ y. y.at) (sym (some_inj (sym e ∙ g))))))

  module _ (laws : (h : ℕ) → 1 ≤ h → h ≤ 4 → TreeLaws (shapes h)) (w : World) (l : Log) (H : BoardHolds shapes S w.board l) (cap num : ℕ) where
    -- Past the first checks: accepted exactly when all it rests on stands, and then every dirty node is restored.
    pub record Recovers (x : Answer) (w' : World) : Type 0 where
      pub accepts : bring_up_check shapes cap num w.board ≡ none → ((r : Fault) (n : ℕ) → x ≡ refused r n → r.cause ≡ power_lost → ⊥) →
          (x ≡ done 0) ↔ ((q : ℕ) → RecoveryRests (shape_of shapes w.board) w.board.register.dirty q → Stands (shape_of shapes w.board) S l w'.board.memory q)
      pub restores : x ≡ done 0 → (t : Table) × (w'.chip ≡ opened cap t) ×
          ((p : ℕ) → p < (shape_of shapes w.board).lines → w.board.register.dirty p ≡ true → (s : Slot) × (t p ≡ some s) × ((i : ℕ) → i < (shape_of shapes w.board).arity p → s.counters i ≡ counter_in l ((shape_of shapes w.board).child p i)))

    abbrev Result : Answer → World → Type 0
    Result x w' = Holds shapes S w'.chip w'.board l × Recovers x w'

    safe_of : w.board.register.formatted ≡ 1 → FormattedBoard shapes S w.board.size w.board.register × ColdHolds shapes (shape_of shapes w.board) S l w.board.memory w.board.register
    safe_of e = go H
      where
        go : BoardHolds shapes S w.board l → FormattedBoard shapes S w.board.size w.board.register × ColdHolds shapes (shape_of shapes w.board) S l w.board.memory w.board.register
        go (inl z) = absurd (omega (arith, z.0, e))
        go (inr z) = z

    early : (r : Fault) → bring_up_check shapes cap num w.board ≡ some r → Result (refused r 0) (record { board = w.board; chip = latched r })
    early r e = (
      H,
      record {
        accepts = λ f. absurd (none≢some (sym f ∙ e));
        restores = λ f. absurd (done≢refused (sym f));
      },
    )

    module _ (may : bring_up_check shapes cap num w.board ≡ none) (k : ℕ) (p : Power) (c : Cut w.board.power (length (journal_writes w.board.register.journal)) k p) where
      abbrev T : Shape
      T = shape_of shapes w.board

      abbrev ws : List Write
      ws = journal_writes w.board.register.journal

      abbrev b' : BoardState
      b' = after w.board k ws p

      s : FormattedBoard shapes S w.board.size w.board.register
      s = (safe_of (bring_up_may cap num w.board may)).0

      C : ColdHolds shapes T S l w.board.memory w.board.register
      C = (safe_of (bring_up_may cap num w.board may)).1

      L : TreeLaws T
      L = laws _ s.low s.high

      same : (after_writes k ws w.board).register ≡ w.board.register
      same = journal_register w.board.register.journal k w.board

      cut_off : k < length ws → Result (refused (power_lost_at k ws) 0) (record { board = b'; chip = latched (power_lost_at k ws) })
      cut_off i = (
        rw same (inr (s, subst (λ m. ColdHolds shapes T S l m w.board.register) (sym (journal_not w.board.register.journal k w.board i)) C)),
        record {
          accepts = λ _ n. absurd (n (power_lost_at k ws) 0 refl refl);
          restores = λ f. absurd (done≢refused (sym f));
        },
      )

      module _ (i : k ≡ length ws) where
        fine : (q : ℕ) → q < T.lines → Fine shapes T S l (after_writes k ws w.board).memory q
        fine = journal_fine T l w.board C w.board.register.journal refl k i

        opens : (z : Outcome Table) → recover T S (after_writes k ws w.board).memory w.board.register ≡ z → Result (recovered_answer z) (record { board = b'; chip = recovered_chip cap z })
        opens (ok t) e =
            let (slots_hold, st) = recover_valid shapes T L S l (after_writes k ws w.board).memory w.board.register C.durable fine t e in (
              rw same (s, record { durable = C.durable; slots_hold = slots_hold; fine = fine }, (slots_may cap num w.board may).0, (slots_may cap num w.board may).1, omega (arith, used_map T l w.board.register t slots_hold, (slots_may cap num w.board may).2)),
              record {
                accepts = λ _ _. ((λ _. st), λ _. refl);
                restores = λ _. (t, refl, λ q j u. slot q u (t q) refl (slots_hold.exact q));
              },
            )
          where
            slot : (q : ℕ) → w.board.register.dirty q ≡ true → (o : Option Slot) → t q ≡ o → Exact T l w.board.register.dirty o q → (s : Slot) × (t q ≡ some s) × ((i : ℕ) → i < T.arity q → s.counters i ≡ counter_in l (T.child q i))
            slot q u (some s) f x = (s, f, x.1)
            slot q u none f x = absurd (both_ways _ x u)
        opens (err r) e = (
          rw same (inr (s, record { durable = C.durable; fine = λ q j _. fine q j })),
          record {
            accepts = λ _ _. ((λ f. absurd (done≢refused (sym f))), λ all. absurd (none_err (recover_complete shapes T L S l (after_writes k ws w.board).memory w.board.register C.durable all)));
            restores = λ f. absurd (done≢refused (sym f));
          },
        )
          where
            none_err : ((t : Table) × (recover T S (after_writes k ws w.board).memory w.board.register ≡ ok t)) → ⊥
            none_err (t, f) = err≢ok (sym e ∙ f)

    pub bring_up_holds : (x : Answer) (w' : World) (l' : Log) → BroughtUp shapes S cap w.board (bring_up_check shapes cap num w.board) l x w' l' → Result x w' × (l' ≡ l)
    bring_up_holds x w' l' q = go (bring_up_check shapes cap num w.board) refl q
      where
        go : (o : Option Fault) → bring_up_check shapes cap num w.board ≡ o → BroughtUp shapes S cap w.board o l x w' l' → Result x w' × (l' ≡ l)
        go (some r) e (ex, ew, el) = (rw (ex, ew) (early r e), el)
        go none e (k, p, c, ex, ew, el) = (rw (ex, ew) (at (ltb k (length (journal_writes w.board.register.journal))) refl), el)
          where
            z : Outcome Table
            z = recover (shape_of shapes w.board) S (after_writes k (journal_writes w.board.register.journal) w.board).memory w.board.register

            at : (d : Bool) → ltb k (length (journal_writes w.board.register.journal)) ≡ d → Result (cond d (refused (power_lost_at k (journal_writes w.board.register.journal)) 0) (recovered_answer z)) (record { board = after w.board k (journal_writes w.board.register.journal) p; chip = cond d (latched (power_lost_at k (journal_writes w.board.register.journal))) (recovered_chip cap z) })
            at true f = cut_off e k p c (ltb-true _ _ f)
            at false f = opens e k p c (omega (arith, ltb-false _ _ f, cut_le w.board.power p (length (journal_writes w.board.register.journal)) k c)) z refl
