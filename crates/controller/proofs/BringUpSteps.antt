-- Bring-up, from what the code did.
use Rattle.std.proofs.Common.{◌≡◌, ℕ, ◌<◌, ◌≤◌, Bool, true, false, cond, ltb, ◌⊎◌, List, [], length, Ok, Err, Option as Maybe, Result, sym, refl, ap, ◌∙◌, subst, inl, inr, arith}
use mathlib.Core.Option.{Option, some, none}
use Rattle.std.proofs.lemmas.Bool.{ltb-true}
use Rattle.std.proofs.lemmas.List.{length-set}
use Rattle.board.specs.Meaning.{Meaning}
use Rattle.board.specs.Calls.{LineWritten}
use Rattle.board.specs.declared.types.Line.{Line}
use Rattle.board.specs.declared.types.BoardFault.{BoardFault}
use Rattle.board.specs.declared.types.BoardFault.TheVariants.{Absent, PowerLost}
use Rattle.suite.specs.Scheme.{Line as LineMeant, Scheme}
use Rattle.machine.specs.Layout.{eight_ary, lines_of}
use Rattle.machine.specs.Store.{Register, Journal, Log, Write, BoardState}
use Rattle.machine.specs.Words.{row, line_in, memory_in, register_in, state_in}
use Rattle.machine.specs.Faults.{Fault, Outcome}
use Rattle.machine.specs.Plans.{Table, map_count, recover}
use Rattle.machine.specs.History.{Chip as ChipState, latched, World, bring_up, Answer, refused, after, power_lost_at, journal_writes, journal_in, bring_up_check, recovered_answer, recovered_chip, BroughtUp, Reached}
use Rattle.machine.specs.CommitLaws.{RegisterLaw}
use Rattle.machine.proofs.Basics.{none≢some, some_inj}
use Rattle.machine.proofs.EightAry.{eight_trees}
use Rattle.machine.proofs.HistoryHolds.{keeps_promises}
use Rattle.tree.specs.SlotTable.{table_in}
use Rattle.controller.specs.declared.chip.Chip.{Chip}
use Rattle.controller.specs.declared.types.Fault.{Fault as ControllerFault}
use Rattle.controller.specs.declared.types.LineFault.{LineFault}
use Rattle.controller.specs.declared.types.TreeFault.TheVariants.{Board as OfBoard}
use Rattle.controller.specs.Views.{tree_fault, fault_of, with_line, Fits}
use Rattle.controller.specs.Runs.{Wrote}
use Rattle.controller.specs.Worlds.{world_by, world_in, cold_in, report_by, Keeps}
use Rattle.controller.specs.BringUps.{Passed, WrittenBack, BringsAs, BringsUp, Brought, Settled, ChipLeft, KeepsOthers}
use Rattle.controller.proofs.FormatWrites.{wrote_none, line_lost, line_done}
use Rattle.controller.proofs.Keeping.{keeps}
use Rattle.controller.proofs.RestoreSteps.{levels_in}
use Rattle.controller.proofs.RegisterChecks.{passed_number}

-- The journal's line written back, or not.
module _ (m : Meaning) where
  pub back_none : none ≡ (register_in m.register).journal → WrittenBack m none m
  back_none e = record { wrote = subst (λ (o : Option Journal). Wrote (journal_writes o) m none m) e (wrote_none m); words = refl; long = refl }

  module _ (a : ℕ) (l : Line) (e : some (record { at = a; line = line_in l }) ≡ (register_in m.register).journal) (m' : Meaning) where
    kept : (r : Result (Unit {0}) BoardFault) → LineWritten m a l r m' → (m'.register ≡ m.register) × (length m'.lines ≡ length m.lines)
    kept (Ok u) y = (y.2, ap length y.1 ∙ length-set m.lines a l)
    kept (Err Absent) y = (ap (λ (x : Meaning). x.register) y.1, ap (λ (x : Meaning). length x.lines) y.1)
    kept (Err PowerLost) y = (ap (λ (x : Meaning). x.register) y.2, ap (λ (x : Meaning). length x.lines) y.2)

    pub journal_within : (h : ℕ) → Fits h m → journal_in (eight_ary h) (register_in m.register).journal ≡ true → a < length m.lines
    journal_within h F j = let k = ltb-true a (lines_of h) (ap (journal_in (eight_ary h)) e ∙ j) in omega (arith, k, F.enough)

    pub back_lost : a < length m.lines → (r : Result (Unit {0}) BoardFault) (f : LineFault) → LineWritten m a l r m' → Err f ≡ with_line r a → WrittenBack m (some (tree_fault (OfBoard f))) m'
    back_lost k r f y d =
        record {
          wrote = subst (λ (o : Option Journal). Wrote (journal_writes o) m (some (tree_fault (OfBoard f))) m') e (line_lost m a l (line_in l) refl m' k r f y d);
          words = (kept r y).0;
          long = (kept r y).1;
        }

    pub back_done : (r : Result (Unit {0}) BoardFault) → LineWritten m a l r m' → Ok tt ≡ with_line r a → WrittenBack m none m'
    back_done r y d =
        record {
          wrote = subst (λ (o : Option Journal). Wrote (journal_writes o) m none m') e (line_done m a l (line_in l) refl m' r y d).0;
          words = (kept r y).0;
          long = (kept r y).1;
        }

-- A board that passed fits its levels after the write too, and has as many dirty nodes.
pub fits_after : (h cap : ℕ) (m m' : Meaning) (o : Option Fault) → Passed h cap m → WrittenBack m o m' → Fits h m'
fits_after h cap m m' o P W =
    record { low = P.fits.low; high = P.fits.high; enough = subst (λ n. lines_of h ≤ n) (sym W.long) P.fits.enough; own = P.fits.own ∙ sym (ap (λ ws. row ws 1) W.words) }

pub few_after : (h cap : ℕ) (m m' : Meaning) (o : Option Fault) → Passed h cap m → WrittenBack m o m' → map_count (eight_ary h) (register_in m'.register) ≤ 64
few_after h cap m m' o P W = subst (λ (ws : List ℕ). map_count (eight_ary h) (register_in ws) ≤ 64) (sym W.words) (omega (arith, P.few_dirty, P.few_slots))

-- How the call ends.
module _ (S : Scheme) (cap : ℕ) (m : Meaning) where
  abbrev asked : Option Fault
  asked = bring_up_check eight_ary cap S.number (state_in m)

  pub brings_refused : (y : Fault) → asked ≡ some y → BringsUp S cap m (refused y 0) m (record { board = state_in m; chip = latched y })
  brings_refused y e = subst (λ (o : Option Fault). BringsAs S cap o m (refused y 0) m (record { board = state_in m; chip = latched y })) (sym e) (refl, refl, refl)

  module _ (e : asked ≡ none) (m' : Meaning) where
    abbrev B : BoardState
    B = state_in m

    abbrev W : List Write
    W = journal_writes (register_in m.register).journal

    split : (b : Bool) (x y : Fault) → some x ≡ cond b (some y) none → (b ≡ true) × (x ≡ y)
    split true x y h = (refl, some_inj h)
    split false x y h = absurd (none≢some (sym h))

    not_lost : (b : Bool) (y : Fault) → none ≡ cond b (some y) none → b ≡ false
    not_lost true y h = absurd (none≢some h)
    not_lost false y h = refl

    abbrev said : ℕ → Bool → Outcome Table → Answer
    said k b z = cond b (refused (power_lost_at k W) 0) (recovered_answer z)

    abbrev left : ℕ → Bool → Outcome Table → ChipState
    left k b z = cond b (latched (power_lost_at k W)) (recovered_chip cap z)

    abbrev tried : ℕ → Outcome Table
    tried k = recover (eight_ary B.register.levels) S (after B k W m'.power).memory B.register

    pub brings_lost : (x : Fault) → WrittenBack m (some x) m' → BringsUp S cap m (refused x 0) m' (record { board = state_in m'; chip = latched x })
    brings_lost x V =
        subst (λ (o : Option Fault). BringsAs S cap o m (refused x 0) m' (record { board = state_in m'; chip = latched x })) (sym e) (
          V.words,
          λ l. (
            k,
            m'.power,
            V.wrote.cut,
            ap (λ (y : Fault). refused y 0) s.1 ∙ sym (ap (λ b. said k b (tried k)) s.0),
            (λ j. record { board = V.wrote.left_is j; chip = (ap latched s.1 ∙ sym (ap (λ b. left k b (tried k)) s.0)) j }),
            refl,
          ),
        )
      where
        k : ℕ
        k = V.wrote.done

        s : (ltb V.wrote.done (length W) ≡ true) × (x ≡ power_lost_at V.wrote.done W)
        s = split (ltb V.wrote.done (length W)) x (power_lost_at V.wrote.done W) V.wrote.says

    module _ (V : WrittenBack m none m') (h : ℕ) (own : h ≡ row m.register 1) where
      abbrev k : ℕ
      k = V.wrote.done

      came : tried k ≡ recover (eight_ary h) S (memory_in m'.lines) (register_in m'.register)
      came =
          ap (λ n. recover (eight_ary n) S (after B k W m'.power).memory B.register) (levels_in m.register ∙ sym own)
          ∙ ap (λ (f : ℕ → LineMeant). recover (eight_ary h) S f B.register) (sym (ap (λ (b : BoardState). b.memory) V.wrote.left_is))
          ∙ ap (λ (g : Register). recover (eight_ary h) S (memory_in m'.lines) g) (sym (ap register_in V.words))

      pub brings_ends : (z : Outcome Table) → recover (eight_ary h) S (memory_in m'.lines) (register_in m'.register) ≡ z → BringsUp S cap m (recovered_answer z) m' (record { board = state_in m'; chip = recovered_chip cap z })
      brings_ends z q =
          subst (λ (o : Option Fault). BringsAs S cap o m (recovered_answer z) m' (record { board = state_in m'; chip = recovered_chip cap z })) (sym e) (
            V.words,
            λ l. (
              k,
              m'.power,
              V.wrote.cut,
              sym (ap (λ b. said k b (tried k)) n ∙ ap recovered_answer (came ∙ q)),
              (λ j. record { board = V.wrote.left_is j; chip = sym (ap (λ b. left k b (tried k)) n ∙ ap (recovered_chip cap) (came ∙ q)) j }),
              refl,
            ),
          )
        where
          n : ltb V.wrote.done (length W) ≡ false
          n = not_lost (ltb V.wrote.done (length W)) (power_lost_at V.wrote.done W) V.wrote.says

-- What the open board and the answer are, once the chip is settled.
pub settled_brings : (S : Scheme) (cap : ℕ) (m m' : Meaning) (o : Result Chip ControllerFault) (c : Chip) (r : Result (Unit {0}) ControllerFault) → Brought S cap m o m' → Settled o c r → BringsUp S cap m (report_by r 0) m' (world_in m' c) × ChipLeft m r c
settled_brings S cap m m' (Ok d) c r b s =
    subst (λ (x : Chip). BringsUp S cap m (report_by r 0) m' (world_in m' x) × ChipLeft m r x) (sym s.0)
    (subst (λ (y : Result (Unit {0}) ControllerFault). BringsUp S cap m (report_by y 0) m' (world_in m' d) × ChipLeft m y d) (sym s.1) (b.0, (b.1, b.2)))
settled_brings S cap m m' (Err f) c r b s =
    subst (λ (y : Result (Unit {0}) ControllerFault). BringsUp S cap m (report_by y 0) m' (world_in m' c) × ChipLeft m y c) (sym s.1)
    (subst (λ (x : Maybe ControllerFault). BringsUp S cap m (refused (fault_of f) 0) m' (world_by m' x c.capacity (table_in c.slots))) (sym s.0) b, s.0)

-- In every history of the board, a bring-up goes on: under its own suite, and under one with another number.
module _ (S : Scheme) (cap : ℕ) (m : Meaning) (x : Answer) (m' : Meaning) (w' : World) (b : BringsUp S cap m x m' w') where
  pub brings_keep : Keeps S (cold_in m) (bring_up cap S.number) x w'
  brings_keep = keeps S (cold_in m) (bring_up cap S.number) x w' (λ l R. (l, tt, go l (bring_up_check eight_ary cap S.number (state_in m)) b))
    where
      go : (l : Log) (o : Option Fault) → BringsAs S cap o m x m' w' → BroughtUp eight_ary S cap (state_in m) o l x w' l
      go l (some y) d = (d.0, d.2, refl)
      go l none d = d.1 l

  pub brings_keep_others : KeepsOthers S cap m x w'
  brings_keep_others K d = keeps K (cold_in m) (bring_up cap S.number) x w' (λ l R. (l, tt, go l R (bring_up_check eight_ary cap S.number (state_in m)) refl b))
    where
      own : (l : Log) → Reached eight_ary K (cold_in m) l → bring_up_check eight_ary cap S.number (state_in m) ≡ none → ⊥
      own l R e = at (keeps_promises eight_ary eight_trees K (cold_in m) l R).register
        where
          n : ((register_in m.register).formatted ≡ 1) × (S.number ≡ (register_in m.register).suite)
          n = passed_number S.number cap m e

          at : (((register_in m.register).formatted ≡ 0) × (l ≡ [])) ⊎ (((register_in m.register).formatted ≡ 1) × RegisterLaw K (eight_ary (register_in m.register).levels) (register_in m.register) l) → ⊥
          at (inl (z, _)) = omega (arith, z, n.0)
          at (inr (_, L)) = d (sym L.number ∙ sym n.1)

      go : (l : Log) → Reached eight_ary K (cold_in m) l → (o : Option Fault) → bring_up_check eight_ary cap S.number (state_in m) ≡ o → BringsAs S cap o m x m' w' → BroughtUp eight_ary K cap (state_in m) o l x w' l
      go l R (some y) q c = (c.0, c.2, refl)
      go l R none q c = absurd (own l R q)
