-- What the bench prints for an input.
use Rattle.std.specs.Prelude.{◌≡◌, ℕ, ◌+◌, ◌*◌, false, List, [], ◌∷◌, ◌++◌, replicate, Some, None, Ok, Err, Option, Result, MatchOption}
use Rattle.board.specs.Meaning.{Meaning, Power}
use Rattle.board.specs.Memory.{memory}
use Rattle.board.specs.Piles.{fused}
use Rattle.board.specs.declared.types.Line.{Line}
use Rattle.suite.specs.Scheme.{Scheme}
use Rattle.suite.specs.Kinds.{scheme_of as scheme_under}
use Rattle.suite.specs.declared.kind.SuiteKind.{SuiteKind}
use Rattle.suite.specs.declared.kind.SuiteKind.TheVariants.{Sip, Cmac}
use Rattle.machine.specs.History.{format, bring_up}
use Rattle.controller.specs.Worlds.{world_in, cold_in, report_by, Keeps, Formats}
use Rattle.controller.specs.BringUps.{BringsUp}
use Rattle.controller.specs.Scripts.{PlaysOne, DoesOne}
use Rattle.controller.specs.declared.types.Fault.{Fault}
use Rattle.controller.specs.declared.chip.Chip.{Chip}
use Rattle.controller.specs.declared.event.Event.{Event}
use Rattle.controller.specs.declared.event.Reply.{Reply}
use Rattle.controller.specs.declared.event.Reply.TheVariants.{Put}
use Rattle.text.specs.Spelling.{Reads, lines_of}
use Rattle.text.specs.Writing.{bad}
use Rattle.script.specs.Script.{StepLine, HeaderReadAs, Outcome, row_text}
use Rattle.script.specs.declared.types.Header.{Header}
use Rattle.script.specs.declared.types.Step.{Step}
use Rattle.bench.specs.Steps.{event_of, copy_after}
use Rattle.bench.specs.Rows.{row_of, head_text}

-- What a step asked of the board, if anything, was played as an event of a script: every history that came to this board and chip goes on with the reply, and in a history or not it is what the event does there, with some supply of power.
abbrev pub Played : Scheme → ℕ → Meaning → Chip → Option Event → Reply → Meaning → Chip → Type 0
Played S cap m c (Some e) r m' c' = PlaysOne S cap (world_in m c) e r (world_in m' c') × ((p : Power) × DoesOne S cap p m c e r m' c')
Played S cap m c None r m' c' = (r ≡ Put false) × (m' ≡ m) × (c' ≡ c)

-- What is printed for the lines from step i on, on board m under chip c with copy k: a row for each step, up to the first unreadable line. Step i stands in line i + 5.
abbrev pub Rows : Scheme → ℕ → ℕ → List (List ℕ) → Meaning → Chip → Option Line → List ℕ → Type 0
Rows S cap i [] m c k out = out ≡ []
Rows S cap i (l ∷ ls) m c k out =
    (o : Option Step)
    × Reads StepLine l o
    × MatchOption o (out ≡ bad (i + 5)) (λ s.
    (r : Reply) × (m' : Meaning) × (c' : Chip) × (more : List ℕ)
    × Played S cap m c (event_of k s) r m' c'
    × (out ≡ row_text (row_of i r m'.register) ++ (10 ∷ more))
    × Rows S cap (i + 1) ls m' c' (copy_after m k s) more)

-- What is printed on board m under chip c once it was formatted with this outcome and brought up.
abbrev pub Table : Scheme → Header SuiteKind → List (List ℕ) → Result (Unit {0}) Fault → Meaning → Chip → List ℕ → Type 0
Table S h ls made m c out = (rows : List ℕ) × (out ≡ head_text made h.levels ++ rows) × Rows S h.slots 1 ls m c None rows

-- What is printed for a script on board m: it is formatted and brought up, refused or not, as events of every history that came to it, and in a history or not as these calls do; then the steps are played.
pub record Run (S : Scheme) (h : Header SuiteKind) (ls : List (List ℕ)) (m : Meaning) (out : List ℕ) : Type 0 where
  pub made : Result (Unit {0}) Fault
  pub formatted : Meaning
  pub formats : Formats S h.levels m (report_by made 0) formatted
  pub format_kept : Keeps S (cold_in m) (format h.levels) (report_by made 0) (cold_in formatted)
  pub up : Result (Unit {0}) Fault
  pub brought_up : Meaning
  pub chip : Chip
  pub brings_up : BringsUp S h.slots formatted (report_by up 0) brought_up (world_in brought_up chip)
  pub bring_up_kept : Keeps S (cold_in formatted) (bring_up h.slots S.number) (report_by up 0) (world_in brought_up chip)
  pub prints : Table S h ls made brought_up chip out

-- The suite of a header under its keys, of the two that the bench has.
abbrev pub scheme_of : Header SuiteKind → Scheme
scheme_of h = scheme_under h.suite h.keys.mac h.keys.pad

-- Memory of these words with a register of zeros, under a fuse.
abbrev pub on_memory : List ℕ → Option ℕ → Meaning
on_memory ws left = fused (memory ws (replicate 32 0)) left

-- The words of 584 lines, all zero.
unfoldable pub blank : List ℕ
blank = replicate (9 * 584) 0

-- What is printed once the header is read: the number of a line that is missing or unreadable, or what the script prints on a blank memory.
abbrev pub AfterHeader : Outcome (Header SuiteKind) → List ℕ → Type 0
AfterHeader (Err e) out = out ≡ bad e.number
AfterHeader (Ok p) out = Run (scheme_of p.0) p.0 (lines_of p.1.now) (on_memory blank p.0.fuse) out

-- What is printed for all lines of the input. The suites are 1 and 2.
unfoldable pub Printed : List (List ℕ) → List ℕ → Type 0
Printed ls out = (r : Outcome (Header SuiteKind)) × HeaderReadAs ((1, Sip) ∷ (2, Cmac) ∷ []) ls r × AfterHeader r out
