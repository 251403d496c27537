-- Boards and chips as points of a history, and what the calls keep and do.
use Rattle.std.specs.Prelude.{◌≡◌, ℕ, ◌<◌, cond, ◌&&◌, ◌||◌, List, length, replicate, Some, None, Ok, Err, Option as Maybe, Result, ◌==◌, nat_le}
use Rattle.std.proofs.Math.Option.{Option, some, none}
use Rattle.board.specs.Meaning.{Meaning}
use Rattle.board.specs.declared.types.BoardFault.TheVariants.{Absent, PowerLost}
use Rattle.suite.specs.Scheme.{Body, Scheme}
use Rattle.machine.specs.Layout.{eight_ary, lines_of}
use Rattle.machine.specs.Store.{Log}
use Rattle.machine.specs.Words.{row, state_in}
use Rattle.machine.specs.Faults.{fault, too_few_lines, invalid_register}
use Rattle.machine.specs.Faults.{Fault as Why}
use Rattle.machine.specs.Plans.{Table, Run, read_call, write_call, flush_call}
use Rattle.machine.specs.History.{cold, opened, latched, World, Event, Answer, nothing, body_is, done, refused, read_answer, format_check, Ran, Formatted, Step, Reached}
use Rattle.machine.specs.History.{Chip as ChipState}
use Rattle.machine.specs.Promises.{Law, Promises}
use Rattle.tree.specs.SlotTable.{table_in}
use Rattle.machine.specs.declared.layout.Layout.{Layout}
use Rattle.controller.specs.declared.types.TreeFault.{TreeFault}
use Rattle.controller.specs.declared.types.TreeFault.TheVariants.{Board, Corrupt, AtLimit, SumMismatch}
use Rattle.controller.specs.declared.types.Fault.{Fault}
use Rattle.controller.specs.declared.types.Fault.TheVariants.{Tree}
use Rattle.controller.specs.declared.types.Report.{Report}
use Rattle.controller.specs.declared.chip.Chip.{Chip}
use Rattle.controller.specs.Views.{fault_of, view_in, Fits}
use Rattle.controller.specs.Registers.{new_words}

-- The chip by its latched fault, its number of slots and its slots.
abbrev pub chip_by : Maybe Fault → ℕ → Table → ChipState
chip_by (Some f) n t = latched (fault_of f)
chip_by None n t = opened n t

-- A board with an open chip, by the chip's parts.
abbrev pub world_by : Meaning → Maybe Fault → ℕ → Table → World
world_by m s n t = record { board = state_in m; chip = chip_by s n t }

-- A board with an open chip.
abbrev pub world_in : Meaning → Chip → World
world_in m c = world_by m c.latched c.capacity (table_in c.slots)

-- A board that is not brought up.
abbrev pub cold_in : Meaning → World
cold_in m = record { board = state_in m; chip = cold }

-- A body as an answer.
abbrev pub body_answer : Result (List ℕ) Fault → Answer
body_answer (Ok ws) = body_is (row ws)
body_answer (Err f) = refused (fault_of f) 0

-- A read's answer, with what it left in the caller's words.
abbrev pub read_in : Result (Unit {0}) Fault → List ℕ → Answer
read_in (Ok _) ws = body_is (row ws)
read_in (Err f) ws = refused (fault_of f) 0

-- A writing call's answer: done or refused, with the commits made.
abbrev pub report_by : Result (Unit {0}) Fault → ℕ → Answer
report_by (Ok _) n = done n
report_by (Err f) n = refused (fault_of f) n

-- The same of a report.
abbrev pub report_in : Report → Answer
report_in r = report_by r.outcome r.commits

-- One event of a history: it happened as the definitions say, it obeys its law, and what it left is reached and holds what is promised at every point: no counter used twice, the register and the slots as the log says.
pub record GoesOn (S : Scheme) (w : World) (l : Log) (e : Event) (x : Answer) (w' : World) (l' : Log) : Type 0 where
  pub step : Step eight_ary S w l e x w' l'
  pub law : Law eight_ary S w l w.chip e x w' l'
  pub reached : Reached eight_ary S w' l'
  pub holds : Promises eight_ary S w' l'

-- In every history that came to world w, event e with answer x goes on to w'.
abbrev pub Keeps : Scheme → World → Event → Answer → World → Type 0
Keeps S w e x w' = (l : Log) → Reached eight_ary S w l → (l' : Log) × GoesOn S w l e x w' l'

-- The same in every history of the board, under whatever suite, where a fault is latched: so it is in that of a board that was brought up under another suite's number.
abbrev pub KeepsLatched : Maybe Fault → World → Event → Answer → World → Type 0
KeepsLatched s w e x w' = (f : Fault) → s ≡ Some f → (K : Scheme) → Keeps K w e x w'

-- A refusal leaves zeros.
abbrev pub Cleared : Result (Unit {0}) Fault → List ℕ → Type 0
Cleared (Ok _) ws = Unit {0}
Cleared (Err f) ws = ws ≡ replicate 8 0

-- Only lost power latches.
abbrev pub latch_of : Result (Unit {0}) TreeFault → Maybe Fault
latch_of (Ok u) = None
latch_of (Err (Board p)) = elim p.fault [ Absent ↦ None | PowerLost ↦ Some (Tree (Board p)) ]
latch_of (Err (Corrupt a)) = None
latch_of (Err (AtLimit a)) = None
latch_of (Err SumMismatch) = None

-- Why an open board refuses a call before its steps: its register has no levels from 1 to 4, its lines are too few, or n slots in use are of other levels lv.
unfoldable pub call_check : Meaning → ℕ → ℕ → Option Why
call_check m lv n =
    cond (nat_le 1 (row m.register 1) && nat_le (row m.register 1) 4)
    (cond (nat_le (lines_of (row m.register 1)) (length m.lines))
    (cond (n == 0 || row m.register 1 == lv) none (some (fault invalid_register 0)))
    (some (fault too_few_lines 0)))
    (some (fault invalid_register 0))

-- The layout of a board that passes this check, or the fault.
abbrev pub LayoutFound : Meaning → ℕ → ℕ → Result Layout Fault → Type 0
LayoutFound m lv n (Ok l) = (call_check m lv n ≡ none) × Fits l.levels m × (0 < n → l.levels ≡ lv)
LayoutFound m lv n (Err f) = call_check m lv n ≡ some (fault_of f)

-- Why a call is refused before its steps: the latched fault, or what the check finds.
abbrev pub refusal : Maybe Fault → Option Why → Option Why
refusal (Some f) o = some (fault_of f)
refusal None o = o

-- The layout of a board that no call is refused on before its steps, or why one is.
abbrev pub Ready : Meaning → Chip → Result Layout Fault → Type 0
Ready m c (Ok l) = (c.latched ≡ None) × LayoutFound m c.slots.layout.levels c.slots.used (Ok l)
Ready m c (Err f) = refusal c.latched (call_check m c.slots.layout.levels c.slots.used) ≡ some (fault_of f)

-- The commits that an answer reports.
abbrev pub commits_of : Answer → ℕ
commits_of nothing = 0
commits_of (body_is b) = 0
commits_of (done n) = n
commits_of (refused r n) = n

-- A call on board m planned as run r: the latched fault, one before its steps, or what the run does while power lasts. Without a commit the register keeps its words.
abbrev pub RunsAs : Maybe Fault → Option Why → Meaning → ℕ → Table → Run → Answer → Meaning → World → Type 0
RunsAs (Some f) o m n t r x m' w' = (x ≡ refused (fault_of f) 0) × (m' ≡ m) × (w' ≡ world_by m (Some f) n t)
RunsAs None (some y) m n t r x m' w' = (x ≡ refused y 0) × (m' ≡ m) × (w' ≡ world_by m None n t)
RunsAs None none m n t r x m' w' = ((l : Log) → (l' : Log) × Ran n r (state_in m) l x w' l') × (commits_of x ≡ 0 → m'.register ≡ m.register)

-- What a call planned as run r does on any board and chip, in a history or not.
abbrev pub Does : Run → Meaning → Chip → Answer → Meaning → Chip → Type 0
Does r m c x m' c' =
    RunsAs c.latched (call_check m c.slots.layout.levels c.slots.used) m c.capacity (table_in c.slots) r x m' (world_in m' c')

-- The plan of a write.
abbrev pub write_plan : Scheme → Meaning → Chip → ℕ → Body → Run
write_plan S m c a b = write_call (eight_ary (row m.register 1)) S c.capacity (view_in m (table_in c.slots)) a b

-- The plan of a flush.
abbrev pub flush_plan : Scheme → Meaning → Chip → Run
flush_plan S m c = flush_call (eight_ary (row m.register 1)) S (view_in m (table_in c.slots))

-- What a read answers: the latched fault, one before its steps, or the plan's answer.
abbrev pub read_by : Maybe Fault → Option Why → Answer → Answer
read_by (Some f) o x = refused (fault_of f) 0
read_by None (some y) x = refused y 0
read_by None none x = x

-- What a read of address a answers on any board and chip, in a history or not.
abbrev pub read_of : Scheme → Meaning → Chip → ℕ → Answer
read_of S m c a =
    read_by c.latched (call_check m c.slots.layout.levels c.slots.used) (read_answer (read_call (eight_ary (row m.register 1)) S (view_in m (table_in c.slots)) a))

-- What format does that is refused before any write, or makes its writes while power lasts.
abbrev pub FormatsAs : Scheme → ℕ → Option Why → Meaning → Answer → Meaning → Type 0
FormatsAs S h (some y) m x m' = (x ≡ refused y 0) × (m' ≡ m)
FormatsAs S h none m x m' = (l : Log) → (l' : Log) × Formatted eight_ary S h (state_in m) none l x (cold_in m') l'

-- What format at h levels does on any board.
abbrev pub Formats : Scheme → ℕ → Meaning → Answer → Meaning → Type 0
Formats S h m x m' = FormatsAs S h (format_check eight_ary h (state_in m)) m x m'

-- The register's words after format: untouched if refused.
abbrev pub RegisterMade : {E : Type 0} → ℕ → ℕ → List ℕ → Result (Unit {0}) E → List ℕ → Type 0
RegisterMade h num ws (Ok _) ws' = ws' ≡ new_words h num
RegisterMade h num ws (Err f) ws' = ws' ≡ ws
