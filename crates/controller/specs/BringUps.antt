-- Bring-up: the checks before any write, the journal's line written back, and how the call ends.
use Rattle.std.specs.Prelude.{◌≡◌, ℕ, ◌≤◌, true, length, Some, None, Ok, Err, Result, ◌≢◌}
use Rattle.std.proofs.Math.Option.{Option, some, none}
use Rattle.board.specs.Meaning.{Meaning}
use Rattle.suite.specs.Scheme.{Scheme}
use Rattle.machine.specs.Layout.{eight_ary}
use Rattle.machine.specs.Store.{Log}
use Rattle.machine.specs.Words.{row, register_in, state_in}
use Rattle.machine.specs.Faults.{Fault as Why}
use Rattle.machine.specs.Plans.{map_count}
use Rattle.machine.specs.History.{latched, World, bring_up, Answer, done, refused, journal_writes, journal_in, bring_up_check, BroughtUp}
use Rattle.machine.specs.declared.layout.Layout.{Layout}
use Rattle.controller.specs.declared.types.Fault.{Fault}
use Rattle.controller.specs.declared.chip.Chip.{Chip}
use Rattle.controller.specs.Views.{fault_of, Fits}
use Rattle.controller.specs.Runs.{Wrote}
use Rattle.controller.specs.Worlds.{cold_in, world_in, Keeps}

-- A board of h levels that passed the checks of bring-up with so many slots.
pub record Passed (h cap : ℕ) (m : Meaning) : Type 0 where
  pub some_slots : 1 ≤ cap
  pub few_slots : cap ≤ 64
  pub fits : Fits h m
  pub few_dirty : map_count (eight_ary h) (register_in m.register) ≤ cap
  pub journal : journal_in (eight_ary h) (register_in m.register).journal ≡ true

-- What the checks before any write answer: the layout of a board that passed, or the fault.
abbrev pub Checked : Option Why → ℕ → Meaning → Result Layout Fault → Type 0
Checked z cap m (Ok l) = (z ≡ none) × Passed l.levels cap m
Checked z cap m (Err f) = z ≡ some (fault_of f)

-- The journal's line was written back on board m, unless power was lost: that ended in fault o, if any, and left m'.
pub record WrittenBack (m : Meaning) (o : Option Why) (m' : Meaning) : Type 0 where
  pub wrote : Wrote (journal_writes (register_in m.register).journal) m o m'
  pub words : m'.register ≡ m.register
  pub long : length m'.lines ≡ length m.lines

-- A bring-up refused before any write, or one that wrote the journal's line, if power lasted, and recovered.
abbrev pub BringsAs : Scheme → ℕ → Option Why → Meaning → Answer → Meaning → World → Type 0
BringsAs S cap (some y) m x m' w' = (x ≡ refused y 0) × (m' ≡ m) × (w' ≡ record { board = state_in m; chip = latched y })
BringsAs S cap none m x m' w' = (m'.register ≡ m.register) × ((l : Log) → BroughtUp eight_ary S cap (state_in m) none l x w' l)

-- What bring-up with so many slots does on any board, in a history or not.
abbrev pub BringsUp : Scheme → ℕ → Meaning → Answer → Meaning → World → Type 0
BringsUp S cap m x m' w' = BringsAs S cap (bring_up_check eight_ary cap S.number (state_in m)) m x m' w'

-- What came of a bring-up: the chip of a board that was accepted, or the fault.
abbrev pub Brought : Scheme → ℕ → Meaning → Result Chip Fault → Meaning → Type 0
Brought S cap m (Ok c) m' = BringsUp S cap m (done 0) m' (world_in m' c) × (c.latched ≡ None) × (c.slots.layout.levels ≡ row m.register 1)
Brought S cap m (Err f) m' = BringsUp S cap m (refused (fault_of f) 0) m' (record { board = state_in m'; chip = latched (fault_of f) })

-- The chip of an open board or one with the fault latched, and the answer.
abbrev pub Settled : Result Chip Fault → Chip → Result (Unit {0}) Fault → Type 0
Settled (Ok c) c' r = (c' ≡ c) × (r ≡ Ok tt)
Settled (Err f) c' r = (c'.latched ≡ Some f) × (r ≡ Err f)

-- The chip that a bring-up leaves: its slots are of the board's levels, or the fault is latched.
abbrev pub ChipLeft : Meaning → Result (Unit {0}) Fault → Chip → Type 0
ChipLeft m (Ok _) c = (c.latched ≡ None) × (c.slots.layout.levels ≡ row m.register 1)
ChipLeft m (Err f) c = c.latched ≡ Some f

-- The same bring-up in the history of a board whose own suite has another number.
abbrev pub KeepsOthers : Scheme → ℕ → Meaning → Answer → World → Type 0
KeepsOthers S cap m x w' = (K : Scheme) → (K.number ≢ S.number) → Keeps K (cold_in m) (bring_up cap S.number) x w'
