-- How the definitions see what the code holds: faults, outcomes, and a board with the lines of its levels.
use Rattle.std.specs.Prelude.{true, false, ◌≡◌, ℕ, ◌<◌, ◌≤◌, Bool, ◌&&◌, List, length, Ok, Err, Result, slice_index_or}
use Rattle.board.specs.Meaning.{Meaning}
use Rattle.board.specs.declared.types.Line.{Line as Stored}
use Rattle.board.specs.declared.types.BoardFault.{BoardFault}
use Rattle.board.specs.declared.types.BoardFault.TheVariants.{Absent, PowerLost}
use Rattle.suite.specs.Scheme.{Body, Line, Scheme, right}
use Rattle.machine.specs.Layout.{Shape, lines_of}
use Rattle.machine.specs.Words.{line_in, row, no_line, memory_in, register_in}
use Rattle.machine.specs.Faults.{fault, Outcome, ok, err, not_data, bad_size, too_few_lines, invalid_register, already_formatted, other_suite, too_many_dirty, corrupt, sum_mismatch, power_lost, at_limit}
use Rattle.machine.specs.Faults.{Fault as Why}
use Rattle.machine.specs.Plans.{Table, View}
use Rattle.machine.specs.Layouts.{shape_in}
use Rattle.tree.specs.SlotTable.{table_in}
use Rattle.machine.specs.Layout.{all_within}
use Rattle.controller.specs.declared.chip.Chip.{Chip}
use Rattle.controller.specs.declared.types.LineFault.{LineFault}
use Rattle.controller.specs.declared.types.Layer.{Layer}
use Rattle.controller.specs.declared.types.Layer.TheVariants.{Board as OfBoard, Tree as OfTree, Controller as OfController}
use Rattle.controller.specs.declared.types.TreeFault.{TreeFault}
use Rattle.controller.specs.declared.types.TreeFault.TheVariants.{Board, Corrupt, AtLimit, SumMismatch}
use Rattle.controller.specs.declared.types.Fault.{Fault}
use Rattle.controller.specs.declared.types.Fault.TheVariants.{Tree, NotData, BadLevels, BadSlots, TooFewLines, InvalidRegister, AlreadyFormatted, OtherSuite, TooManyDirty}

-- A board's fault: power lost at the line in hand, or a line that is missing.
abbrev pub board_fault : BoardFault → ℕ → Why
board_fault Absent a = fault too_few_lines 0
board_fault PowerLost a = fault power_lost a

-- A fault of the tree by its cause and place.
abbrev pub tree_fault : TreeFault → Why
tree_fault (Board p) = board_fault p.fault p.line
tree_fault (Corrupt a) = fault corrupt a
tree_fault (AtLimit a) = fault at_limit a
tree_fault SumMismatch = fault sum_mismatch 0

-- A fault by its cause and place.
abbrev pub fault_of : Fault → Why
fault_of (Tree f) = tree_fault f
fault_of (NotData a) = fault not_data a
fault_of BadLevels = fault bad_size 0
fault_of BadSlots = fault bad_size 0
fault_of TooFewLines = fault too_few_lines 0
fault_of InvalidRegister = fault invalid_register 0
fault_of AlreadyFormatted = fault already_formatted 0
fault_of OtherSuite = fault other_suite 0
fault_of TooManyDirty = fault too_many_dirty 0

-- The number of a layer: 1 the board, 2 the tree, 3 the controller.
abbrev pub layer_number : Layer → ℕ
layer_number OfBoard = 1
layer_number OfTree = 2
layer_number OfController = 3

-- A board's answer, its fault with the line in hand.
abbrev pub with_line : {T : Type 0} → Result T BoardFault → ℕ → Result T LineFault
with_line (Ok x) a = Ok x
with_line (Err f) a = Err (record { fault = f; line = a })

-- The line at an address, or that the board has none there.
abbrev pub LineAt : Meaning → ℕ → Result Stored LineFault → Type 0
LineAt m a (Ok l) = (a < length m.lines) × (l ≡ slice_index_or m.lines a no_line)
LineAt m a (Err f) = (length m.lines ≤ a) × (f ≡ record { fault = Absent; line = a })

-- What the controller says of the tree's answer.
abbrev pub controller_says : Result (Unit {0}) TreeFault → Result (Unit {0}) Fault
controller_says (Ok u) = Ok u
controller_says (Err f) = Err (Tree f)

-- A counter, or why there is none.
abbrev pub outcome_in : Result ℕ TreeFault → Outcome ℕ
outcome_in (Ok c) = ok c
outcome_in (Err f) = err (tree_fault f)

-- A body, or why there is none.
abbrev pub body_in : Result (List ℕ) TreeFault → Outcome Body
body_in (Ok ws) = ok (row ws)
body_in (Err f) = err (tree_fault f)

-- What a call on this board with these slots works on.
abbrev pub view_in : Meaning → Table → View
view_in m t = record { memory = memory_in m.lines; register = register_in m.register; table = t }

-- The layout of a chip's slots, as a shape.
abbrev pub shape_of : Chip → Shape
shape_of c = shape_in c.slots.layout

-- What a call on this board with this chip works on.
abbrev pub view_of : Meaning → Chip → View
view_of m c = view_in m (table_in c.slots)

-- The board has the lines of h levels, and its register says so.
pub record Fits (h : ℕ) (m : Meaning) : Type 0 where
  pub low : 1 ≤ h
  pub high : h ≤ 4
  pub enough : lines_of h ≤ length m.lines
  pub own : h ≡ row m.register 1

-- Whether a node's line has the right tag under the counter, and counters within the limit.
abbrev pub node_line_valid : Scheme → ℕ → ℕ → Line → Bool
node_line_valid S p c L = right S p c L && all_within L.words

-- The line of node a among these lines, which is valid under the counter, or that it is corrupt.
abbrev pub NodeLine : Scheme → ℕ → ℕ → List Stored → Result Stored TreeFault → Type 0
NodeLine S a c ls (Ok l) = (l ≡ slice_index_or ls a no_line) × (node_line_valid S a c (line_in l) ≡ true)
NodeLine S a c ls (Err f) = (f ≡ Corrupt a) × (node_line_valid S a c (line_in (slice_index_or ls a no_line)) ≡ false)
