use Rattle.std.proofs.Common.{◌≡◌, ℕ, ◌+◌, ◌^◌, ◌<◌, ◌≤◌}
use mathlib.Core.Option.{none}
use Rattle.machine.specs.Layout.{lines_of}
use Rattle.machine.specs.Words.{register_in}
use Rattle.machine.specs.Plans.{restore}
use Rattle.machine.specs.Layouts.{shape_in}
use Rattle.tree.specs.SlotTable.{table_in, no_slots}
use Rattle.controller.specs.Views.{view_in}
use Rattle.controller.specs.Restores.{map_below}
use Rattle.controller.proofs.restore.restore.Given as goal

-- What is left to restore gives what the whole does; the slots are of nodes from here up, and there is room for the rest.
abbrev pub invariant-loop-j : goal.invariant-loop-j
invariant-loop-j g l =
    (8 ^ l.layout.levels + l.below ≤ lines_of l.layout.levels)
    × (l.slots.layout ≡ l.layout)
    × ((p : ℕ) → p < 8 ^ l.layout.levels + l.below → table_in l.slots p ≡ none)
    × (l.slots.used + map_below (8 ^ l.layout.levels + l.below) (register_in (g.B.Board.meaning l.board).register) ≤ 64)
    × (restore (shape_in l.layout) (g.S.Suite.scheme l.suite) (8 ^ l.layout.levels + l.below) (view_in (g.B.Board.meaning l.board) (table_in l.slots))
    ≡ restore (shape_in l.layout) (g.S.Suite.scheme l.suite) (lines_of l.layout.levels) (view_in (g.B.Board.meaning l.board) no_slots))

abbrev pub decreases-loop-j : goal.decreases-loop-j
decreases-loop-j g l = l.below
