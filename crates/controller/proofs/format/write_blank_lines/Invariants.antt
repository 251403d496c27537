use Rattle.std.proofs.Common.{◌≡◌, length}
use mathlib.Core.Option.{none}
use Rattle.machine.specs.Plans.{blank_lines}
use Rattle.machine.specs.Layouts.{shape_in}
use Rattle.controller.specs.Runs.{Wrote}
use Rattle.controller.proofs.format.write_blank_lines.Given as goal

abbrev pub invariant-loop-at : goal.invariant-loop-at
invariant-loop-at g l =
    Wrote (blank_lines (shape_in l.layout) (g.S.Suite.scheme l.suite) l.at) (g.B.Board.meaning l.initial.board) none (g.B.Board.meaning l.board)
    × (length (g.B.Board.meaning l.board).lines ≡ length (g.B.Board.meaning l.initial.board).lines)
    × ((g.B.Board.meaning l.board).register ≡ (g.B.Board.meaning l.initial.board).register)
