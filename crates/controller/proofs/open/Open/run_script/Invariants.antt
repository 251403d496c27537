use Rattle.std.proofs.Common.{◌≡◌, length, take, drop}
use Rattle.controller.specs.Worlds.{world_in}
use Rattle.controller.specs.Scripts.{Plays, DoesAll}
use Rattle.controller.proofs.open.Open.run_script.Given as goal

abbrev pub invariant-loop-i : goal.invariant-loop-i
invariant-loop-i g l =
    Plays (g.S.Suite.scheme l.initial.current.suite) l.slots (world_in (g.B.Board.meaning l.initial.current.board) l.initial.current.chip) (take l.i l.played) (take l.i l.replies) (world_in (g.B.Board.meaning l.current.board) l.current.chip)
    × DoesAll (g.S.Suite.scheme l.initial.current.suite) l.slots (g.B.Board.meaning l.initial.current.board) l.initial.current.chip (take l.i l.played) (take l.i l.replies) (g.B.Board.meaning l.current.board) l.current.chip
    × (l.current.suite ≡ l.initial.current.suite)
    × (length l.replies ≡ length l.initial.replies)
    × (drop l.i l.replies ≡ drop l.i l.initial.replies)
