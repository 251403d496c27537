use Rattle.std.proofs.Common.{◌≡◌, ◌+◌, ◌≤◌, length, string_bytes}
use Rattle.std.specs.Iterator.Adapters.{zip_first, zip_second}
use Rattle.text.specs.Spelling.{lines_of}
use Rattle.bench.proofs.Adding.{SoFar}
use Rattle.bench.proofs.playing.play_steps.Given as goal

abbrev pub invariant-loop-number : goal.invariant-loop-number
invariant-loop-number g l =
    let next = (zip_first l.number-iterator).start in
    let left = lines_of (zip_second l.number-iterator).text.now in
    (goal.iterator-loop-number g).can_next l.number-iterator
    × (goal.iterator-loop-number g).is_finite l.number-iterator
    × (l.open.suite ≡ l.initial.open.suite)
    × SoFar (g.S.Suite.scheme l.initial.open.suite) l.slots (lines_of l.text) (g.B.Board.meaning l.initial.open.board) l.initial.open.chip left next (g.B.Board.meaning l.open.board) l.open.chip l.copy (string_bytes l.initial.out) (string_bytes l.out)
    × (next + length left ≤ 1 + length (lines_of l.text))
