use Rattle.std.proofs.Common.{◌+◌, ◌≤◌, length, string_bytes}
use Rattle.std.specs.Iterator.Adapters.{zip_first, zip_second}
use Rattle.text.specs.Spelling.{lines_of}
use Rattle.seal.proofs.Rows.{SoFar}
use Rattle.seal.proofs.running.print_rows.Given as goal

abbrev pub invariant-loop-number : goal.invariant-loop-number
invariant-loop-number g l =
    let next = (zip_first l.number-iterator).start in
    let left = lines_of (zip_second l.number-iterator).text.now in
    (goal.iterator-loop-number g).can_next l.number-iterator
    × (goal.iterator-loop-number g).is_finite l.number-iterator
    × SoFar (g.S.Suite.scheme l.suite) (lines_of l.text) left next (string_bytes l.initial.out) (string_bytes l.out)
    × (next + length left ≤ 3 + length (lines_of l.text))
