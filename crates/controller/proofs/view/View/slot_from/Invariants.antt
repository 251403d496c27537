use Rattle.std.proofs.Common.{◌≡◌, ℕ, ◌-◌, ◌*◌, ◌<◌, ◌≤◌, true, get_or}
use Rattle.machine.specs.Layout.{sum_to}
use Rattle.machine.specs.Words.{memory_in}
use Rattle.machine.specs.Plans.{child_counter, child_valid}
use Rattle.machine.specs.Layouts.{shape_in}
use Rattle.controller.proofs.view.View.slot_from.Given as goal

-- The counters below i are the children's, and the others the stored ones.
abbrev pub invariant-loop-i : goal.invariant-loop-i
invariant-loop-i g l =
    ((k : ℕ) → k < l.i → get_or l.counter-items k 0 ≡ child_counter (shape_in l.self.layout) (memory_in (g.B.Board.meaning l.self.board.now).lines) l.at k)
    × ((k : ℕ) → l.i ≤ k → get_or l.counter-items k 0 ≡ get_or l.stored k 0)
    × ((k : ℕ) → k < l.i → child_valid (shape_in l.self.layout) (g.S.Suite.scheme l.self.suite.now) (memory_in (g.B.Board.meaning l.self.board.now).lines) l.at k ≡ true)
    × (l.pending ≡ sum_to l.i (λ k. child_counter (shape_in l.self.layout) (memory_in (g.B.Board.meaning l.self.board.now).lines) l.at k - (memory_in (g.B.Board.meaning l.self.board.now).lines l.at).words k))
    × (l.pending ≤ l.i * 1023)
