use Rattle.std.proofs.Common.{◌≡◌, ℕ, ◌<◌}
use mathlib.Core.Option.{none}
use Rattle.machine.specs.Plans.{evict_until}
use Rattle.machine.specs.Layouts.{shape_in}
use Rattle.tree.specs.SlotTable.{table_in}
use Rattle.controller.specs.Views.{view_in, Fits}
use Rattle.controller.specs.Registers.{Rest}
use Rattle.controller.proofs.EvictTurns.{turns_left, Turns}
use Rattle.controller.proofs.open.Open.evict_until.Given as goal

abbrev pub invariant-loop-self : goal.invariant-loop-self
invariant-loop-self g l =
    let s = l.initial.self in
    let T = shape_in s.chip.slots.layout in
    let S = g.S.Suite.scheme s.suite in
    let m = g.B.Board.meaning s.board in
    let t = table_in s.chip.slots in
    record {
      fits : Fits l.self.chip.slots.layout.levels (g.B.Board.meaning l.self.board);
      rest : Rest s.suite s.chip l.self.suite l.self.chip;
      turns : Turns s.chip.slots.layout.levels S l.keep (evict_until T S l.keep T.lines (view_in m t)) m l.initial.commits (g.B.Board.meaning l.self.board) (table_in l.self.chip.slots) l.commits;
      leaves : (q : ℕ) → q < T.parent T.data_lines → t q ≡ none → table_in l.self.chip.slots q ≡ none;
    }

abbrev pub decreases-loop-self : goal.decreases-loop-self
decreases-loop-self g l = turns_left l.self.chip.slots.layout.levels (table_in l.self.chip.slots)
