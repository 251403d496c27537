use Rattle.std.proofs.Common.{subst}
use Rattle.std.proofs.lemmas.Result.{err_from_is_err_and}
use Rattle.machine.specs.Words.{row}
use Rattle.machine.specs.Plans.{Run, counter_of}
use Rattle.machine.specs.Layouts.{shape_in}
use Rattle.tree.specs.SlotTable.{table_in}
use Rattle.controller.specs.Views.{view_in, tree_fault}
use Rattle.controller.specs.Runs.{Went, ended}
use Rattle.controller.proofs.EvictSteps.{went_refused, next_kept, next_within}
use Rattle.controller.proofs.WriteSteps.{stops, goes, next_small_here}
use Rattle.controller.proofs.open.Open.commit.Goals as goal

pub returns-in_err-counter-clause-went : goal.returns-in_err-counter-clause-went
returns-in_err-counter-clause-went g c =
    let p = err_from_is_err_and c.from_residual.result c.from_residual.ensures.1 in
    let s = c.args.self.now in
    let h = s.chip.slots.layout.levels in
    let K = g.S.Suite.scheme s.suite in
    let M = g.B.Board.meaning s.board in
    let T = table_in s.chip.slots in
    let x = tree_fault c.in_err-counter.field-0.0 in
    let e = c.in_err-counter.ensures in
    rw (p.1, p.2) (went_refused M T x c.args.commits.now (stops h K M T c.args.at (row c.args.words.now) x e) (next_kept h K (view_in M T) c.args.at x e))

pub commit_under-requires : goal.commit_under-requires
commit_under-requires g c =
    let s = c.args.self.now in
    let K = g.S.Suite.scheme s.suite in
    let M = g.B.Board.meaning s.board in
    let T = table_in s.chip.slots in
    let e = c.in_ok-counter.ensures in
    let now = counter_of (shape_in s.chip.slots.layout) K (view_in M T) c.args.at in
    record {
      place = (c.requires.place.0, (c.requires.place.1, (next_within c.args.at c.in_ok-counter.counter now e).0));
      room = (c.requires.room.0, next_small_here s.chip.slots.layout.levels K M T c.args.at c.requires.place.0 c.requires.place.1 c.in_ok-counter.counter e);
      countable = c.requires.room.1;
    }

pub returns-clause-went : goal.returns-clause-went
returns-clause-went g c =
    let s = c.args.self.now in
    let M = g.B.Board.meaning s.board in
    let s₂ = c.commit_under.new.self in
    subst (λ (r : Run). Went r M (ended c.commit_under.result) (g.B.Board.meaning s₂.board) (table_in s₂.chip.slots) c.args.commits.now c.commit_under.new.commits) (goes s.chip.slots.layout.levels (g.S.Suite.scheme s.suite) M (table_in s.chip.slots) c.args.at (row c.args.words.now) c.in_ok-counter.counter c.in_ok-counter.ensures) c.commit_under.ensures.went
