use Rattle.std.proofs.Common.{◌<◌, false, sym, refl, ap, ◌∙◌, subst, arith}
use Rattle.std.proofs.lemmas.Result.{err_from_is_err_and}
use Rattle.std.proofs.lemmas.Bool.{both_ways}
use Rattle.machine.specs.Words.{row, memory_in, register_in}
use Rattle.machine.specs.Plans.{Run, is_dirty, counter_of, commit_under}
use Rattle.machine.specs.Layouts.{shape_in}
use Rattle.tree.specs.SlotTable.{table_in}
use Rattle.machine.specs.declared.layout.Layout.{Layout}
use Rattle.controller.specs.Views.{view_in, tree_fault, Fits}
use Rattle.controller.specs.Runs.{Went, ended}
use Rattle.controller.specs.Registers.{RoomAt, SmallAt}
use Rattle.controller.proofs.EvictSteps.{went_refused, next_kept, next_within, now_stops, now_commits, room_after, next_small_after, left_after}
use Rattle.controller.proofs.open.Open.evict_now.Goals as goal

pub returns-in_err-counter-clause-went : goal.returns-in_err-counter-clause-went
returns-in_err-counter-clause-went g c =
    let p = err_from_is_err_and c.from_residual.result c.from_residual.ensures.1 in
    let s = c.args.self.now in
    let h = s.chip.slots.layout.levels in
    let K = g.S.Suite.scheme s.suite in
    let M = g.B.Board.meaning s.board in
    let T = table_in s.chip.slots in
    let x = tree_fault c.in_err-counter.field-0.0 in
    let e = c.in_err-counter.ensures in
    rw (p.1, p.2) (went_refused M T x c.args.commits.now (now_stops h K M T c.args.at x e) (next_kept h K (view_in M T) c.args.at x e))

pub unreachable-requires : goal.unreachable-requires
unreachable-requires g c = both_ways false refl (ap is_dirty (sym c.in_default.ensures.0) ∙ c.requires.node.1.1)

pub commit_under-requires : goal.commit_under-requires
commit_under-requires g c =
    let s = c.args.self.now in
    let h = s.chip.slots.layout.levels in
    let K = g.S.Suite.scheme s.suite in
    let M = g.B.Board.meaning s.board in
    let T = table_in s.chip.slots in
    let a = c.args.at in
    let F = c.requires.node.0 in
    let k = c.requires.node.1.0 in
    let s₁ = c.remove.new.self in
    let d = c.in-Some.ensures in
    let e = c.in_ok-counter.ensures in
    let n = c.in_ok-counter.counter in
    let now = counter_of (shape_in s.chip.slots.layout) K (view_in M T) a in
    let back = sym d.4 in
    record {
      place = (subst (λ (y : Layout). Fits y.levels M) back F, (subst (λ (y : Layout). a < (shape_in y).lines) back k, (next_within a n now e).0));
      room = (
        subst (λ (y : Layout). RoomAt (shape_in y) a s₁.used (table_in s₁)) back (room_after h K M T a F k (table_in s₁) s₁.used d.2 c.requires.parent (omega (arith, d.3, s.chip.slots.few))),
        subst (λ (y : Layout). SmallAt (shape_in y) a (view_in M (table_in s₁))) back (next_small_after h K M T a F k n e (table_in s₁) d.2),
      );
      countable = c.requires.countable;
    }

pub returns-clause-went : goal.returns-clause-went
returns-clause-went g c =
    let s = c.args.self.now in
    let M = g.B.Board.meaning s.board in
    let K = g.S.Suite.scheme s.suite in
    let a = c.args.at in
    let d = c.in-Some.ensures in
    let n = c.in_ok-counter.counter in
    let f = row c.in-Some.counters in
    let T₁ = table_in c.remove.new.self in
    let s₂ = c.commit_under.new.self in
    let M₂ = g.B.Board.meaning s₂.board in
    let T₂ = table_in s₂.chip.slots in
    let o = ended c.commit_under.result in
    let went = subst (λ (y : Layout). Went (commit_under (shape_in y) K (memory_in M.lines) (register_in M.register) T₁ a f n) M o M₂ T₂ c.args.commits.now c.commit_under.new.commits) d.4 c.commit_under.ensures.went in
    subst (λ (r : Run). Went r M o M₂ T₂ c.args.commits.now c.commit_under.new.commits) (now_commits s.chip.slots.layout.levels K M (table_in s.chip.slots) a n c.in_ok-counter.ensures T₁ d.2 f d.1) went

pub returns-clause-out : goal.returns-clause-out
returns-clause-out g c =
    let s = c.args.self.now in
    let M = g.B.Board.meaning s.board in
    let K = g.S.Suite.scheme s.suite in
    let a = c.args.at in
    let d = c.in-Some.ensures in
    let n = c.in_ok-counter.counter in
    let f = row c.in-Some.counters in
    let T₁ = table_in c.remove.new.self in
    let s₂ = c.commit_under.new.self in
    let M₂ = g.B.Board.meaning s₂.board in
    let T₂ = table_in s₂.chip.slots in
    let o = ended c.commit_under.result in
    let went = subst (λ (y : Layout). Went (commit_under (shape_in y) K (memory_in M.lines) (register_in M.register) T₁ a f n) M o M₂ T₂ c.args.commits.now c.commit_under.new.commits) d.4 c.commit_under.ensures.went in
    left_after s.chip.slots.layout.levels K M (table_in s.chip.slots) a c.requires.node.0 c.requires.node.1.0 T₁ d.2 f n o M₂ T₂ c.args.commits.now c.commit_under.new.commits went
