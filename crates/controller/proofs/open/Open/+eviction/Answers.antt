use Rattle.std.proofs.Common.{◌<◌, sym, refl, ap, ◌∙◌, subst, arith, rules}
use mathlib.Core.Option.{none}
use Rattle.std.proofs.lemmas.Result.{err_from_is_err_and}
use Rattle.machine.specs.Plans.{Run, is_dirty, evict_now}
use Rattle.machine.specs.Layouts.{shape_in}
use Rattle.tree.specs.SlotTable.{table_in}
use Rattle.machine.specs.declared.layout.Layout.{Layout}
use Rattle.controller.specs.Views.{view_in}
use Rattle.controller.specs.Runs.{Went, ended}
use Rattle.controller.proofs.SlotFacts.{beyond_clean, dirty_within}
use Rattle.controller.proofs.Chains.{went_both, went_first, of_before, of_after}
use Rattle.controller.proofs.EvictSteps.{overdue_dirty, parent_is, above, evict_steps, left_rested, left_below}
use Rattle.controller.proofs.EvictTurns.{went_stay}
use Rattle.controller.proofs.WriteSteps.{overdue_stays}
use Rattle.controller.proofs.open.Open.+eviction.Goals as goal

pub evict-evict_overdue-requires : goal.evict-evict_overdue-requires
evict-evict_overdue-requires g t c κs within =
    let up = above c.requires.node.0 c.requires.node.1.0 (parent_is c.args.at c.layout.ensures c.parent-parent.ensures) in
    search rules

pub evict-returns-in_err-evict_overdue-clause-tally : goal.evict-returns-in_err-evict_overdue-clause-tally
evict-returns-in_err-evict_overdue-clause-tally g t c =
    let up = above c.requires.node.0 c.requires.node.1.0 (parent_is c.args.at c.layout.ensures c.parent-parent.ensures) in
    omega (arith, up)

pub evict-returns-in_err-evict_overdue-clause-went : goal.evict-returns-in_err-evict_overdue-clause-went
evict-returns-in_err-evict_overdue-clause-went g t c =
    let x = err_from_is_err_and c.from_residual.result c.from_residual.ensures.1 in
    let s = c.args.self.now in
    let q = parent_is c.args.at c.layout.ensures c.parent-parent.ensures in
    let steps = evict_steps s.chip.slots.layout.levels (g.S.Suite.scheme s.suite) (g.B.Board.meaning s.board) (table_in s.chip.slots) c.args.at c.requires.node.0 c.requires.node.1.0 c.parent-parent.result q (beyond_clean s.chip.slots c.parent-parent.result) in
    rw (x.1, x.2) (went_first _ steps c.in_err-evict_overdue.ensures.went)

pub evict-evict_now-requires-clause-node : goal.evict-evict_now-requires-clause-node
evict-evict_now-requires-clause-node g t c =
    let up = above c.requires.node.0 c.requires.node.1.0 (parent_is c.args.at c.layout.ensures c.parent-parent.ensures) in
    let d = c.in_ok-evict_overdue.ensures in
    (d.fits, (of_after d.rest (λ s (y : Layout). c.args.at < (shape_in y).lines) c.requires.node.1.0, ap is_dirty (d.below refl c.args.at up) ∙ c.requires.node.1.1))

pub evict-evict_now-requires-clause-countable : goal.evict-evict_now-requires-clause-countable
evict-evict_now-requires-clause-countable g t c =
    let up = above c.requires.node.0 c.requires.node.1.0 (parent_is c.args.at c.layout.ensures c.parent-parent.ensures) in
    omega (arith, up, c.in_ok-evict_overdue.ensures.tally, c.requires.countable, c.requires.node.1.0)

pub evict-returns-clause-tally : goal.evict-returns-clause-tally
evict-returns-clause-tally g t c =
    let up = above c.requires.node.0 c.requires.node.1.0 (parent_is c.args.at c.layout.ensures c.parent-parent.ensures) in
    omega (arith, up, c.in_ok-evict_overdue.ensures.tally, c.evict_now.ensures.tally, c.requires.node.1.0)

pub evict-returns-clause-went : goal.evict-returns-clause-went
evict-returns-clause-went g t c =
    let s = c.args.self.now in
    let q = parent_is c.args.at c.layout.ensures c.parent-parent.ensures in
    let steps = evict_steps s.chip.slots.layout.levels (g.S.Suite.scheme s.suite) (g.B.Board.meaning s.board) (table_in s.chip.slots) c.args.at c.requires.node.0 c.requires.node.1.0 c.parent-parent.result q (beyond_clean s.chip.slots c.parent-parent.result) in
    let M₁ = g.B.Board.meaning c.evict_overdue.new.self.board in
    let M₂ = g.B.Board.meaning c.evict_now.new.self.board in
    let v₁ = view_in M₁ (table_in c.evict_overdue.new.self.chip.slots) in
    let d = c.in_ok-evict_overdue.ensures in
    went_both _ steps d.went (of_before d.rest (λ z (y : Layout). Went (evict_now (shape_in y) (g.S.Suite.scheme z) v₁ c.args.at) M₁ (ended c.evict_now.result) M₂ (table_in c.evict_now.new.self.chip.slots) c.evict_overdue.new.commits c.evict_now.new.commits) c.evict_now.ensures.went)

pub evict_overdue-evict-requires : goal.evict_overdue-evict-requires
evict_overdue-evict-requires g t c κs within =
    let s = c.args.self.now.chip.slots in
    let held = overdue_dirty (table_in s c.args.at) (sym c.if-overdue.true ∙ c.overdue.ensures) in
    let low = dirty_within s c.args.at held in
    search rules

pub evict_overdue-returns-then-overdue-clause-rested : goal.evict_overdue-returns-then-overdue-clause-rested
evict_overdue-returns-then-overdue-clause-rested g t c =
    let s = c.args.self.now.chip.slots in
    let low = dirty_within s c.args.at (overdue_dirty (table_in s c.args.at) (sym c.if-overdue.true ∙ c.overdue.ensures)) in
    left_rested s.layout.levels c.args.at (g.B.Board.meaning c.args.self.now.board) c.requires.fits low (table_in s) (table_in c.evict.new.self.chip.slots) (ended c.evict.result) c.evict.ensures.out

pub evict_overdue-returns-then-overdue-clause-below : goal.evict_overdue-returns-then-overdue-clause-below
evict_overdue-returns-then-overdue-clause-below g t c =
    let s = c.args.self.now.chip.slots in
    let low = dirty_within s c.args.at (overdue_dirty (table_in s c.args.at) (sym c.if-overdue.true ∙ c.overdue.ensures)) in
    left_below s.layout.levels c.args.at (g.B.Board.meaning c.args.self.now.board) c.requires.fits low (table_in s) (table_in c.evict.new.self.chip.slots) (ended c.evict.result) c.evict.ensures.out

pub evict_overdue-returns-else-overdue-clause-went : goal.evict_overdue-returns-else-overdue-clause-went
evict_overdue-returns-else-overdue-clause-went g t c =
    let s = c.args.self.now in
    let M = g.B.Board.meaning s.board in
    let T = table_in s.chip.slots in
    let n = c.args.commits.now in
    subst (λ (r : Run). Went r M none M T n n) (overdue_stays s.chip.slots.layout.levels (g.S.Suite.scheme s.suite) M T c.args.at (sym c.if-overdue.false ∙ c.overdue.ensures)) (went_stay M T n)
