use Rattle.std.proofs.Common.{◌-◌, sym, ap, ◌∙◌, subst, arith}
use mathlib.Core.Option.{none}
use Rattle.std.proofs.lemmas.Result.{err_from_is_err_and}
use Rattle.machine.specs.Plans.{Run, evict_until}
use Rattle.machine.specs.Layouts.{shape_in}
use Rattle.tree.specs.SlotTable.{table_in}
use Rattle.machine.specs.declared.layout.Layout.{Layout}
use Rattle.controller.specs.Views.{view_in}
use Rattle.controller.specs.Runs.{Went, ended}
use Rattle.controller.specs.Registers.{Freed}
use Rattle.controller.proofs.Chains.{went_both, went_first, of_before}
use Rattle.controller.proofs.EvictSteps.{parent_is}
use Rattle.controller.proofs.EvictTurns.{went_stay}
use Rattle.controller.proofs.WriteSteps.{before_root, before_node, room_clean, roomy_clean, not_dirty, leaf_low}
use Rattle.controller.proofs.open.Open.make_room.Goals as goal

pub returns-then-leaf-lines-clause-went : goal.returns-then-leaf-lines-clause-went
returns-then-leaf-lines-clause-went g c =
    let s = c.args.self.now in
    let l = s.chip.slots.layout in
    let M = g.B.Board.meaning s.board in
    let T = table_in s.chip.slots in
    let n = c.args.commits.now in
    let q = parent_is c.args.at c.layout-layout.ensures c.parent-leaf.ensures in
    subst (λ (r : Run). Went r M none M T n n) (before_root l.levels (g.S.Suite.scheme s.suite) s.chip.capacity M T c.args.at c.parent-leaf.result q (omega (arith, c.lines.ensures.value, ap (λ (y : Layout). (shape_in y).lines) c.layout-layout.ensures))) (went_stay M T n)

pub returns-in_err-evict_overdue-clause-went : goal.returns-in_err-evict_overdue-clause-went
returns-in_err-evict_overdue-clause-went g c =
    let x = err_from_is_err_and c.from_residual.result c.from_residual.ensures.1 in
    let s = c.args.self.now in
    let q = parent_is c.args.at c.layout-layout.ensures c.parent-leaf.ensures in
    let steps = before_node s.chip.slots.layout.levels (g.S.Suite.scheme s.suite) s.chip.capacity (g.B.Board.meaning s.board) (table_in s.chip.slots) c.args.at c.parent-leaf.result q (omega (arith, c.lines.ensures.value, ap (λ (y : Layout). (shape_in y).lines) c.layout-layout.ensures)) in
    rw (x.1, x.2) (went_first _ steps c.in_err-evict_overdue.ensures.went)

pub returns-clause-went : goal.returns-clause-went
returns-clause-went g c =
    let s = c.args.self.now in
    let h = s.chip.slots.layout.levels in
    let K = g.S.Suite.scheme s.suite in
    let cap = s.chip.capacity in
    let p = c.parent-leaf.result in
    let s₁ = c.evict_overdue.new.self in
    let M₁ = g.B.Board.meaning s₁.board in
    let T₁ = table_in s₁.chip.slots in
    let n₁ = c.evict_overdue.new.commits in
    let M₂ = g.B.Board.meaning c.evict_until.new.self.board in
    let T₂ = table_in c.evict_until.new.self.chip.slots in
    let n₂ = c.evict_until.new.commits in
    let o = ended c.evict_until.result in
    let d = c.in_ok-evict_overdue.ensures in
    let q = parent_is c.args.at c.layout-layout.ensures c.parent-leaf.ensures in
    let steps = before_node h K cap (g.B.Board.meaning s.board) (table_in s.chip.slots) c.args.at p q (omega (arith, c.lines.ensures.value, ap (λ (y : Layout). (shape_in y).lines) c.layout-layout.ensures)) in
    let went = of_before d.rest (λ z (y : Layout). Went (evict_until (shape_in y) (g.S.Suite.scheme z) (s₁.chip.capacity - 1) (shape_in y).lines (view_in M₁ T₁)) M₁ o M₂ T₂ n₁ n₂) c.evict_until.ensures.went in
    let sized = subst (λ k. Went (evict_until (shape_in s.chip.slots.layout) K (k - 1) (shape_in s.chip.slots.layout).lines (view_in M₁ T₁)) M₁ o M₂ T₂ n₁ n₂) d.rest.capacity went in
    went_both _ steps d.went (subst (λ (r : Run). Went r M₁ o M₂ T₂ n₁ n₂) (room_clean h K cap M₁ T₁ c.args.at p q (sym c.if-holds.false ∙ c.holds.ensures)) sized)

pub returns-clause-roomy : goal.returns-clause-roomy
returns-clause-roomy g c =
    let s = c.args.self.now in
    let h = s.chip.slots.layout.levels in
    let K = g.S.Suite.scheme s.suite in
    let cap = s.chip.capacity in
    let p = c.parent-leaf.result in
    let s₁ = c.evict_overdue.new.self in
    let T₁ = table_in s₁.chip.slots in
    let s₂ = c.evict_until.new.self in
    let M₂ = g.B.Board.meaning s₂.board in
    let T₂ = table_in s₂.chip.slots in
    let o = ended c.evict_until.result in
    let d = c.in_ok-evict_overdue.ensures in
    let q = parent_is c.args.at c.layout-layout.ensures c.parent-leaf.ensures in
    let freed = of_before d.rest (λ z (y : Layout). Freed (shape_in y) (s₁.chip.capacity - 1) T₁ o s₂.chip.slots.used T₂) c.evict_until.ensures.freed in
    let leaf = leaf_low h K cap M₂ T₂ c.args.at p q s.chip.slots.layout.low s.chip.slots.layout.high c.requires.place.1 in
    λ e. roomy_clean h K cap M₂ T₂ c.args.at p q s₂.chip.slots.used ((freed e).1 p leaf (not_dirty h K cap M₂ T₁ c.args.at p q (sym c.if-holds.false ∙ c.holds.ensures))) (omega (arith, (freed e).0, s₁.chip.most, s₁.chip.some))
