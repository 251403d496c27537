use Rattle.std.proofs.Common.{sym, subst}
use Rattle.machine.specs.Layout.{eight_ary, lines_of}
use Rattle.machine.specs.Plans.{evict_until}
use Rattle.tree.specs.SlotTable.{table_in}
use Rattle.controller.specs.Views.{view_in}
use Rattle.controller.specs.Runs.{Went, ended}
use Rattle.controller.specs.Worlds.{world_by, report_by, call_check, RunsAs, flush_plan}
use Rattle.controller.proofs.Doing.{does_flush, fitted_flush}
use Rattle.controller.proofs.open.Open.flush_counted.Goals as goal

pub returns-clause-does : goal.returns-clause-does
returns-clause-does g c =
    let s = c.args.self.now in
    let m = g.B.Board.meaning s.board in
    let K = g.S.Suite.scheme s.suite in
    let t = table_in s.chip.slots in
    let l = c.in_ok-layout.layout in
    let p = c.in_ok-layout.ensures in
    let s₁ = c.fit_slots.new.slots in
    let s₂ = c.evict_until-r.new.self in
    let m' = g.B.Board.meaning s₂.board in
    let t' = table_in s₂.chip.slots in
    let k = c.evict_until-r.new.commits in
    let o = ended c.evict_until-r.result in
    let cap = s.chip.capacity in
    let went = subst (λ n. Went (evict_until (eight_ary s₁.layout.levels) K 0 (lines_of s₁.layout.levels) (view_in m (table_in s₁))) m o m' t' n k) c.requires c.evict_until-r.ensures.went in
    let done = does_flush K m cap t s.chip.slots.layout.levels s.chip.slots.used s.chip.latched p.0 l.levels p.1.1 p.1.0 m' t' k c.evict_until-r.result c.answer.result c.answer.ensures c.latch-self.result c.latch-self.ensures (fitted_flush K m t (table_in s₁) l.levels s₁.layout.levels c.fit_slots.ensures.table c.fit_slots.ensures.levels o m' t' 0 k went) in
    subst (λ n. RunsAs s.chip.latched (call_check m s.chip.slots.layout.levels s.chip.slots.used) m cap t (flush_plan K m s.chip) (report_by c.answer.result k) m' (world_by m' c.latch-self.result n t')) (sym c.evict_until-r.ensures.rest.capacity) done
