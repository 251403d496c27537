use Rattle.std.proofs.Common.{sym, subst, arith}
use Rattle.machine.specs.Layout.{eight_ary}
use Rattle.machine.specs.Faults.{fault, not_data}
use Rattle.machine.specs.Plans.{write_call}
use Rattle.machine.specs.History.{refused}
use Rattle.machine.specs.Words.{row}
use Rattle.tree.specs.SlotTable.{table_in}
use Rattle.controller.specs.Views.{view_in}
use Rattle.controller.specs.Runs.{Went, ended}
use Rattle.controller.specs.Worlds.{world_by, report_by, call_check, RunsAs, Does, write_plan}
use Rattle.controller.proofs.Doing.{does_beyond, does_write, fitted_write}
use Rattle.controller.proofs.open.Open.write_counted.Goals as goal

pub returns-then-at-data_lines-clause-does : goal.returns-then-at-data_lines-clause-does
returns-then-at-data_lines-clause-does g c =
    let s = c.args.self.now in
    let m = g.B.Board.meaning s.board in
    let K = g.S.Suite.scheme s.suite in
    let b = row c.args.body.now in
    let p = c.in_ok-layout.ensures in
    subst (λ n. Does (write_plan K m s.chip c.args.at b) m s.chip (refused (fault not_data c.args.at) n) m s.chip) (sym c.requires) (does_beyond K m s.chip.capacity (table_in s.chip.slots) s.chip.slots.layout.levels s.chip.slots.used s.chip.latched p.0 c.in_ok-layout.layout.levels p.1.1 p.1.0 c.args.at b (omega (arith, c.if-at-data_lines.true, c.data_lines.ensures.value)))

pub returns-clause-does : goal.returns-clause-does
returns-clause-does g c =
    let s = c.args.self.now in
    let m = g.B.Board.meaning s.board in
    let K = g.S.Suite.scheme s.suite in
    let t = table_in s.chip.slots in
    let b = row c.args.body.now in
    let l = c.in_ok-layout.layout in
    let p = c.in_ok-layout.ensures in
    let s₁ = c.fit_slots.new.slots in
    let s₂ = c.write_data-r.new.self in
    let m' = g.B.Board.meaning s₂.board in
    let t' = table_in s₂.chip.slots in
    let k = c.write_data-r.new.commits in
    let o = ended c.write_data-r.result in
    let cap = s.chip.capacity in
    let went = subst (λ n. Went (write_call (eight_ary s₁.layout.levels) K cap (view_in m (table_in s₁)) c.args.at b) m o m' t' n k) c.requires c.write_data-r.ensures.went in
    let done = does_write K m cap t s.chip.slots.layout.levels s.chip.slots.used s.chip.latched p.0 l.levels p.1.1 p.1.0 m' t' k c.write_data-r.result c.answer.result c.answer.ensures c.latch-self.result c.latch-self.ensures c.args.at b (fitted_write K cap m t (table_in s₁) l.levels s₁.layout.levels c.fit_slots.ensures.table c.fit_slots.ensures.levels c.args.at b o m' t' 0 k went) in
    subst (λ n. RunsAs s.chip.latched (call_check m s.chip.slots.layout.levels s.chip.slots.used) m cap t (write_plan K m s.chip c.args.at b) (report_by c.answer.result k) m' (world_by m' c.latch-self.result n t')) (sym c.write_data-r.ensures.rest.capacity) done
