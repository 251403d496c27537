use Rattle.std.proofs.Common.{ap, arith}
use Rattle.machine.specs.History.{read_answer}
use Rattle.tree.specs.SlotTable.{table_in}
use Rattle.controller.proofs.ReadSteps.{read_beyond}
use Rattle.controller.proofs.Doing.{answers_read}
use Rattle.controller.proofs.open.Open.body_of.Goals as goal

pub returns-then-at-data_lines : goal.returns-then-at-data_lines
returns-then-at-data_lines g c =
    let s = c.args.self.now in
    let m = g.B.Board.meaning s.board in
    let K = g.S.Suite.scheme s.suite in
    let p = c.in_ok-layout.ensures in
    answers_read K m (table_in s.chip.slots) s.chip.slots.layout.levels s.chip.slots.used s.chip.latched p.0 c.in_ok-layout.layout.levels p.1.1 p.1.0 c.args.at _ (ap read_answer (read_beyond c.in_ok-layout.layout.levels m K (table_in s.chip.slots) c.args.at (omega (arith, c.if-at-data_lines.true, c.data_lines.ensures.value))))
