use Rattle.std.proofs.Common.{ap, ◌∙◌}
use Rattle.std.proofs.lemmas.Result.{err_from_is_err_and}
use Rattle.machine.specs.Faults.{err}
use Rattle.tree.specs.SlotTable.{table_in}
use Rattle.controller.specs.Views.{body_in, tree_fault}
use Rattle.controller.proofs.ReadSteps.{read_within, read_answers}
use Rattle.controller.proofs.view.View.data_body.Goals as goal

pub returns-in_err-counter : goal.returns-in_err-counter
returns-in_err-counter g c =
    let v = c.args.self.now in
    let p = err_from_is_err_and c.from_residual.result c.from_residual.ensures.1 in
    rw (p.1, p.2) (read_within v.layout.levels (g.B.Board.meaning v.board.now) (g.S.Suite.scheme v.suite.now) (table_in v.slots.now) c.args.at c.requires (err (tree_fault c.in_err-counter.field-0.0)) c.in_err-counter.ensures)

pub returns : goal.returns
returns g c =
    let v = c.args.self.now in
    ap body_in c.ok_or.ensures.value ∙ read_answers v.layout.levels (g.B.Board.meaning v.board.now) (g.S.Suite.scheme v.suite.now) (table_in v.slots.now) c.args.at c.requires c.in_ok-counter.counter c.in_ok-counter.ensures c.in_ok-line.line c.in_ok-line.ensures.1 c.open_data.result (rw c.nonce-nonce.ensures at c.open_data.ensures)
