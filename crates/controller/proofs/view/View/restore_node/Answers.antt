use Rattle.std.proofs.Common.{refl}
use Rattle.std.proofs.lemmas.Result.{err_from_is_err_and}
use Rattle.tree.specs.SlotTable.{table_in}
use Rattle.controller.specs.Views.{tree_fault}
use Rattle.controller.specs.Restores.{slot_outcome}
use Rattle.controller.proofs.RestoreNode.{node_way, node_words, node_corrupt, node_children}
use Rattle.controller.proofs.view.View.restore_node.Goals as goal

pub returns-in_err-counter-clause-value : goal.returns-in_err-counter-clause-value
returns-in_err-counter-clause-value g c =
    let v = c.args.self.now in
    let p = err_from_is_err_and c.from_residual.result c.from_residual.ensures.1 in
    rw (p.1, p.2) (node_way v.layout.levels (g.B.Board.meaning v.board.now) (g.S.Suite.scheme v.suite.now) (table_in v.slots.now) c.args.at (tree_fault c.in_err-counter.field-0.0) c.in_err-counter.ensures)

pub returns-in_err-line-clause-value : goal.returns-in_err-line-clause-value
returns-in_err-line-clause-value g c =
    let v = c.args.self.now in
    let p = err_from_is_err_and c.from_residual-in_err-line.result c.from_residual-in_err-line.ensures.1 in
    let e = c.in_err-line.ensures in
    rw (p.1, p.2, e.0) (node_corrupt v.layout.levels (g.B.Board.meaning v.board.now) (g.S.Suite.scheme v.suite.now) (table_in v.slots.now) c.args.at c.in_ok-counter.counter c.in_ok-counter.ensures _ refl _ refl e.1)

pub slot_from-requires-clause-own_counters : goal.slot_from-requires-clause-own_counters
slot_from-requires-clause-own_counters g c =
    let v = c.args.self.now in
    node_words v.layout.levels (g.B.Board.meaning v.board.now) (g.S.Suite.scheme v.suite.now) (table_in v.slots.now) c.args.at c.in_ok-counter.counter c.in_ok-counter.ensures c.in_ok-line.line c.in_ok-line.ensures.0

pub returns-clause-value : goal.returns-clause-value
returns-clause-value g c =
    let v = c.args.self.now in
    node_children v.layout.levels (g.B.Board.meaning v.board.now) (g.S.Suite.scheme v.suite.now) (table_in v.slots.now) c.args.at c.in_ok-counter.counter c.in_ok-counter.ensures c.in_ok-line.line c.in_ok-line.ensures.0 _ refl c.in_ok-line.ensures.1 (slot_outcome c.slot_from.result) c.slot_from.ensures.value
