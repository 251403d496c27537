use Rattle.machine.specs.Layouts.{shape_in}
use Rattle.controller.proofs.RestoreNode.{child_right, child_wrong, child_above}
use Rattle.controller.proofs.view.View.restore_child.Goals as goal

pub returns-in-Some : goal.returns-in-Some
returns-in-Some g c =
    let v = c.args.self.now in
    child_right (g.S.Suite.scheme v.suite.now) (shape_in v.layout) c.args.at c.args.stored (g.B.Board.meaning v.board.now).lines c.in_ok-line.line c.in_ok-line.ensures.1 c.in-Some.counter c.in-Some.ensures.value c.child_valid.result c.child_valid.ensures c.if-child_valid.true

pub returns-in_default : goal.returns-in_default
returns-in_default g c =
    let v = c.args.self.now in
    child_wrong (g.S.Suite.scheme v.suite.now) (shape_in v.layout) c.args.at c.args.stored (g.B.Board.meaning v.board.now).lines c.in_ok-line.line c.in_ok-line.ensures.1 c.in-Some.counter c.in-Some.ensures.value c.child_valid.result c.child_valid.ensures c.if-child_valid.false

pub returns-in_default-2 : goal.returns-in_default-2
returns-in_default-2 g c =
    let v = c.args.self.now in
    child_above (g.S.Suite.scheme v.suite.now) (shape_in v.layout) c.args.at c.args.stored (g.B.Board.meaning v.board.now).lines c.in_ok-line.line c.in_ok-line.ensures.1 c.in_default.ensures.value
