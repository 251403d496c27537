use Rattle.machine.specs.Words.{register_in}
use Rattle.std.proofs.Common.{ap, ◌∙◌, refl, arith, rules}
use Rattle.std.proofs.lemmas.Result.{err_from_is_err_and}
use Rattle.tree.specs.SlotTable.{table_in}
use Rattle.controller.specs.Views.{tree_fault}
use Rattle.controller.proofs.CounterSteps.{parent_above, from_root_field, from_slot, from_above, from_corrupt, from_line}
use Rattle.controller.proofs.view.View.+counter_of.Goals as goal

pub returns-then-parent-lines : goal.returns-then-parent-lines
returns-then-parent-lines g t c =
    let v = c.args.self.now in
    from_root_field v.layout.levels (g.B.Board.meaning v.board.now) v.fits (g.S.Suite.scheme v.suite.now) (table_in v.slots.now) c.args.at c.parent-parent.result c.index-index.result c.requires c.parent-parent.ensures c.index-index.ensures.value (omega (arith, c.lines.ensures.value)) c.decode.result (c.decode.ensures.meaning ∙ ap register_in c.read_register.ensures)

pub returns-in-Some : goal.returns-in-Some
returns-in-Some g t c =
    let v = c.args.self.now in
    let p = c.in-Some.ensures in
    from_slot v.layout.levels (g.B.Board.meaning v.board.now) v.fits (g.S.Suite.scheme v.suite.now) (table_in v.slots.now) c.args.at c.parent-parent.result c.index-index.result c.requires c.parent-parent.ensures c.index-index.ensures.value (omega (arith, c.lines.ensures.value)) c.in-Some.counter p.0 p.2

pub counter_of-requires : goal.counter_of-requires
counter_of-requires g t c κs within =
    let v = c.args.self.now in
    let up = parent_above v.layout.levels (g.B.Board.meaning v.board.now) v.fits (g.S.Suite.scheme v.suite.now) (table_in v.slots.now) c.args.at c.parent-parent.result c.index-index.result c.requires c.parent-parent.ensures c.index-index.ensures.value in
    search rules

pub returns-in_err-counter : goal.returns-in_err-counter
returns-in_err-counter g t c =
    let v = c.args.self.now in
    let p = err_from_is_err_and c.from_residual.result c.from_residual.ensures.1 in
    rw (p.1, p.2) (from_above v.layout.levels (g.B.Board.meaning v.board.now) v.fits (g.S.Suite.scheme v.suite.now) (table_in v.slots.now) c.args.at c.parent-parent.result c.index-index.result c.requires c.parent-parent.ensures c.index-index.ensures.value (omega (arith, c.lines.ensures.value)) (c.in_default.ensures (omega (arith, c.index-index.ensures.value))) (tree_fault c.in_err-counter.field-0.0) c.in_err-counter.ensures)

pub returns-in_err-line : goal.returns-in_err-line
returns-in_err-line g t c =
    let v = c.args.self.now in
    let p = err_from_is_err_and c.from_residual-in_err-line.result c.from_residual-in_err-line.ensures.1 in
    let e = c.in_err-line.ensures in
    rw (p.1, p.2, e.0) (from_corrupt v.layout.levels (g.B.Board.meaning v.board.now) v.fits (g.S.Suite.scheme v.suite.now) (table_in v.slots.now) c.args.at c.parent-parent.result c.index-index.result c.requires c.parent-parent.ensures c.index-index.ensures.value (omega (arith, c.lines.ensures.value)) (c.in_default.ensures (omega (arith, c.index-index.ensures.value))) c.in_ok-counter.counter c.in_ok-counter.ensures _ refl _ refl e.1)

pub returns : goal.returns
returns g t c =
    let v = c.args.self.now in
    from_line v.layout.levels (g.B.Board.meaning v.board.now) v.fits (g.S.Suite.scheme v.suite.now) (table_in v.slots.now) c.args.at c.parent-parent.result c.index-index.result c.requires c.parent-parent.ensures c.index-index.ensures.value (omega (arith, c.lines.ensures.value)) (c.in_default.ensures (omega (arith, c.index-index.ensures.value))) c.in_ok-counter.counter c.in_ok-counter.ensures c.in_ok-line.line c.in_ok-line.ensures.0 _ refl c.in_ok-line.ensures.1
