use Rattle.std.proofs.Common.{refl, arith}
use Rattle.machine.specs.Words.{register_in}
use Rattle.controller.proofs.CommitParts.{raise_node, register_node, register_root}
use Rattle.controller.proofs.commit.raise_at.Goals as goal

pub returns-then-parent-lines-clause-register : goal.returns-then-parent-lines-clause-register
returns-then-parent-lines-clause-register g c =
    let s = c.args.slots.now in
    let m = g.B.Board.meaning c.args.board.now in
    let p = c.parent-parent.result in
    register_root s m c.layout-layout.result c.layout-layout.ensures c.args.at p c.index.result c.lines.result c.args.counter c.parent-parent.ensures c.index.ensures.value c.lines.ensures.value
    c.args.register.now (register_in c.args.register.now) refl (omega (arith, c.if-parent-lines.true)) c.put_root.new.words c.put_root.ensures.meaning

pub returns : goal.returns
returns g c =
    let s = c.args.slots.now in
    let m = g.B.Board.meaning c.args.board.now in
    let p = c.parent-parent.result in
    let l = c.in_ok-fresh.field-0 in
    let k = c.if-parent-lines.false in
    let d = raise_node s m c.layout-layout.result c.layout-layout.ensures c.args.at p c.index-2.result c.lines.result c.args.counter c.parent-parent.ensures c.index-2.ensures.value c.lines.ensures.value (omega arith) l c.in_ok-fresh.ensures.1 c.requires.room.0 c.requires.room.1 c.requires.place.1.1 c.raise.result c.raise.new.self c.raise.ensures in
    record {
      table = d.0;
      register =
          register_node s m c.layout-layout.result c.layout-layout.ensures c.args.at p c.index-2.result c.lines.result c.args.counter c.parent-parent.ensures c.index-2.ensures.value c.lines.ensures.value
          c.args.register.now (register_in c.args.register.now) refl (omega arith);
      layout = d.1;
    }
