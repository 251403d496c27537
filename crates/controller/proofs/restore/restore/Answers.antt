use Rattle.std.proofs.Common.{◌≡◌, ◌+◌, ◌^◌, ◌<◌, ◌≤◌, sym, ap, ◌∙◌, subst, arith}
use mathlib.Core.Option.{some}
use Rattle.std.proofs.lemmas.Result.{err_from_is_err_and}
use Rattle.machine.specs.Layout.{eight_ary, update}
use Rattle.machine.specs.Plans.{restore_node}
use Rattle.machine.specs.Layouts.{shape_in}
use Rattle.tree.specs.Tables.{slot_in}
use Rattle.tree.specs.SlotTable.{table_in, FitToPush}
use Rattle.machine.specs.declared.layout.Layout.{Layout}
use Rattle.controller.specs.Views.{tree_fault, view_in}
use Rattle.controller.proofs.RestoreSteps.{step_ok, step_err, step_count, step_empty, step_end, pushed}
use Rattle.controller.proofs.restore.restore.Goals as goal

pub returns-in_err-slot-clause-value : goal.returns-in_err-slot-clause-value
returns-in_err-slot-clause-value g c =
    let x = err_from_is_err_and c.from_residual.result c.from_residual.ensures.1 in
    let M = g.B.Board.meaning c.args.board.now in
    let K = g.S.Suite.scheme c.args.suite.now in
    let h = c.args.layout.levels in
    let at : c.data_lines-base.result + c.in-Some.j ≡ 8 ^ h + c.in-Some.j = ap (λ b. b + c.in-Some.j) c.data_lines-base.ensures.value in
    rw (x.1, x.2) (sym c.loop-j.invariant.4 ∙ step_err h M K c.args.map.now c.requires.dirty_nodes.0 c.loop-j.below (table_in c.loop-j.slots) c.in-Some.j c.in-Some.ensures (tree_fault c.in_err-slot.field-0.0) (c.in_err-slot.ensures.value ∙ ap (restore_node (eight_ary h) K (view_in M (table_in c.loop-j.slots))) at))

pub loop-j-preserved : goal.loop-j-preserved
loop-j-preserved g c =
    let M = g.B.Board.meaning c.args.board.now in
    let K = g.S.Suite.scheme c.args.suite.now in
    let h = c.args.layout.levels in
    let at : c.data_lines-base.result + c.in-Some.j ≡ 8 ^ h + c.in-Some.j = ap (λ b. b + c.in-Some.j) c.data_lines-base.ensures.value in
    let s = c.in_ok-slot.slot in
    let d = c.in_ok-slot.ensures in
    let n = c.in-Some.ensures in
    let I = c.loop-j.invariant in
    let here = d.slot.0 ∙ at in
    let count = step_count h M K c.args.map.now c.requires.dirty_nodes.0 c.loop-j.below (table_in c.loop-j.slots) c.in-Some.j c.in-Some.ensures in
    let fit : FitToPush c.loop-j.slots s = record {
      room = omega (arith, I.3, count);
      node = subst (λ (l : Layout). (shape_in l).data_lines ≤ s.address) (sym I.1) (omega (arith, here));
      range = subst (λ (l : Layout). s.address < (shape_in l).lines) (sym I.1) (omega (arith, here, n.0, I.0));
      clean = ap (table_in c.loop-j.slots) here ∙ I.2 (8 ^ h + c.in-Some.j) (omega (arith, n.0));
      within = d.slot.1;
    } in
    let P = pushed c.loop-j.slots s c.push.result c.push.new.self fit c.push.ensures in
    let grown : table_in c.push.new.self ≡ update (table_in c.loop-j.slots) (8 ^ h + c.in-Some.j) (some (slot_in s)) = P.0 ∙ ap (λ a. update (table_in c.loop-j.slots) a (some (slot_in s))) here in (
      omega (arith, n.0, I.0),
      P.2 ∙ I.1,
      step_empty h M K c.args.map.now c.requires.dirty_nodes.0 c.loop-j.below (table_in c.loop-j.slots) c.in-Some.j c.in-Some.ensures (table_in c.push.new.self) (slot_in s) grown I.2,
      omega (arith, I.3, P.1, count),
      sym (step_ok h M K c.args.map.now c.requires.dirty_nodes.0 c.loop-j.below (table_in c.loop-j.slots) c.in-Some.j c.in-Some.ensures (slot_in s) (table_in c.push.new.self) (d.value ∙ ap (restore_node (eight_ary h) K (view_in M (table_in c.loop-j.slots))) at) grown) ∙ I.4,
    )

pub returns-clause-value : goal.returns-clause-value
returns-clause-value g c =
    let M = g.B.Board.meaning c.args.board.now in
    let K = g.S.Suite.scheme c.args.suite.now in
    let h = c.args.layout.levels in
    sym c.loop-j.invariant.4 ∙ step_end h M K c.args.map.now c.requires.dirty_nodes.0 c.loop-j.below (table_in c.loop-j.slots) c.in_default.ensures
