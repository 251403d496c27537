use Rattle.std.proofs.Common.{eqb, sym, ap, ◌∙◌}
use Rattle.std.proofs.lemmas.Result.{err_from_is_err_and}
use Rattle.machine.specs.Plans.{map_count, sum_of}
use Rattle.machine.specs.Layouts.{shape_in}
use Rattle.tree.specs.SlotTable.{table_in}
use Rattle.machine.specs.declared.layout.Layout.{Layout}
use Rattle.controller.specs.Views.{tree_fault}
use Rattle.controller.proofs.RestoreSteps.{recover_err, recover_missed, recover_ok, levels_in, fields_levels, fields_sum, fields_map}
use Rattle.controller.proofs.restore.recover.Goals as goal

pub restore-requires-clause-dirty_nodes : goal.restore-requires-clause-dirty_nodes
unfolding map_count
restore-requires-clause-dirty_nodes g c =
    let M = g.B.Board.meaning c.args.board.now in
    let f = c.args.register.now in (fields_map f M.register c.requires.own c.args.layout.levels (c.requires.fits.own ∙ sym (levels_in M.register) ∙ sym (fields_levels f M.register c.requires.own)), c.requires.few)

pub returns-in_err-restore : goal.returns-in_err-restore
returns-in_err-restore g c =
    let x = err_from_is_err_and c.from_residual.result c.from_residual.ensures.1 in
    rw (x.1, x.2) (recover_err c.args.layout.levels (g.B.Board.meaning c.args.board.now) (g.S.Suite.scheme c.args.suite.now) (tree_fault c.in_err-restore.field-0.0) c.in_err-restore.ensures.value)

pub returns-then-not-adds_up : goal.returns-then-not-adds_up
returns-then-not-adds_up g c =
    let M = g.B.Board.meaning c.args.board.now in
    let r = c.in_ok-restore.ensures in
    recover_missed c.args.layout.levels M (g.S.Suite.scheme c.args.suite.now) (table_in c.restore.new.slots) r.value c.args.register.now.dirty_sum
    (fields_sum c.args.register.now M.register c.requires.own)
    (ap (λ (l : Layout). eqb (sum_of (shape_in l) (table_in c.restore.new.slots)) c.args.register.now.dirty_sum) (sym r.layout) ∙ sym c.adds_up.ensures ∙ c.if-not-adds_up.true)

pub returns : goal.returns
returns g c =
    let M = g.B.Board.meaning c.args.board.now in
    let r = c.in_ok-restore.ensures in (
      recover_ok c.args.layout.levels M (g.S.Suite.scheme c.args.suite.now) (table_in c.restore.new.slots) r.value c.args.register.now.dirty_sum
          (fields_sum c.args.register.now M.register c.requires.own)
          (ap (λ (l : Layout). eqb (sum_of (shape_in l) (table_in c.restore.new.slots)) c.args.register.now.dirty_sum) (sym r.layout) ∙ sym c.adds_up.ensures ∙ c.if-not-adds_up.false),
      r.layout,
    )
