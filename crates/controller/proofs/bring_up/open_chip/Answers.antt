use Rattle.std.proofs.Common.{◌≡◌, ℕ, refl, ap, ◌∙◌, subst}
use mathlib.Core.Option.{none}
use Rattle.std.proofs.lemmas.Result.{err_from_is_err_and}
use Rattle.machine.specs.Layout.{eight_ary}
use Rattle.machine.specs.Words.{register_in, state_in}
use Rattle.machine.specs.Faults.{ok, err}
use Rattle.machine.specs.History.{bring_up_check}
use Rattle.tree.specs.SlotTable.{table_in}
use Rattle.machine.specs.declared.layout.Layout.{Layout}
use Rattle.controller.specs.Views.{tree_fault}
use Rattle.controller.proofs.RestoreSteps.{fields_journal}
use Rattle.controller.proofs.BringUpSteps.{brings_ends}
use Rattle.controller.proofs.bring_up.open_chip.Goals as goal

pub write_back-requires : goal.write_back-requires
write_back-requires g c =
    let P = c.in_ok-layout.ensures.1 in
    (P.fits, (fields_journal c.decode-register.result (g.B.Board.meaning c.args.board.now).register (c.decode-register.ensures.meaning ∙ ap register_in c.read_register.ensures), P.journal))

pub returns-in_err-recover : goal.returns-in_err-recover
returns-in_err-recover g c =
    let x = err_from_is_err_and c.from_residual-in_err-recover.result c.from_residual-in_err-recover.ensures.1 in
    let P = c.in_ok-layout.ensures in
    let M = g.B.Board.meaning c.args.board.now in
    let own = c.NUMBER.ensures ∙ g.met.S.Suite.named c.args.suite.now in
    let passed = subst (λ (n : ℕ). bring_up_check eight_ary c.args.slots n (state_in M) ≡ none) own P.0 in
    rw (x.1, x.2) (brings_ends (g.S.Suite.scheme c.args.suite.now) c.args.slots M passed (g.B.Board.meaning c.write_back.new.board) c.in_ok-write_back.ensures c.in_ok-layout.layout.levels P.1.fits.own (err (tree_fault c.in_err-recover.field-0.0)) c.in_err-recover.ensures)

pub returns : goal.returns
returns g c =
    let P = c.in_ok-layout.ensures in
    let r = c.in_ok-recover.ensures in
    let M = g.B.Board.meaning c.args.board.now in
    let own = c.NUMBER.ensures ∙ g.met.S.Suite.named c.args.suite.now in
    let passed = subst (λ (n : ℕ). bring_up_check eight_ary c.args.slots n (state_in M) ≡ none) own P.0 in (
      brings_ends (g.S.Suite.scheme c.args.suite.now) c.args.slots M passed (g.B.Board.meaning c.write_back.new.board) c.in_ok-write_back.ensures c.in_ok-layout.layout.levels P.1.fits.own (ok (table_in c.in_ok-recover.field-0)) r.0,
      refl,
      ap (λ (l : Layout). l.levels) r.1 ∙ P.1.fits.own,
    )
