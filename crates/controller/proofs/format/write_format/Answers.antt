use Rattle.std.proofs.Common.{ap, ◌∙◌}
use mathlib.Core.Option.{some, none}
use Rattle.std.proofs.lemmas.Result.{err_from_is_err_and}
use Rattle.controller.specs.declared.types.TreeFault.TheVariants.{Board}
use Rattle.controller.specs.Views.{tree_fault}
use Rattle.controller.specs.Registers.{new_words}
use Rattle.controller.proofs.FormatWrites.{format_then, format_stop, register_lost, register_done, register_new}
use Rattle.controller.proofs.format.write_format.Goals as goal

pub returns-in_err-write_blank_lines-clause-wrote : goal.returns-in_err-write_blank_lines-clause-wrote
returns-in_err-write_blank_lines-clause-wrote g c =
    let x = err_from_is_err_and c.from_residual.result c.from_residual.ensures.1 in
    let M = g.B.Board.meaning c.args.board.now in
    let K = g.S.Suite.scheme c.args.suite.now in
    let M₁ = g.B.Board.meaning c.write_blank_lines.new.board in
    let d = c.in_err-write_blank_lines.ensures in
    rw (x.1, x.2) (format_stop c.args.layout.levels K M M₁ (tree_fault c.in_err-write_blank_lines.field-0.0) d.wrote)

pub returns-in_err-at_line-clause-wrote : goal.returns-in_err-at_line-clause-wrote
returns-in_err-at_line-clause-wrote g c =
    let x = err_from_is_err_and c.from_residual-in_err-at_line.result c.from_residual-in_err-at_line.ensures.1 in
    let h = c.args.layout.levels in
    let M = g.B.Board.meaning c.args.board.now in
    let K = g.S.Suite.scheme c.args.suite.now in
    let M₁ = g.B.Board.meaning c.write_blank_lines.new.board in
    let M₂ = g.B.Board.meaning c.write_register.new.self in
    let d = c.in_ok-write_blank_lines.ensures in
    let f = c.in_err-at_line.field-0.0 in
    let new = register_new h K c.new_register-register.result (c.new_register-register.ensures ∙ ap (new_words h) (c.NUMBER.ensures ∙ g.met.S.Suite.named c.args.suite.now)) in
    rw (x.1, x.2) (format_then h K M M₁ M₂ (some (tree_fault (Board f))) d.wrote (register_lost M₁ _ c.new_register-register.result _ new M₂ c.write_register.result f c.write_register.ensures c.in_err-at_line.ensures))

pub returns-clause-wrote : goal.returns-clause-wrote
returns-clause-wrote g c =
    let h = c.args.layout.levels in
    let M = g.B.Board.meaning c.args.board.now in
    let K = g.S.Suite.scheme c.args.suite.now in
    let M₁ = g.B.Board.meaning c.write_blank_lines.new.board in
    let M₂ = g.B.Board.meaning c.write_register.new.self in
    let d = c.in_ok-write_blank_lines.ensures in
    let words = c.new_register-register.ensures ∙ ap (new_words h) (c.NUMBER.ensures ∙ g.met.S.Suite.named c.args.suite.now) in
    format_then h K M M₁ M₂ none d.wrote (register_done M₁ _ c.new_register-register.result _ (register_new h K c.new_register-register.result words) M₂ c.write_register.result c.write_register.ensures c.in_ok-at_line.ensures)
