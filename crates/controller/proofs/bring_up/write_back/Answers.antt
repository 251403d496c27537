use Rattle.std.proofs.Common.{sym, ap, ◌∙◌}
use Rattle.std.proofs.lemmas.Result.{err_from_is_err_and}
use Rattle.machine.specs.Encoding.{journal_meant}
use Rattle.controller.proofs.BringUpSteps.{back_none, back_lost, back_done, journal_within}
use Rattle.controller.proofs.bring_up.write_back.Goals as goal

pub returns-in_default : goal.returns-in_default
returns-in_default g c = back_none (g.B.Board.meaning c.args.board.now) (sym (ap journal_meant c.in_default.is) ∙ c.requires.1.0)

pub returns-in_err-at_line : goal.returns-in_err-at_line
returns-in_err-at_line g c =
    let p = err_from_is_err_and c.from_residual.result c.from_residual.ensures.1 in
    rw (p.1, p.2) (back_lost (g.B.Board.meaning c.args.board.now) c.in-Some.entry.at c.in-Some.entry.line (sym (ap journal_meant c.in-Some.is) ∙ c.requires.1.0) (g.B.Board.meaning c.write_line.new.self) (journal_within (g.B.Board.meaning c.args.board.now) c.in-Some.entry.at c.in-Some.entry.line (sym (ap journal_meant c.in-Some.is) ∙ c.requires.1.0) (g.B.Board.meaning c.write_line.new.self) c.args.layout.levels c.requires.0 c.requires.1.1) c.write_line.result c.in_err-at_line.field-0.0 c.write_line.ensures c.in_err-at_line.ensures)

pub returns : goal.returns
returns g c = back_done (g.B.Board.meaning c.args.board.now) c.in-Some.entry.at c.in-Some.entry.line (sym (ap journal_meant c.in-Some.is) ∙ c.requires.1.0) (g.B.Board.meaning c.write_line.new.self) c.write_line.result c.write_line.ensures c.in_ok-at_line.ensures
