use Rattle.std.proofs.Common.{subst}
use Rattle.controller.specs.Worlds.{cold_in, report_by, Keeps, Formats}
use Rattle.machine.specs.History.{format}
use Rattle.std.proofs.lemmas.Result.{IfOk-weaker}
use Rattle.text.specs.Spelling.{lines_of}
use Rattle.bench.specs.Printed.{Table}
use Rattle.bench.proofs.playing.play_script.Goals as goal

pub returns : goal.returns
returns g c =
    let meaning = g.B.Board.meaning in
    let scheme = g.S.Suite.scheme in
    let formats : g.row.B.Denot → Type 0 = λ y. Formats (scheme c.args.suite) c.args.script.now.header.levels (meaning y) (report_by c.format-outcome.result 0) (meaning c.format-outcome.new.cold.board) in
    let kept : g.row.B.Denot → Type 0 = λ y. Keeps (scheme c.args.suite) (cold_in (meaning y)) (format c.args.script.now.header.levels) (report_by c.format-outcome.result 0) (cold_in (meaning c.format-outcome.new.cold.board)) in
    IfOk-weaker c.print_table-open.result.1 _ _
    (λ _ e. (
      e.0,
      e.1,
      record {
        made = c.format-outcome.result;
        formatted = meaning c.format-outcome.new.cold.board;
        formats = subst formats c.new-cold.ensures c.format-outcome.ensures.does;
        format_kept = subst kept c.new-cold.ensures c.format-outcome.ensures.law;
        up = c.bring_up-open.result.1;
        brought_up = meaning c.bring_up-open.result.0.board;
        chip = c.bring_up-open.result.0.chip;
        brings_up = c.bring_up-open.ensures.does;
        bring_up_kept = c.bring_up-open.ensures.law;
        prints = subst (λ y. Table (scheme y) c.args.script.now.header (lines_of c.args.script.now.steps.now) c.format-outcome.result (meaning c.bring_up-open.result.0.board) c.bring_up-open.result.0.chip e.0) c.bring_up-open.ensures.suite e.2;
      },
    ))
    c.print_table-open.ensures
