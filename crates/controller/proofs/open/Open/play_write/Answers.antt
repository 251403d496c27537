use Rattle.std.proofs.Common.{sym, refl, subst}
use Rattle.machine.specs.Words.{row}
use Rattle.machine.specs.History.{write, Answer}
use Rattle.controller.specs.Worlds.{world_in, report_in, Does, write_plan}
use Rattle.controller.specs.Scripts.{answer_in}
use Rattle.controller.proofs.ScriptSteps.{one_event}
use Rattle.controller.proofs.open.Open.play_write.Goals as goal

pub returns : goal.returns
returns g c =
    record {
      plays = λ n. (_, refl, one_event (g.S.Suite.scheme c.args.self.suite) (world_in (g.B.Board.meaning c.args.self.board) c.args.self.chip) (write c.args.at (row c.args.body.now)) (report_in c.write-report.result) (answer_in c.from.result) (world_in (g.B.Board.meaning c.write-report.new.self.board) c.write-report.new.self.chip) c.write-report.ensures.law c.from.ensures);
      does = subst (λ (x : Answer). Does (write_plan (g.S.Suite.scheme c.args.self.suite) (g.B.Board.meaning c.args.self.board) c.args.self.chip c.args.at (row c.args.body.now)) (g.B.Board.meaning c.args.self.board) c.args.self.chip x (g.B.Board.meaning c.write-report.new.self.board) c.write-report.new.self.chip) (sym c.from.ensures) c.write-report.ensures.does;
      suite = c.write-report.ensures.suite;
    }
