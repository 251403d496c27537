use Rattle.std.proofs.Common.{sym, refl, subst}
use Rattle.machine.specs.History.{flush, Answer}
use Rattle.controller.specs.Worlds.{world_in, report_in, Does, flush_plan}
use Rattle.controller.specs.Scripts.{answer_in}
use Rattle.controller.proofs.ScriptSteps.{one_event}
use Rattle.controller.proofs.open.Open.play_flush.Goals as goal

pub returns : goal.returns
returns g c =
    record {
      plays = λ n. (_, refl, one_event (g.S.Suite.scheme c.args.self.suite) (world_in (g.B.Board.meaning c.args.self.board) c.args.self.chip) flush (report_in c.flush-report.result) (answer_in c.from.result) (world_in (g.B.Board.meaning c.flush-report.new.self.board) c.flush-report.new.self.chip) c.flush-report.ensures.law c.from.ensures);
      does = subst (λ (x : Answer). Does (flush_plan (g.S.Suite.scheme c.args.self.suite) (g.B.Board.meaning c.args.self.board) c.args.self.chip) (g.B.Board.meaning c.args.self.board) c.args.self.chip x (g.B.Board.meaning c.flush-report.new.self.board) c.flush-report.new.self.chip) (sym c.from.ensures) c.flush-report.ensures.does;
      suite = c.flush-report.ensures.suite;
    }
