use Rattle.machine.specs.Words.{row}
use Rattle.controller.proofs.Keeping.{write_kept, write_latched}
use Rattle.controller.proofs.open.Open.write.Goals as goal

pub returns : goal.returns
returns g c =
    let s = c.args.self.now in
    let m = g.B.Board.meaning s.board in
    let K = g.S.Suite.scheme s.suite in
    let d = c.write_counted-outcome.ensures in
    record {
      law = write_kept K m s.chip c.args.at (row c.args.body.now) _ (g.B.Board.meaning c.write_counted-outcome.new.self.board) c.write_counted-outcome.new.self.chip d.does;
      others = write_latched K m s.chip _ c.args.at (row c.args.body.now) _ (g.B.Board.meaning c.write_counted-outcome.new.self.board) c.write_counted-outcome.new.self.chip d.does;
      does = d.does;
      suite = d.suite;
    }
