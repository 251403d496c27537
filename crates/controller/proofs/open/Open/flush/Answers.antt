use Rattle.controller.proofs.Keeping.{flush_kept, flush_latched}
use Rattle.controller.proofs.open.Open.flush.Goals as goal

pub returns : goal.returns
returns g c =
    let s = c.args.self.now in
    let m = g.B.Board.meaning s.board in
    let K = g.S.Suite.scheme s.suite in
    let d = c.flush_counted-outcome.ensures in
    record {
      law = flush_kept K m s.chip _ (g.B.Board.meaning c.flush_counted-outcome.new.self.board) c.flush_counted-outcome.new.self.chip d.does;
      others = flush_latched K m s.chip _ _ (g.B.Board.meaning c.flush_counted-outcome.new.self.board) c.flush_counted-outcome.new.self.chip d.does;
      does = d.does;
      suite = d.suite;
    }
