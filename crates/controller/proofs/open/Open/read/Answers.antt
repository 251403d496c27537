use Rattle.std.proofs.Common.{refl}
use Rattle.std.proofs.lemmas.Result.{err_from_is_err_and}
use Rattle.controller.proofs.Keeping.{read_kept, read_latched}
use Rattle.controller.proofs.open.Open.read.Goals as goal

pub returns-in_err-body : goal.returns-in_err-body
returns-in_err-body g c =
    let x = err_from_is_err_and c.from_residual.result c.from_residual.ensures.1 in
    let s = c.args.self.now in
    let m = g.B.Board.meaning s.board in
    let K = g.S.Suite.scheme s.suite in
    let e = c.in_err-body.ensures in
    record {
      law = rw (x.1, x.2) (read_kept K m s.chip c.args.at _ e);
      others = rw (x.1, x.2) (read_latched K m s.chip c.args.at _ e);
      does = rw (x.1, x.2) e;
      zeros = rw x.1 refl;
    }

pub returns : goal.returns
returns g c =
    let s = c.args.self.now in
    let m = g.B.Board.meaning s.board in
    let K = g.S.Suite.scheme s.suite in
    let e = c.in_ok-body.ensures in
    record { law = read_kept K m s.chip c.args.at _ e; others = read_latched K m s.chip c.args.at _ e; does = e; zeros = tt }
