use Rattle.std.proofs.Common.{refl}
use Rattle.controller.proofs.FromOutside.{open_tampered}
use Rattle.controller.proofs.open.Open.tamper.Goals as goal

pub returns : goal.returns
returns g c =
    record {
      law = λ K. open_tampered K (g.B.Board.meaning c.args.self.now.board) (g.B.Board.meaning c.put_line.new.board) c.args.self.now.chip c.args.self.now.chip c.args.at c.args.line c.put_line.result refl c.put_line.ensures;
      put = c.put_line.ensures;
      chip = refl;
      suite = refl;
    }
