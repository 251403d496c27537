use Rattle.controller.proofs.FromOutside.{cold_tampered}
use Rattle.controller.proofs.cold.Cold.tamper.Goals as goal

pub returns : goal.returns
returns g c =
    record { law = λ K. cold_tampered K (g.B.Board.meaning c.args.self.now.board) (g.B.Board.meaning c.put_line.new.board) c.args.at c.args.line c.put_line.result c.put_line.ensures; put = c.put_line.ensures }
