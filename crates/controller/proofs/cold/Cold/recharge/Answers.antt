use Rattle.board.specs.Meaning.{lesser}
use Rattle.controller.proofs.FromOutside.{cold_recharged}
use Rattle.controller.proofs.cold.Cold.recharge.Goals as goal

pub returns : goal.returns
returns g c =
    let p = c.recharge.ensures.power in
    record {
      law = λ K. cold_recharged K (g.B.Board.meaning c.args.self.now.board) (g.B.Board.meaning c.recharge.new.self) (lesser c.args.left (g.B.Recharge.supply c.args.self.now.board)) p.0 p.1 p.2;
      power = p;
      supply = c.recharge.ensures.supply;
    }
