use Rattle.std.proofs.Common.{refl}
use Rattle.controller.specs.Worlds.{world_in}
use Rattle.controller.proofs.ScriptSteps.{puts_one}
use Rattle.controller.proofs.open.Open.put_line.Goals as goal

pub returns : goal.returns
returns g c =
    record {
      plays = λ n. puts_one (g.S.Suite.scheme c.args.self.suite) n (world_in (g.B.Board.meaning c.args.self.board) c.args.self.chip) (world_in (g.B.Board.meaning c.tamper-placed.new.self.board) c.tamper-placed.new.self.chip) c.args.at c.args.line c.tamper-placed.result (c.tamper-placed.ensures.law (g.S.Suite.scheme c.args.self.suite));
      does = (c.tamper-placed.result, refl, c.tamper-placed.ensures.put, c.tamper-placed.ensures.chip);
      suite = c.tamper-placed.ensures.suite;
    }
