use Rattle.std.proofs.Common.{refl, ◌∙◌}
use Rattle.machine.specs.History.{read}
use Rattle.controller.specs.Worlds.{world_in, read_in}
use Rattle.controller.specs.Scripts.{answer_in}
use Rattle.controller.proofs.ScriptSteps.{one_event}
use Rattle.controller.proofs.open.Open.play_read.Goals as goal

pub returns : goal.returns
returns g c =
    let w = world_in (g.B.Board.meaning c.args.self.board) c.args.self.chip in
    record {
      plays = λ n. (_, refl, one_event (g.S.Suite.scheme c.args.self.suite) w (read c.args.at) (read_in c.read-outcome.result c.read-outcome.new.body) (answer_in c.read_reply.result) w c.read-outcome.ensures.law c.read_reply.ensures);
      does = (c.read_reply.ensures ∙ c.read-outcome.ensures.does, refl, refl);
      suite = refl;
    }
