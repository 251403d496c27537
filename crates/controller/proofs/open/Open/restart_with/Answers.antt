use Rattle.std.proofs.Common.{refl, subst}
use Rattle.board.specs.Meaning.{lesser}
use Rattle.board.specs.Tampering.{Recharged}
use Rattle.machine.specs.History.{bring_up, shut_down, recharge, nothing}
use Rattle.controller.specs.Worlds.{world_in, cold_in}
use Rattle.controller.specs.Scripts.{answer_in}
use Rattle.controller.proofs.ScriptSteps.{three_events}
use Rattle.controller.proofs.open.Open.restart_with.Goals as goal

pub returns : goal.returns
returns g c =
    let S = g.S.Suite.scheme c.args.self.suite in
    let supply = g.B.Recharge.supply c.shut_down-cold.result.board in
    let charged = g.B.Board.meaning c.recharge.new.self.board in
    let up = c.brought_up in
    let next = up.result.0 in
    record {
      plays = (
        _,
        (supply, refl),
        three_events S (world_in (g.B.Board.meaning c.args.self.board) c.args.self.chip) (cold_in (g.B.Board.meaning c.shut_down-cold.result.board)) (cold_in charged) (world_in (g.B.Board.meaning next.board) next.chip) shut_down (recharge (lesser c.args.left supply)) (bring_up c.args.slots S.number) nothing nothing (answer_in up.result.1) (c.shut_down-cold.ensures.law S) (c.recharge.ensures.law S) up.ensures.law,
      );
      does = (
        charged,
        subst (λ y. Recharged (g.B.Board.meaning y) (g.B.Recharge.supply y) c.args.left charged) c.shut_down-cold.ensures.board c.recharge.ensures.power,
        up.ensures.does,
      );
      suite = up.ensures.suite;
    }
