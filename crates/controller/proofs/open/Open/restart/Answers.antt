use Rattle.std.proofs.Common.{refl, subst}
use Rattle.machine.specs.History.{bring_up, shut_down, nothing}
use Rattle.controller.specs.Worlds.{world_in, cold_in}
use Rattle.controller.specs.BringUps.{BringsUp}
use Rattle.controller.specs.Scripts.{answer_in}
use Rattle.controller.proofs.ScriptSteps.{two_events}
use Rattle.controller.proofs.open.Open.restart.Goals as goal

pub returns : goal.returns
returns g c =
    let S = g.S.Suite.scheme c.args.self.suite in
    let cold = c.shut_down in
    let up = c.brought_up in
    let next = up.result.0 in
    record {
      plays = (
        _,
        refl,
        two_events S (world_in (g.B.Board.meaning c.args.self.board) c.args.self.chip) (cold_in (g.B.Board.meaning cold.result.board)) (world_in (g.B.Board.meaning next.board) next.chip) shut_down (bring_up c.args.slots S.number) nothing (answer_in up.result.1) (cold.ensures.law S) up.ensures.law,
      );
      does = subst (λ y. BringsUp S c.args.slots (g.B.Board.meaning y) (answer_in up.result.1) (g.B.Board.meaning next.board) (world_in (g.B.Board.meaning next.board) next.chip)) cold.ensures.board up.ensures.does;
      suite = up.ensures.suite;
    }
