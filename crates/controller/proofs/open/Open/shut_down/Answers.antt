use Rattle.std.proofs.Common.{sym, subst}
use Rattle.machine.specs.History.{shut_down, nothing}
use Rattle.controller.specs.Worlds.{world_in, cold_in, Keeps}
use Rattle.controller.proofs.Keeping.{shut_down_kept}
use Rattle.controller.proofs.open.Open.shut_down.Goals as goal

pub returns : goal.returns
returns g c =
    let s = c.args.self in
    let m = g.B.Board.meaning s.board in
    let e = c.new.ensures in
    record { board = e; law = λ K. subst (λ b. Keeps K (world_in m s.chip) shut_down nothing (cold_in (g.B.Board.meaning b))) (sym e) (shut_down_kept K m s.chip) }
