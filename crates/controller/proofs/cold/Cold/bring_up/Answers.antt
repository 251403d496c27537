use Rattle.std.proofs.Common.{refl}
use Rattle.controller.specs.Worlds.{world_in, report_by}
use Rattle.controller.proofs.BringUpSteps.{settled_brings, brings_keep, brings_keep_others}
use Rattle.controller.proofs.cold.Cold.bring_up.Goals as goal

pub returns : goal.returns
returns g c =
    let K = g.S.Suite.scheme c.args.suite in
    let M = g.B.Board.meaning c.args.self.board in
    let M₁ = g.B.Board.meaning c.open_chip.new.board in
    let r = c.settled-answer.result in
    let b = settled_brings K c.args.slots M M₁ c.open_chip.result r.0 r.1 c.open_chip.ensures c.settled-answer.ensures in
    record {
      law = brings_keep K c.args.slots M (report_by r.1 0) M₁ (world_in M₁ r.0) b.0;
      others = brings_keep_others K c.args.slots M (report_by r.1 0) M₁ (world_in M₁ r.0) b.0;
      does = b.0;
      chip = b.1;
      suite = refl;
    }
