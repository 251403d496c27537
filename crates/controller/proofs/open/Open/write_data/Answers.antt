use Rattle.std.proofs.Common.{◌<◌, refl, arith}
use Rattle.std.proofs.lemmas.Result.{err_from_is_err_and}
use Rattle.machine.specs.Words.{row}
use Rattle.machine.specs.Plans.{commit}
use Rattle.machine.proofs.EightAry.{eight_trees}
use Rattle.machine.specs.Layouts.{shape_in}
use Rattle.tree.specs.SlotTable.{table_in}
use Rattle.machine.specs.declared.layout.Layout.{Layout}
use Rattle.controller.specs.Views.{view_in}
use Rattle.controller.specs.Runs.{Went, ended}
use Rattle.controller.specs.Registers.{RoomAt}
use Rattle.controller.proofs.Chains.{went_both, went_first, of_before, of_after}
use Rattle.controller.proofs.WriteSteps.{write_steps}
use Rattle.controller.proofs.open.Open.write_data.Goals as goal

pub returns-in_err-make_room-clause-went : goal.returns-in_err-make_room-clause-went
returns-in_err-make_room-clause-went g c =
    let x = err_from_is_err_and c.from_residual.result c.from_residual.ensures.1 in
    let s = c.args.self.now in
    let steps = write_steps s.chip.slots.layout.levels (g.S.Suite.scheme s.suite) (g.B.Board.meaning s.board) (table_in s.chip.slots) c.args.at c.requires.place.0 s.chip.capacity (row c.args.words.now) c.requires.place.1 in
    rw (x.1, x.2) (went_first _ steps c.in_err-make_room.ensures.went)

pub commit-requires : goal.commit-requires
commit-requires g c =
    let s = c.args.self.now.chip.slots.layout in
    let s₁ = c.make_room.new.self.chip.slots in
    let a = c.args.at in
    let d = c.in_ok-make_room.ensures in
    record {
      place = (d.fits, of_after d.rest (λ z (y : Layout). a < (shape_in y).lines) (omega (arith, (eight_trees s.levels s.low s.high).data_in, c.requires.place.1)));
      room = (of_after d.rest (λ z (y : Layout). RoomAt (shape_in y) a s₁.used (table_in s₁)) (d.roomy refl), omega (arith, d.tally));
    }

pub returns-clause-went : goal.returns-clause-went
returns-clause-went g c =
    let s = c.args.self.now in
    let M₁ = g.B.Board.meaning c.make_room.new.self.board in
    let T₁ = table_in c.make_room.new.self.chip.slots in
    let M₂ = g.B.Board.meaning c.commit.new.self.board in
    let T₂ = table_in c.commit.new.self.chip.slots in
    let b = row c.args.words.now in
    let d = c.in_ok-make_room.ensures in
    let steps = write_steps s.chip.slots.layout.levels (g.S.Suite.scheme s.suite) (g.B.Board.meaning s.board) (table_in s.chip.slots) c.args.at c.requires.place.0 s.chip.capacity b c.requires.place.1 in
    went_both _ steps d.went (of_before d.rest (λ z (y : Layout). Went (commit (shape_in y) (g.S.Suite.scheme z) (view_in M₁ T₁) T₁ c.args.at b) M₁ (ended c.commit.result) M₂ T₂ c.make_room.new.commits c.commit.new.commits) c.commit.ensures.went)
