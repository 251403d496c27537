use Rattle.std.proofs.Common.{◌-◌}
use Rattle.machine.specs.Layouts.{shape_in}
use Rattle.controller.proofs.view.View.+counter_of.Given as goal

abbrev pub decreases-counter_of : goal.decreases-counter_of
decreases-counter_of g l = (shape_in l.self.now.layout).lines - l.at
