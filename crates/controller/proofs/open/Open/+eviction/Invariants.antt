use Rattle.std.proofs.Common.{◌+◌, ◌-◌, ◌*◌}
use Rattle.machine.specs.Layouts.{shape_in}
use Rattle.controller.proofs.open.Open.+eviction.Given as goal

abbrev pub decreases-evict : goal.decreases-evict
decreases-evict g l = 2 * ((shape_in l.self.now.chip.slots.layout).lines - l.at)

abbrev pub decreases-evict_overdue : goal.decreases-evict_overdue
decreases-evict_overdue g l = 2 * ((shape_in l.self.now.chip.slots.layout).lines - l.at) + 1
