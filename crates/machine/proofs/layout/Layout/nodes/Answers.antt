-- Four levels have the most.
use Rattle.std.proofs.Common.{arith}
use Rattle.machine.proofs.EightAry.{lines_near}
use Rattle.machine.proofs.layout.Layout.nodes.Goals as goal

pub returns-clause-small : goal.returns-clause-small
returns-clause-small c = omega (arith, lines_near c.args.self.levels c.args.self.low c.args.self.high)
