use Rattle.std.proofs.Common.{◌∙◌, arith}
use Rattle.machine.specs.Words.{row}
use Rattle.controller.proofs.CommitParts.{data_sealed, node_sealed}
use Rattle.controller.proofs.commit.sealed_line.Goals as goal

pub returns-then-at-data_lines : goal.returns-then-at-data_lines
returns-then-at-data_lines g c = (rw c.nonce-nonce.ensures at c.seal_data.ensures.line) ∙ data_sealed c.args.layout.levels (g.S.Suite.scheme c.args.suite.now) c.args.at c.args.counter (row c.args.words.now) (omega (arith, c.data_lines.ensures.value))

pub returns : goal.returns
returns g c = (rw c.nonce-nonce.ensures at c.seal_node.ensures.line) ∙ node_sealed c.args.layout.levels (g.S.Suite.scheme c.args.suite.now) c.args.at c.args.counter (row c.args.words.now) (omega (arith, c.data_lines.ensures.value))
