use Rattle.std.proofs.Common.{refl, ap, ◌∙◌, sym}
use Rattle.board.specs.declared.types.Line.{Line}
use Rattle.machine.specs.Words.{line_in}
use Rattle.controller.specs.Views.{node_line_valid}
use Rattle.controller.proofs.view.View.node_line.Goals as goal

pub returns-then-not-node_valid : goal.returns-then-not-node_valid
returns-then-not-node_valid g c = (refl, ap (λ (l : Line). node_line_valid (g.S.Suite.scheme c.args.self.now.suite.now) c.args.at c.args.counter (line_in l)) (sym c.in_ok-line.ensures.1) ∙ sym (rw c.nonce-nonce.ensures at c.node_valid.ensures) ∙ c.if-not-node_valid.true)

pub returns : goal.returns
returns g c = (c.in_ok-line.ensures.1, sym (rw c.nonce-nonce.ensures at c.node_valid.ensures) ∙ c.if-not-node_valid.false)
