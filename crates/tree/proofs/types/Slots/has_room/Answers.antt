use Rattle.std.proofs.Common.{sym, ◌∙◌, rules}
use Rattle.suite.specs.Words.{row}
use Rattle.machine.specs.Layouts.{shape_in}
use Rattle.tree.proofs.Fits.{node_parts}
use Rattle.machine.proofs.Limits.{within_true, within_at}
use Rattle.tree.proofs.types.Slots.has_room.Goals as goal
use Rattle.tree.proofs.types.Slots.has_room.Goals.{then-not-is_full, else-not-is_full}

pub returns-then-is_node : goal.returns-then-is_node
returns-then-is_node c = elim c.if-not-is_full.branch [
  | then-not-is_full w ↦
      let s = c.args.self.now in
      let counters = row c.args.counters.now in
      let n = node_parts (shape_in s.layout) c.args.node (sym w.is_node.ensures ∙ sym w.value-is ∙ c.if-is_node.true) in (
        λ t. record { room = search rules; node = n.0; range = n.1; within = within_at counters (sym c.within_limit.ensures ∙ t) },
        λ f. c.within_limit.ensures ∙ within_true counters f.within,
      )
  | else-not-is_full w ↦ absurd (search rules)
]
