use Rattle.std.proofs.Common.{sym, ap, ◌∙◌}
use Rattle.machine.specs.declared.layout.Layout.{Layout}
use Rattle.controller.proofs.SlotFacts.{other_clean}
use Rattle.controller.proofs.latch.fit_slots.Goals as goal

pub returns-then-levels-clause-table : goal.returns-then-levels-clause-table
returns-then-levels-clause-table c =
    c.new.ensures.table ∙ sym (other_clean c.args.slots.now c.args.layout c.requires (λ e. c.if-levels.true (c.levels.ensures ∙ ap (λ (y : Layout). y.levels) c.layout.ensures ∙ sym e ∙ sym c.levels-2.ensures)))
