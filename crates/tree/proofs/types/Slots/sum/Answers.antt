use Rattle.std.proofs.Common.{rules, ◌≡◌, ◌^◌, ◌<◌, ◌∙◌, take, sum_by, arith}
use Rattle.std.proofs.iter.runs.Made.{chains}
use Rattle.std.proofs.iter.Serving.{serving}
use Rattle.machine.specs.Layout.{sum_to}
use Rattle.suite.specs.Words.{row}
use Rattle.tree.specs.declared.types.Slot.{Slot}
use Rattle.tree.specs.SlotTable.{table_in}
use Rattle.tree.proofs.InOrder.{ordered_in}
use Rattle.tree.proofs.Sums.{slots_each, slots_value, slots_small}
use Rattle.tree.proofs.types.Slots.sum.Goals as goal

pub sum-requires-clause-can : goal.sum-requires-clause-can
sum-requires-clause-can c =
    let s = c.args.self.now in
    let each = slots_each s.layout.levels s.table s.used (ordered_in s) in
    grind serving

pub sum-requires-clause-fits : goal.sum-requires-clause-fits
sum-requires-clause-fits c =
    let s = c.args.self.now in
    let small : sum_by (λ (s : Slot). sum_to 8 (row s.counters)) (take s.used s.table) < 2 ^ 64 = omega (arith, slots_small s.layout.levels s.table s.used (ordered_in s), s.few) in
    search (rules, chains)

pub returns : goal.returns
unfolding table_in
returns c =
    let s = c.args.self.now in
    let total : c.sum.result ≡ sum_by (λ (s : Slot). sum_to 8 (row s.counters)) (take c.args.self.now.used c.args.self.now.table) = search (rules, chains) in
    total ∙ slots_value s.layout.levels s.table s.used (ordered_in s)
