use Rattle.std.proofs.Common.{◌≡◌, ◌∙◌, sum, arith, rules}
use Rattle.std.proofs.iter.runs.Made.{chains}
use Rattle.tree.proofs.Sums.{counters_value, counters_small}
use Rattle.tree.proofs.counters.sum_of.Goals as goal

pub sum-requires-clause-fits : goal.sum-requires-clause-fits
sum-requires-clause-fits c = let small = counters_small c.args.counters.now c.told-counters c.requires in search (rules, chains)

pub returns : goal.returns
returns c =
    let total : c.sum.result ≡ sum c.args.counters.now = search (rules, chains) in
    record { value = total ∙ counters_value c.args.counters.now c.told-counters; small = omega (arith, total, counters_small c.args.counters.now c.told-counters c.requires) }
