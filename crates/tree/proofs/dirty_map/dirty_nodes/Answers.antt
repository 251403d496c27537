use Rattle.std.proofs.Common.{◌≡◌, count_ones, sum_by, ◌∙◌, rules}
use Rattle.std.proofs.iter.runs.Made.{chains}
use Rattle.tree.proofs.Bits.{map_bits, few_bits}
use Rattle.tree.proofs.dirty_map.dirty_nodes.Goals as goal

pub sum-requires-clause-fits : goal.sum-requires-clause-fits
sum-requires-clause-fits c = let few = few_bits c.args.map.now c.fits-map in search (rules, chains)

pub returns : goal.returns
returns c =
    let total : c.sum.result ≡ sum_by count_ones c.args.map.now = search (rules, chains) in
    total ∙ map_bits c.args.map.now c.told-map c.fits-map
