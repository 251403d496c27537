use Rattle.std.proofs.Common.{get_or, ◌+◌, ◌*◌, ◌/◌, ◌%◌, rules}
use Rattle.cmac.specs.Cmac.{shifted}
use Rattle.cmac.proofs.Chain.{made}
use Rattle.cmac.proofs.blocks.shifted.Goals as goal

pub returns : goal.returns
unfolding shifted
returns c = made _ (λ k. get_or c.args.b.now k 0 % 128 * 2 + get_or c.args.b.now (k + 1) 0 / 128) _ (λ i y q h. (search rules, search rules)) c.from_fn.result c.from_fn.ensures.items
