use Rattle.std.proofs.Common.{get_or, rules}
use lib.Bits.{bit_xor}
use Rattle.aes.specs.Aes.{xor_blocks}
use Rattle.cmac.proofs.Chain.{made}
use Rattle.cmac.proofs.blocks.xor.Goals as goal

pub returns : goal.returns
unfolding xor_blocks
returns c = made _ (λ k. bit_xor (get_or c.args.a.now k 0) (get_or c.args.b.now k 0)) _ (λ i y q h. (search rules, search rules)) c.from_fn.result c.from_fn.ensures.items
