use Rattle.std.proofs.Common.{◌≡◌}
use Rattle.aes.specs.Aes.{aes128}
use Rattle.cmac.specs.Cmac.{chained}
use Rattle.cmac.proofs.CmacKey.chain.Given as goal

abbrev pub invariant-loop-block : goal.invariant-loop-block
invariant-loop-block l = l.chain ≡ chained (aes128 l.self.aes.key) l.message l.block-index
