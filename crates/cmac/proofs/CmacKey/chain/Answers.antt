use Rattle.std.proofs.Common.{◌≡◌, refl, ap, ◌∙◌, arith}
use Rattle.std.proofs.lemmas.List.{length-take-le}
use Rattle.aes.specs.Aes.{aes128}
use Rattle.cmac.specs.Cmac.{chained, before_last}
use Rattle.cmac.proofs.Chain.{chained_chunk}
use Rattle.cmac.proofs.CmacKey.chain.Goals as goal

pub loop-block-init : goal.loop-block-init
unfolding chained
loop-block-init c = refl

pub loop-block-preserved : goal.loop-block-preserved
loop-block-preserved c =
    let long = length-take-le c.before_last.result c.as_chunks.result.0.now (omega arith) in
    chained_chunk (aes128 c.args.self.now.aes.key) c.args.message.now _ _ _ c.as_chunks.result.0.now c.before_last.result c.loop-block.block-index _ c.loop-block.invariant c.as_chunks.ensures.front (omega arith) (omega arith) c.xor.ensures c.encrypt-chain.ensures

pub returns : goal.returns
returns c =
    let long = length-take-le c.before_last.result c.as_chunks.result.0.now (omega arith) in
    let n : c.loop-block.block-index ≡ before_last c.args.message.now = omega arith in
    c.loop-block.invariant ∙ ap (chained (aes128 c.args.self.now.aes.key) c.args.message.now) n
