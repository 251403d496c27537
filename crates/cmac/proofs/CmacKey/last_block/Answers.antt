use Rattle.std.proofs.Common.{◌≡◌, rules}
use Rattle.aes.specs.Aes.{aes128}
use Rattle.cmac.specs.Cmac.{subkey1}
use Rattle.cmac.proofs.Chain.{last_whole, last_short}
use Rattle.cmac.proofs.CmacKey.last_block.Goals as goal

pub returns-in-Some : goal.returns-in-Some
returns-in-Some c =
    let k : c.args.self.now.k1 ≡ subkey1 (aes128 c.args.self.now.aes.key) = search rules in
    let h = c.in-Some.ensures.cases in
    last_whole _ c.args.rest.now _ _ _ h.long h.same k c.xor.ensures

pub returns-in-None : goal.returns-in-None
returns-in-None c =
    let k : c.args.self.now.k1 ≡ subkey1 (aes128 c.args.self.now.aes.key) = search rules in
    last_short _ c.args.rest.now _ _ _ _ c.in-None.ensures.cases c.padded.ensures k c.doubled.ensures c.xor-in-None.ensures
