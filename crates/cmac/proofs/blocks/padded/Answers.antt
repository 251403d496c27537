use Rattle.std.proofs.Common.{refl}
use Rattle.cmac.proofs.Chain.{padded_from}
use Rattle.cmac.proofs.blocks.padded.Goals as goal

pub returns : goal.returns
returns c = padded_from c.args.rest.now c.copy_from_slice.new.self _ c.requires c.copy_from_slice.ensures.after refl
