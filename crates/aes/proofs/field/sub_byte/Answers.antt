use Rattle.std.proofs.Common.{rules}
use Rattle.aes.proofs.Packed.{sbox_in}
use Rattle.aes.proofs.field.sub_byte.Goals as goal

pub returns : goal.returns
returns c = sbox_in c.args.b _ _ (search rules) c.spread.ensures c.to_be_bytes.ensures
