use Rattle.aes.proofs.Packed.{unpack_xor}
use Rattle.aes.proofs.columns.ColumnsBitXor.bitxor.Goals as goal

pub returns : goal.returns
returns c = unpack_xor c.args.self c.args.k
