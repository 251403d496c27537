use Rattle.std.proofs.Common.{rules, arith}
use Rattle.aes.proofs.Packed.{next_columns}
use Rattle.aes.proofs.schedule.next_key.Goals as goal

pub returns : goal.returns
returns c = next_columns c.args.k c.args.constant _ _ (search rules) (rw c.to_be_bytes.ensures at c.sub_word.ensures) (omega arith)
