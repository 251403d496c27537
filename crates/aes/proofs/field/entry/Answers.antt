use Rattle.std.proofs.Common.{rules}
use Rattle.aes.proofs.Table.{entry_is}
use Rattle.aes.proofs.field.entry.Goals as goal

pub returns : goal.returns
returns c = entry_is c.args.table.now c.args.b c.requires (search rules)
