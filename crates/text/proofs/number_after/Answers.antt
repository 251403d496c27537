use Rattle.text.specs.Spelling.{Decimal}
use Rattle.text.proofs.Readers.{after_reads}
use Rattle.text.proofs.number_after.Goals as goal

pub returns : goal.returns
returns c = after_reads Decimal c.args.prefix.now c.args.text.now _ c.in_ok-after.ensures c.number.result c.number.ensures
