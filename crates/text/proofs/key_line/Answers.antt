use Rattle.std.proofs.Common.{codes}
use Rattle.text.specs.Spelling.{Keys}
use Rattle.text.proofs.Readers.{after_reads}
use Rattle.text.proofs.key_line.Goals as goal

pub returns : goal.returns
returns c = after_reads Keys (codes "key=") c.args.line.now _ c.in_ok-after.ensures c.keys.result c.keys.ensures
