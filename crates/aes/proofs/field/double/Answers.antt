use Rattle.std.proofs.Common.{sym}
use Rattle.aes.specs.Field.{xtime}
use Rattle.aes.proofs.Products.{times_two}
use Rattle.aes.proofs.field.double.Goals as goal

pub returns : goal.returns
unfolding xtime
returns c = sym (times_two c.args.b)
