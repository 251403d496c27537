use Rattle.std.proofs.Common.{◌%◌, arith}
use Rattle.machine.proofs.Encodings.{root_meant}
use Rattle.machine.proofs.register.put_root.Goals as goal

pub returns-clause-meaning : goal.returns-clause-meaning
returns-clause-meaning c = root_meant c.args.words.now (c.args.index % 8) c.args.counter c.told-words (omega arith)
