use Rattle.std.proofs.Common.{ap}
use Rattle.script.proofs.Steps.{arity, no_one, no_two}
use Rattle.script.proofs.step.read_arguments.Goals as goal

pub returns-in_err-read_one-in-r : goal.returns-in_err-read_one-in-r
returns-in_err-read_one-in-r c = rw c.from_residual.ensures (no_one c.args.letter c.args.text.now (ap arity c.in-r.is) c.in_err-read_one-in-r.ensures)

pub returns-in_err-at-in-w : goal.returns-in_err-at-in-w
returns-in_err-at-in-w c = rw c.from_residual-in_err-at-in-w.ensures (no_two c.args.letter c.args.text.now (ap arity c.in-w.is) c.in_err-at-in-w.ensures)

pub returns-in_err-read_one-in-k : goal.returns-in_err-read_one-in-k
returns-in_err-read_one-in-k c = rw c.from_residual-in_err-read_one-in-k.ensures (no_one c.args.letter c.args.text.now (ap arity c.in-k.is) c.in_err-read_one-in-k.ensures)

pub returns-in_err-read_one-in-m : goal.returns-in_err-read_one-in-m
returns-in_err-read_one-in-m c = rw c.from_residual-in_err-read_one-in-m.ensures (no_one c.args.letter c.args.text.now (ap arity c.in-m.is) c.in_err-read_one-in-m.ensures)
