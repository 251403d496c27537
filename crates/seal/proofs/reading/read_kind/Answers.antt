use Rattle.seal.proofs.Lines.{no_kind}
use Rattle.seal.proofs.reading.read_kind.Goals as goal

pub returns-in_err-letter : goal.returns-in_err-letter
returns-in_err-letter c = rw c.from_residual.ensures (no_kind c.args.text.now c.in_err-letter.ensures)
