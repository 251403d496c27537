use Rattle.seal.proofs.Lines.{none_sealed, none_opened, none_headed, open_words}
use Rattle.seal.proofs.reading.read_item.Goals as goal

pub returns-in_err-words : goal.returns-in_err-words
returns-in_err-words c = rw c.from_residual.ensures (none_sealed c.args.text.now _ _ c.in-Some.ensures c.in_err-words.ensures)

pub returns-in_err-kind : goal.returns-in_err-kind
returns-in_err-kind c = rw c.from_residual-in_err-kind.ensures (none_headed c.args.text.now c.in_default.ensures c.in_err-kind.ensures)

pub returns-in_err-words-2 : goal.returns-in_err-words-2
returns-in_err-words-2 c = rw c.from_residual-in_err-words-2.ensures (none_opened c.args.text.now c.in_default.ensures _ _ c.in_ok-kind.ensures c.in_err-words-2.ensures)

pub returns : goal.returns
returns c = rw c.opening.ensures (c.in_ok-kind.rest.now, c.in_ok-kind.ensures, open_words _ _ c.in_ok-words-2.ensures)
