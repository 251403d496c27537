use Rattle.seal.proofs.Lines.{head_behind}
use Rattle.seal.proofs.reading.read_head.Goals as goal

pub returns : goal.returns
returns c = head_behind c.args.word.now c.args.text.now _ c.in_ok-after.ensures _ c.read_kind.ensures
