use Rattle.std.proofs.Common.{sym}
use Rattle.board.proofs.Memories.{memory_count}
use Rattle.board.proofs.memory.lines_in.Goals as goal

pub returns : goal.returns
returns c = sym (memory_count c.args.words.now)
