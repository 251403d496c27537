use Rattle.std.proofs.Common.{◌/◌, ◌<◌, length, refl, arith}
use Rattle.board.proofs.Memories.{memory_count, memory_put, memory_absent}
use Rattle.board.proofs.memory.MemoryBoard.write_line.Goals as goal

pub returns-then-at-count : goal.returns-then-at-count
returns-then-at-count c =
    let s = c.args.self.now in
    let count = memory_count s.words.now in
    record {
      meaning = memory_absent s.words.now s.register c.args.at c.args.line (omega (arith, count));
      words = (omega (arith, count), refl {a = s.words.now});
    }

pub overwrite-requires : goal.overwrite-requires
overwrite-requires c = omega (arith, memory_count c.args.self.now.words.now)

pub returns : goal.returns
returns c =
    let s = c.args.self.now in
    let t = c.overwrite.new.self in
    let e = c.overwrite.ensures in
    let within : c.args.at < length s.words.now / 9 = omega (arith, memory_count s.words.now) in
    record {
      meaning = memory_put s.words.now t.words.now s.register t.register c.args.at c.args.line within e.words e.length e.register;
      words = (within, e.words);
    }
