use Rattle.std.proofs.Common.{◌-◌, true, length, take, drop, refl}
use Rattle.text.proofs.Rows.{put_word}
use Rattle.text.proofs.words.WordsDisplay.fmt.Goals as goal

pub loop-word-preserved : goal.loop-word-preserved
loop-word-preserved g c = λ p.
    let ns = c.args.self.now.words.now in
    put_word g.W.Write.write_str_gives c.write.new.self c.loop-word.f c.write-in-loop-word.new.self (take (length ns - 1) (drop 1 ns)) c.loop-word.word-index c.loop-word-test.true
    (c.loop-word.invariant p)
    (c.in_ok-write-2.ensures.writes (c.loop-word.invariant p).plain (refl {a = true}))
