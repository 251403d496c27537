use Rattle.std.proofs.Common.{rules, length, drop, take, ◌≡◌, ◌-◌, ap, ◌∙◌, arith}
use Rattle.std.proofs.lemmas.List.{take_all, length-drop}
use Rattle.sip.specs.Sip.{le}
use Rattle.sip.proofs.Bytes.{word_from}
use Rattle.suite.proofs.message.word_of.Goals as goal

pub returns : goal.returns
returns c =
    let word = c.unwrap.result.now in
    let rest = drop c.args.at c.args.block.now in
    let first = rw c.unwrap.ensures at c.first_chunk.ensures.cases in
    let n : length word ≡ 8 = search rules in
    word_from word 0 _ (omega (arith, n)) c.from_le_bytes.ensures
    ∙ ap le (take_all 8 word (omega (arith, n)) ∙ first.same ∙ ap (take 8) (take_all (16 - c.args.at) rest (omega (arith, length-drop c.args.at c.args.block.now))))
