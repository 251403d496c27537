use Rattle.suite.proofs.Pads.{even_word, odd_word}
use Rattle.suite.proofs.sip_suite.SipSuite.pad_words.Goals as goal

pub returns : goal.returns
returns c =
    let key = c.args.self.now.cipher.key in
    let e = even_word key c.args.nonce.at c.args.nonce.counter c.args.part c.encrypt-block.result c.pad_block.result c.encrypt-block.ensures c.pad_block.ensures c.word_of.result c.word_of.ensures in
    let o = odd_word key c.args.nonce.at c.args.nonce.counter c.args.part c.encrypt-block.result c.pad_block.result c.encrypt-block.ensures c.pad_block.ensures c.word_of-2.result c.word_of-2.ensures in
    cc
