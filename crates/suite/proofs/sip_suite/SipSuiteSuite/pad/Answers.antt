use Rattle.std.proofs.Common.{ap, rules}
use Rattle.suite.specs.Suites.{pad_word}
use Rattle.suite.specs.Words.{row}
use Rattle.suite.proofs.Pads.{all_words}
use Rattle.suite.proofs.sip_suite.SipSuiteSuite.pad.Goals as goal

pub returns : goal.returns
returns c =
    let word = pad_word c.args.self.now.cipher.key c.args.nonce.at c.args.nonce.counter in
    ap row (all_words word c.from_fn-parts.result (search rules) (search rules) (search rules) (search rules))
