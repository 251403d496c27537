use Rattle.std.proofs.Common.{arith}
use Rattle.sip.specs.Sip.{absorbed}
use Rattle.sip.proofs.Bytes.{absorbed_more, word_read}
use Rattle.sip.proofs.SipKey.absorb.Goals as goal

pub loop-word-init : goal.loop-word-init
unfolding absorbed
loop-word-init c = c.start-state.ensures

pub loop-word-preserved : goal.loop-word-preserved
loop-word-preserved c =
    let w = word_read c.args.message.now c.as_chunks.result.0.now _ c.loop-word.word-index c.from_le_bytes.result c.as_chunks.ensures.front (omega arith) c.from_le_bytes.ensures in
    let m = absorbed_more c.args.self.now.bytes c.args.message.now c.loop-word.word-index in
    cc
