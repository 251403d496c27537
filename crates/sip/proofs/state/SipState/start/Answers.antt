use Rattle.std.proofs.Common.{arith}
use Rattle.sip.specs.Sip.{start}
use Rattle.sip.proofs.Bytes.{word_read}
use Rattle.sip.proofs.state.SipState.start.Goals as goal

pub returns : goal.returns
unfolding start
returns c =
    let k0 = word_read c.args.key.now c.as_chunks.result.0.now _ 0 c.from_le_bytes-k0.result c.as_chunks.ensures.front (omega arith) c.from_le_bytes-k0.ensures in
    let k1 = word_read c.args.key.now c.as_chunks.result.0.now _ 1 c.from_le_bytes-k1.result c.as_chunks.ensures.front (omega arith) c.from_le_bytes-k1.ensures in
    cc
