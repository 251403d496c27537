use Rattle.suite.proofs.Bytes.{pad_bytes}
use Rattle.suite.proofs.message.pad_block.Goals as goal

pub returns : goal.returns
returns c = pad_bytes c.args.nonce.at c.args.nonce.counter c.args.part _ _ c.to_le_bytes.ensures c.to_le_bytes-2.ensures
