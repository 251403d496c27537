use Rattle.text.specs.Spelling.{Keys}
use Rattle.text.proofs.Hexes.{mac_front, keys_no_pad, keys_more, keys_here}
use Rattle.text.proofs.Readers.{at_end}
use Rattle.text.proofs.keys.Goals as goal

pub returns-in_err-mac : goal.returns-in_err-mac
returns-in_err-mac c = rw c.from_residual.ensures (λ k h. c.in_err-mac.ensures _ _ (mac_front c.args.text.now k h))

pub returns-in_err-pad : goal.returns-in_err-pad
returns-in_err-pad c = rw c.from_residual-in_err-pad.ensures (keys_no_pad c.args.text.now _ _ c.in_ok-mac.ensures c.in_err-pad.ensures)

pub returns : goal.returns
returns c =
    let here = keys_here c.args.text.now _ _ _ _ c.in_ok-mac.ensures c.in_ok-pad.ensures in
    let more = keys_more c.args.text.now _ _ _ _ c.in_ok-mac.ensures c.in_ok-pad.ensures in
    rw (c.then_some.ensures, c.is_empty.ensures) (at_end Keys c.args.text.now c.in_ok-pad.rest.now _ here more)
