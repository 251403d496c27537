use Rattle.std.proofs.Common.{◌≤◌, length, rules}
use Rattle.text.proofs.Hexes.{byte_here, byte_no_high, byte_no_low}
use Rattle.text.proofs.next_byte.Goals as goal

pub returns-in_err-hex : goal.returns-in_err-hex
returns-in_err-hex c = rw c.from_residual.ensures (byte_no_high c.args.text.now c.in_err-hex.ensures)

pub returns-in_err-hex-2 : goal.returns-in_err-hex-2
returns-in_err-hex-2 c = rw c.from_residual-in_err-hex-2.ensures (byte_no_low c.args.text.now c.in_err-hex-2.ensures)

pub returns : goal.returns
returns c = let long : 2 ≤ length c.args.text.now = search rules in byte_here c.args.text.now long _ _ c.in_ok-hex.ensures c.in_ok-hex-2.ensures
