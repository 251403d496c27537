use Rattle.std.proofs.Common.{◌<◌, length, arith}
use Rattle.text.proofs.Decimals.{read_none}
use Rattle.text.proofs.number.Goals as goal

pub returns-in_err-value : goal.returns-in_err-value
returns-in_err-value c =
    let inside : c.loop-byte.byte-index < length c.args.text.now = omega arith in
    rw c.from_residual.ensures (read_none _ _ _ inside c.loop-byte.invariant.0 c.in_err-value.ensures)
