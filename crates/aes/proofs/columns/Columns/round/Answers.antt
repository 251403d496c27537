use Rattle.aes.proofs.Packed.{round_bytes}
use Rattle.aes.proofs.columns.Columns.round.Goals as goal

pub returns : goal.returns
returns c =
    let s = c.shifted_by.ensures in
    round_bytes c.args.self c.args.k c.shifted_by.result c.bitxor.result (s.c0, s.c1, s.c2, s.c3) c.bitxor.ensures
