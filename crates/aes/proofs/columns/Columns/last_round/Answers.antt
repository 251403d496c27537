use Rattle.aes.proofs.Packed.{last_bytes}
use Rattle.aes.proofs.columns.Columns.last_round.Goals as goal

pub returns : goal.returns
returns c =
    let s = c.shifted_by.ensures in
    last_bytes c.args.self c.args.k c.shifted_by.result c.bitxor.result (s.c0, s.c1, s.c2, s.c3) c.bitxor.ensures
