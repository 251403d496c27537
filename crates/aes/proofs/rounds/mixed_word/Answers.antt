use Rattle.std.proofs.Common.{rules}
use Rattle.aes.proofs.Packed.{from_table}
use Rattle.aes.proofs.rounds.mixed_word.Goals as goal

pub returns : goal.returns
returns c =
    from_table c.args.p c.args.q c.args.r c.args.s _ _ _ _ _ _ _ (search rules) (search rules) (search rules) (search rules)
    c.spread.ensures c.spread-2.ensures c.spread-3.ensures c.spread-4.ensures
    c.rotate_right.ensures c.rotate_right-2.ensures c.rotate_right-3.ensures
