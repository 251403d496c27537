use Rattle.aes.specs.Field.{sbox, affine, inverse, inverse_up_to, rotl8, times, times_bits, xtime}
use Rattle.aes.specs.Columns.{spread, spread_of}
use Rattle.aes.proofs.field.spread.Goals as goal

pub entry-requires : goal.entry-requires
unfolding spread spread_of sbox affine inverse inverse_up_to rotl8 times times_bits xtime
entry-requires c = tt
