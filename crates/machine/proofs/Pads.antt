-- A pad undoes itself.
use Rattle.std.proofs.Common.{◌≡◌, ap, ◌∙◌}
use mathlib.Core.Path.{fun_ext}
use lib.Bits.{bit_xor, xor_assoc, xor_self, xor_zero_r}
use Rattle.suite.specs.Scheme.{Body, mix}

pub mix_undo : (b p : Body) → mix (mix b p) p ≡ b
mix_undo b p = fun_ext (λ i. xor_assoc (b i) (p i) (p i) ∙ ap (bit_xor (b i)) (xor_self (p i)) ∙ xor_zero_r (b i))
