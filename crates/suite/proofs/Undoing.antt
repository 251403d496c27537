-- Sealing and opening undo each other, for every suite.
use Rattle.std.proofs.Common.{◌≡◌, ℕ, ◌<◌, ◌≤◌, true, cond, ◌⊎◌, List, length, get_or, sym, refl, ap, ◌∙◌, inl, inr, arith, eq-eqb}
use mathlib.Core.Path.{fun_ext}
use mathlib.Core.Option.{some, none}
use lib.Bits.{bit_xor, xor_assoc, xor_self, xor_zero_r}
use Rattle.std.proofs.lemmas.Bool.{cases_lt}
use Rattle.std.proofs.lemmas.List.{get_or_past}
use Rattle.suite.specs.Scheme.{Body, Line, Scheme, tag_of, right, mix, sealed, data_line, node_line}
use Rattle.suite.specs.Words.{row, open_data, open_node}

-- A pad undoes itself.
pub mix_undo : (b p : Body) → mix (mix b p) p ≡ b
mix_undo b p = fun_ext (λ i. xor_assoc (b i) (p i) (p i) ∙ ap (bit_xor (b i)) (xor_self (p i)) ∙ xor_zero_r (b i))

-- Eight words combined one by one are the two bodies combined.
pub row_mix : (ws ps out : List ℕ) → length ws ≡ 8 → length ps ≡ 8 → length out ≡ 8 → ((k : ℕ) → k < 8 → get_or out k 0 ≡ bit_xor (get_or ws k 0) (get_or ps k 0)) → row out ≡ mix (row ws) (row ps)
row_mix ws ps out a b c h = fun_ext (λ i. at i (cases_lt i 8))
  where
    at : (i : ℕ) → (i < 8) ⊎ (8 ≤ i) → row out i ≡ mix (row ws) (row ps) i
    at i (inl k) = h i k
    at i (inr k) = get_or_past out i 0 (omega arith) ∙ sym (rw (get_or_past ws i 0 (omega arith), get_or_past ps i 0 (omega arith)) refl)

module _ (S : Scheme) (a c : ℕ) where
  -- A sealed line's tag is right under its counter.
  pub sealed_right : (ws : Body) → right S a c (sealed S a c ws) ≡ true
  unfolding right
  sealed_right ws = eq-eqb (tag_of S a ws c) (tag_of S a ws c) refl

  pub data_undone : (L : Line) (b : Body) → L ≡ data_line S a c b → open_data S a c L ≡ some b
  data_undone L b e =
      ap (open_data S a c) e
      ∙ ap (λ x. cond x (some (mix (mix b (S.pad a c)) (S.pad a c))) none) (sealed_right (mix b (S.pad a c)))
      ∙ ap some (mix_undo b (S.pad a c))

  pub node_undone : (L : Line) (b : Body) → L ≡ node_line S a c b → open_node S a c L ≡ some b
  node_undone L b e = ap (open_node S a c) e ∙ ap (λ x. cond x (some b) none) (sealed_right b)
