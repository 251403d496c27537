-- A pad is made two words at a time.
use Rattle.std.proofs.Common.{◌≡◌, ℕ, ◌+◌, ◌*◌, ◌/◌, ◌%◌, ◌<◌, ◌≤◌, ◌⊎◌, List, [], ◌∷◌, map, get_or, take, drop, replicate, sym, ap, ◌∙◌, inl, inr, arith}
use mathlib.Core.Path.{fun_ext}
use Rattle.std.proofs.lemmas.List.{get_or_past, get_or-replicate}
use Rattle.std.proofs.lemmas.Bool.{cases_lt}
use Rattle.std.specs.List.{range_with_len}
use Rattle.sip.specs.Sip.{le}
use Rattle.aes.specs.Aes.{aes128}
use Rattle.suite.specs.Words.{row}
use Rattle.suite.specs.Message.{pad_block}
use Rattle.suite.specs.Suites.{pad_word}

module _ (key : List ℕ) (a c j : ℕ) (b p : List ℕ) (e : b ≡ aes128 key p) (f : p ≡ pad_block a c j) where
  word_at : (i x : ℕ) → i / 2 ≡ j → x ≡ le (take 8 (drop (8 * (i % 2)) b)) → x ≡ pad_word key a c i
  unfolding pad_word
  word_at i x q h =
      h ∙ ap (λ z. le (take 8 (drop (8 * (i % 2)) z))) (e ∙ ap (aes128 key) (f ∙ ap (pad_block a c) (sym q)))

  pub even_word : (x : ℕ) → x ≡ le (take 8 (drop 0 b)) → x ≡ pad_word key a c (2 * j)
  even_word x h =
      let n : 8 * ((2 * j) % 2) ≡ 0 = omega arith in
      word_at (2 * j) x (omega arith) (h ∙ ap (λ z. le (take 8 (drop z b))) (sym n))

  pub odd_word : (x : ℕ) → x ≡ le (take 8 (drop 8 b)) → x ≡ pad_word key a c (2 * j + 1)
  odd_word x h =
      let n : 8 * ((2 * j + 1) % 2) ≡ 8 = omega arith in
      word_at (2 * j + 1) x (omega arith) (h ∙ ap (λ z. le (take 8 (drop z b))) (sym n))

-- Four blocks of two words each are eight words.
pub all_words : (f : ℕ → ℕ) (bs : List (List ℕ)) → get_or bs 0 [] ≡ f 0 ∷ f 1 ∷ [] → get_or bs 1 [] ≡ f 2 ∷ f 3 ∷ [] → get_or bs 2 [] ≡ f 4 ∷ f 5 ∷ [] → get_or bs 3 [] ≡ f 6 ∷ f 7 ∷ [] → get_or (get_or bs 0 []) 0 0 ∷ get_or (get_or bs 0 []) 1 0 ∷ get_or (get_or bs 1 []) 0 0 ∷ get_or (get_or bs 1 []) 1 0 ∷ get_or (get_or bs 2 []) 0 0 ∷ get_or (get_or bs 2 []) 1 0 ∷ get_or (get_or bs 3 []) 0 0 ∷ get_or (get_or bs 3 []) 1 0 ∷ [] ≡ map f (range_with_len 0 8)
all_words f bs e0 e1 e2 e3 = simp (e0, e1, e2, e3)

-- Eight zeros as a pad.
pub zeros_row : row (replicate 8 0) ≡ (λ i. 0)
zeros_row = fun_ext (λ i. at i (cases_lt i 8))
  where
    at : (i : ℕ) → (i < 8) ⊎ (8 ≤ i) → row (replicate 8 0) i ≡ 0
    at i (inl h) = get_or-replicate 8 i 0 0 h
    at i (inr h) = get_or_past (replicate 8 0) i 0 h
