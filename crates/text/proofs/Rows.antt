-- Rows of numbers, written word by word.
use Rattle.std.proofs.Common.{◌≡◌, ℕ, ◌+◌, ◌-◌, ◌<◌, ◌≤◌, List, [], ◌∷◌, ◌++◌, length, get_or, take, drop, decimal, sym, ap, ◌∙◌, append_assoc, append-nil, arith}
use Rattle.std.proofs.lemmas.List.{take_more, take_all, take_rest}
use Rattle.std.proofs.Output.{has_written_append, has_written_of_eq}
use Rattle.std.specs.Fmt.{HasWritten}
use Rattle.std.specs.declared.fmt.Formatter.{Formatter}
use Rattle.text.specs.Writing.{spaced, row}

spaced_push : (ns : List ℕ) (n : ℕ) → spaced (ns ++ (n ∷ [])) ≡ spaced ns ++ (32 ∷ decimal n)
spaced_push [] n = ap (λ (x : List ℕ). 32 ∷ x) (append-nil (decimal n))
spaced_push (m ∷ ns) n = ap (λ (x : List ℕ). 32 ∷ x) (ap (λ (x : List ℕ). decimal m ++ x) (spaced_push ns n) ∙ sym (append_assoc (decimal m) (spaced ns) (32 ∷ decimal n)))

spaced_more : (ns : List ℕ) (i : ℕ) → i < length ns → spaced (take i ns) ++ (32 ∷ decimal (get_or ns i 0)) ≡ spaced (take (i + 1) ns)
spaced_more ns i h = sym (ap spaced (take_more ns i 0 h) ∙ spaced_push (take i ns) (get_or ns i 0))

row_all : (ns : List ℕ) (i : ℕ) → 1 ≤ length ns → length (take (length ns - 1) (drop 1 ns)) ≤ i → decimal (get_or ns 0 0) ++ spaced (take i (take (length ns - 1) (drop 1 ns))) ≡ row ns
row_all [] i h past = let z : ⊥ = omega arith in absurd z
row_all (n ∷ ns) i h past = ap (λ (x : List ℕ). decimal n ++ spaced x) (take_all i _ past ∙ take_rest (n ∷ ns) 1)

module _ {W : Type 0} (took : W → List ℕ → W → Type 0) (f g h : Formatter W) (ns : List ℕ) (i : ℕ) where
  -- one word more
  pub put_word : i < length ns → HasWritten took f (spaced (take i ns)) g → HasWritten took g (32 ∷ decimal (get_or ns i 0)) h → HasWritten took f (spaced (take (i + 1) ns)) h
  put_word l a b = has_written_of_eq took f _ _ h (spaced_more ns i l) (has_written_append took f _ g _ h a b)

  -- the first word and all that follow
  pub put_row : 1 ≤ length ns → length (take (length ns - 1) (drop 1 ns)) ≤ i → HasWritten took f (decimal (get_or ns 0 0)) g → HasWritten took g (spaced (take i (take (length ns - 1) (drop 1 ns)))) h → HasWritten took f (row ns) h
  put_row l past a b = has_written_of_eq took f _ _ h (row_all ns i l past) (has_written_append took f _ g _ h a b)
