-- Words as bytes.
use Rattle.std.proofs.Common.{◌≡◌, ℕ, ◌/◌, ◌%◌, ◌<◌, suc, List, [], ◌∷◌, ◌++◌, length, get_or, refl, ap, ◌∙◌, arith}
use native.Mathlib.Nat.{div-div-eq-div-mul}
use Rattle.std.specs.List.{flat_map}
use Rattle.suite.specs.Message.{bytes, word_bytes, pad_block}

-- The eight bytes of a word, written out.
abbrev pub Le8 : List ℕ → ℕ → Type 0
Le8 xs n = xs ≡ (n % 256) ∷ (n / 256 % 256) ∷ (n / 65536 % 256) ∷ (n / 16777216 % 256) ∷ (n / 4294967296 % 256) ∷ (n / 1099511627776 % 256) ∷ (n / 281474976710656 % 256) ∷ (n / 72057594037927936 % 256) ∷ []

pub bytes_eight : (xs : List ℕ) (n : ℕ) → Le8 xs n → xs ≡ bytes 8 n
unfolding bytes
bytes_eight xs n e = e ∙ simp div-div-eq-div-mul

-- Words taken to their bytes one by one, all bytes in a row.
pub words_flat : (ws : List ℕ) (bs : List (List ℕ)) → length bs ≡ length ws → ((k : ℕ) → k < length ws → get_or bs k [] ≡ bytes 8 (get_or ws k 0)) → flat_map (λ b. b) bs ≡ word_bytes ws
unfolding word_bytes
words_flat [] [] n h = refl
words_flat [] (b ∷ bs) n h = grind arith
words_flat (w ∷ ws) [] n h = grind arith
words_flat (w ∷ ws) (b ∷ bs) n h =
    let rest = words_flat ws bs (omega (arith, n)) (λ k lt. h (suc k) (omega arith)) in
    ap (λ x. x ++ flat_map (λ b. b) bs) (h 0 (omega arith)) ∙ ap (λ x. bytes 8 w ++ x) rest

abbrev eight : List ℕ → List ℕ
eight xs = get_or xs 0 0 ∷ get_or xs 1 0 ∷ get_or xs 2 0 ∷ get_or xs 3 0 ∷ get_or xs 4 0 ∷ get_or xs 5 0 ∷ get_or xs 6 0 ∷ get_or xs 7 0 ∷ []

abbrev six : List ℕ → List ℕ → List ℕ
six xs ys = get_or xs 0 0 ∷ get_or xs 1 0 ∷ get_or xs 2 0 ∷ get_or xs 3 0 ∷ get_or xs 4 0 ∷ get_or xs 5 0 ∷ ys

pub pad_bytes : (a c j : ℕ) (xs ys : List ℕ) → Le8 xs a → Le8 ys c → eight xs ++ six ys (j ∷ 0 ∷ []) ≡ pad_block a c j
unfolding bytes
pad_bytes a c j xs ys e f =
    let p : eight xs ≡ bytes 8 a = ap eight e ∙ simp div-div-eq-div-mul in
    let q : six ys (j ∷ 0 ∷ []) ≡ bytes 6 c ++ j ∷ 0 ∷ [] = ap (λ x. six x (j ∷ 0 ∷ [])) f ∙ simp div-div-eq-div-mul in
    cc
