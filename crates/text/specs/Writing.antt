-- What is printed of numbers and of an unreadable line.
use Rattle.std.specs.Prelude.{◌≡◌, ℕ, List, [], ◌∷◌, ◌++◌, codes, decimal}

-- Numbers in decimal, each after one space.
abbrev pub spaced : List ℕ → List ℕ
spaced [] = []
spaced (n ∷ ns) = 32 ∷ (decimal n ++ spaced ns)

-- Numbers in decimal, one space between them.
abbrev pub row : List ℕ → List ℕ
row [] = []
row (n ∷ ns) = decimal n ++ spaced ns

-- What is printed at an unreadable line, by its number.
abbrev pub bad : ℕ → List ℕ
bad n = codes "bad=" ++ (decimal n ++ (10 ∷ []))

-- Bytes of this kind were added to a text.
abbrev pub Adds : (List ℕ → Type 0) → List ℕ → List ℕ → Type 0
Adds P before after = (added : List ℕ) × (after ≡ before ++ added) × P added
