-- How numbers, keys and lines are spelled in a program's input. A text is its list of bytes.
use Rattle.std.specs.Prelude.{◌≡◌, ℕ, ◌+◌, ◌-◌, ◌*◌, ◌^◌, ◌<◌, ◌≤◌, cond, ◌⊎◌, List, [], ◌∷◌, ◌++◌, length, drop, Some, None, codes, Option, ◌==◌, slice_index}
use Rattle.text.specs.declared.types.KeyPair.{KeyPair}

-- What a reader answers at a text: the value that the text spells, or none where it spells no value.
abbrev pub Reads : {A : Type 0} → (List ℕ → A → Type 0) → List ℕ → Option A → Type 0
Reads Spells t (Some a) = Spells t a
Reads {A} Spells t None = (a : A) → Spells t a → ⊥

-- No text spells two values.
abbrev pub Unambiguous : {A : Type 0} → (List ℕ → A → Type 0) → Type 0
Unambiguous {A} Spells = (t : List ℕ) (a b : A) → Spells t a → Spells t b → a ≡ b

-- What stands behind a prefix.
abbrev pub Behind : List ℕ → List ℕ → List ℕ → Type 0
Behind p t rest = t ≡ p ++ rest

-- The first byte, and what follows it.
abbrev pub Begins : List ℕ → ℕ × List ℕ → Type 0
Begins t p = t ≡ p.0 ∷ p.1

-- A value behind a prefix.
abbrev pub After : {A : Type 0} → List ℕ → (List ℕ → A → Type 0) → List ℕ → A → Type 0
After p Spells t a = (u : List ℕ) × (t ≡ p ++ u) × Spells u a

-- A text that is the texts of some values one after another, nothing between them.
abbrev pub Each : {A : Type 0} → (List ℕ → A → Type 0) → List ℕ → List A → Type 0
Each Spells t [] = t ≡ []
Each Spells t (a ∷ more) = (p : List ℕ) × (rest : List ℕ) × (t ≡ p ++ rest) × Spells p a × Each Spells rest more

-- c is a decimal digit.
abbrev pub Digit : ℕ → Type 0
Digit c = (48 ≤ c) × (c ≤ 57)

-- A number with one more digit behind it.
abbrev pub then_digit : ℕ → ℕ → ℕ
then_digit n c = 10 * n + (c - 48)

-- The number that digits write behind a number already read.
abbrev pub read_on : ℕ → List ℕ → ℕ
read_on n [] = n
read_on n (c ∷ cs) = read_on (then_digit n c) cs

-- A number below 2^64 in decimal: one digit or more and nothing else, leading zeros allowed.
pub record Decimal (ds : List ℕ) (n : ℕ) : Type 0 where
  pub digits : (i : ℕ) → i < length ds → Digit (slice_index ds i)
  pub some : 0 < length ds
  pub value : n ≡ read_on 0 ds
  pub fits : n < 2 ^ 64

-- One space and a number.
abbrev pub Spaced : List ℕ → ℕ → Type 0
Spaced = After (codes " ") Decimal

-- So many numbers, each after one space.
pub record Numbers (count : ℕ) (t : List ℕ) (ns : List ℕ) : Type 0 where
  pub many : length ns ≡ count
  pub each : Each Spaced t ns

-- c is the hexadecimal digit of value v, in either case.
pub record Hex (c v : ℕ) : Type 0 where
  pub small : v < 16
  pub code : ((v < 10) × (c ≡ 48 + v)) ⊎ ((10 ≤ v) × ((c ≡ 87 + v) ⊎ (c ≡ 55 + v)))

-- A byte as two hexadecimal digits, the high one first.
abbrev pub HexByte : List ℕ → ℕ → Type 0
HexByte t b = (c : ℕ) × (d : ℕ) × (h : ℕ) × (l : ℕ) × (t ≡ c ∷ d ∷ []) × Hex c h × Hex d l × (b ≡ 16 * h + l)

-- A key as 32 hexadecimal digits.
pub record Key (t : List ℕ) (k : List ℕ) : Type 0 where
  pub many : length k ≡ 16
  pub each : Each HexByte t k

-- Two keys: the mac key, then the pad key, nothing between them.
abbrev pub Keys : List ℕ → KeyPair → Type 0
Keys t k = (p : List ℕ) × (q : List ℕ) × (t ≡ p ++ q) × Key p k.mac × Key q k.pad

-- A byte before the lines of the text that follows it.
abbrev pub before_lines : ℕ → List (List ℕ) → List (List ℕ)
before_lines c [] = (c ∷ []) ∷ []
before_lines c (l ∷ ls) = (c ∷ l) ∷ ls

-- The lines of a text. Each ends at a line feed, which is no part of it; the last one may lack it.
abbrev pub lines_of : List ℕ → List (List ℕ)
lines_of [] = []
lines_of (c ∷ cs) = cond (c == 10) ([] ∷ lines_of cs) (before_lines c (lines_of cs))

-- The first line and the text behind its line feed, or none where there is no line.
abbrev pub FirstLine : List ℕ → Option (List ℕ × List ℕ) → Type 0
FirstLine t None = t ≡ []
FirstLine t (Some p) = (lines_of t ≡ p.0 ∷ lines_of p.1) × (p.1 ≡ drop (length p.0 + 1) t)
