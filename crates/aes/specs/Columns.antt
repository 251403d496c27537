-- A state as four columns, each a 32-bit word with its first byte highest.
use Rattle.std.specs.Prelude.{ℕ, suc, ◌+◌, ◌*◌, ◌/◌, ◌%◌, Bool, true, false, cond, List, [], ◌∷◌, ◌++◌, ◌==◌}
use Rattle.aes.specs.Field.{sbox, times}
use Rattle.aes.specs.Aes.{mixed}
use Rattle.aes.specs.declared.columns.Columns.{Columns}

-- The word of four bytes.
abbrev pub word4 : ℕ → ℕ → ℕ → ℕ → ℕ
word4 a b c d = ((a * 256 + b) * 256 + c) * 256 + d

-- The four bytes of a word.
abbrev pub bytes4 : ℕ → List ℕ
bytes4 w = (w / 16777216 % 256) ∷ (w / 65536 % 256) ∷ (w / 256 % 256) ∷ (w % 256) ∷ []

-- The sixteen bytes of a state.
unfoldable pub unpack : Columns → List ℕ
unpack s = bytes4 s.c0 ++ bytes4 s.c1 ++ bytes4 s.c2 ++ bytes4 s.c3

-- What a byte in row 0 adds to its column, mixed, if s is its image in the S-box.
unfoldable pub spread_of : ℕ → ℕ
spread_of s = word4 (times s 2) s s (times s 3)

-- What a byte in row 0 adds to its column, through the S-box and mixed.
unfoldable pub spread : ℕ → ℕ
spread b = spread_of (sbox b)

-- Whether each entry of a table is what the byte of its place adds, its places counted from i.
abbrev pub right_from : ℕ → List ℕ → Bool
right_from i [] = true
right_from i (x ∷ xs) = cond (x == spread i) (right_from (suc i) xs) false

-- The column that the bytes p, q, r and s become, through the S-box and mixed.
unfoldable pub mixed_word : ℕ → ℕ → ℕ → ℕ → ℕ
mixed_word p q r s =
    word4 (mixed (sbox p) (sbox q) (sbox r) (sbox s)) (mixed (sbox q) (sbox r) (sbox s) (sbox p))
    (mixed (sbox r) (sbox s) (sbox p) (sbox q)) (mixed (sbox s) (sbox p) (sbox q) (sbox r))

-- The column that the bytes p, q, r and s become, through the S-box alone.
unfoldable pub sub_word : ℕ → ℕ → ℕ → ℕ → ℕ
sub_word p q r s = word4 (sbox p) (sbox q) (sbox r) (sbox s)

-- A function of four bytes at row 0 of column a, row 1 of column b, row 2 of column c and row 3 of column d.
abbrev pub rows_of {ℓ} : {R : Type ℓ} → (ℕ → ℕ → ℕ → ℕ → R) → ℕ → ℕ → ℕ → ℕ → R
rows_of f a b c d = f (a / 16777216 % 256) (b / 65536 % 256) (c / 256 % 256) (d % 256)

-- The state of a function of four bytes, with the rows shifted.
abbrev pub shifted_by : (ℕ → ℕ → ℕ → ℕ → ℕ) → Columns → Columns
shifted_by f s = record {
  c0 = rows_of f s.c0 s.c1 s.c2 s.c3;
  c1 = rows_of f s.c1 s.c2 s.c3 s.c0;
  c2 = rows_of f s.c2 s.c3 s.c0 s.c1;
  c3 = rows_of f s.c3 s.c0 s.c1 s.c2;
}

-- The columns through the S-box, shifted and mixed.
abbrev pub mixed_columns : Columns → Columns
mixed_columns s = shifted_by mixed_word s

-- The columns through the S-box and shifted.
abbrev pub sub_columns : Columns → Columns
sub_columns s = shifted_by sub_word s
