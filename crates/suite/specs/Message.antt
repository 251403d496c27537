-- The bytes that suites work on.
use Rattle.std.specs.Prelude.{ℕ, zero, suc, ◌/◌, ◌%◌, List, [], ◌∷◌, ◌++◌}
use Rattle.std.specs.List.{flat_map}
use Rattle.suite.specs.Scheme.{Body}

-- The k lowest bytes of a number, lowest first.
unfoldable pub bytes : ℕ → ℕ → List ℕ
bytes zero n = []
bytes (suc k) n = n % 256 ∷ bytes k (n / 256)

-- Words as bytes: each as eight, lowest first.
unfoldable pub word_bytes : List ℕ → List ℕ
word_bytes ws = flat_map (bytes 8) ws

-- The sealed message, of 80 bytes: the address, words 0 to 7, the counter.
abbrev pub message : ℕ → Body → ℕ → List ℕ
message a ws c = word_bytes (a ∷ ws 0 ∷ ws 1 ∷ ws 2 ∷ ws 3 ∷ ws 4 ∷ ws 5 ∷ ws 6 ∷ ws 7 ∷ c ∷ [])

-- The block from which part j of a pad is made: the address in eight bytes, the counter in six, j, and a zero.
abbrev pub pad_block : ℕ → ℕ → ℕ → List ℕ
pad_block a c j = bytes 8 a ++ bytes 6 c ++ j ∷ 0 ∷ []
