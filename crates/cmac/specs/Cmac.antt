-- CMAC (NIST SP 800-38B) over any cipher `ciph` on blocks of 16 bytes.
use Rattle.std.specs.Prelude.{ℕ, zero, suc, ◌+◌, ◌-◌, ◌*◌, ◌/◌, ◌%◌, cond, List, ◌∷◌, ◌++◌, length, take, drop, replicate, ◌==◌, bit_xor, nat_lt, slice_index, slice_set}
use Rattle.aes.specs.Aes.{sixteen, xor_blocks}

-- A block shifted left by one bit.
unfoldable pub shifted : List ℕ → List ℕ
shifted b = sixteen (λ i. slice_index b i % 128 * 2 + slice_index b (i + 1) / 128)

-- A block shifted, with 0x87 added to its last byte where a bit went out: a subkey from the one before.
abbrev pub doubled : List ℕ → List ℕ
doubled b = cond (nat_lt (slice_index b 0) 128) (shifted b) (slice_set (shifted b) 15 (bit_xor (slice_index (shifted b) 15) 0x87))

-- The block of zeros.
abbrev pub zeros : List ℕ
zeros = replicate 16 0

-- The subkey for a complete last block.
abbrev pub subkey1 : (List ℕ → List ℕ) → List ℕ
subkey1 ciph = doubled (ciph zeros)

-- The subkey for a padded one.
abbrev pub subkey2 : (List ℕ → List ℕ) → List ℕ
subkey2 ciph = doubled (subkey1 ciph)

-- A block of less than 16 bytes, padded by a bit 1 and zeros.
unfoldable pub padded : List ℕ → List ℕ
padded m = take 16 (m ++ 0x80 ∷ replicate 15 0)

-- The last block, complete or padded, with its subkey.
unfoldable pub last_block : (List ℕ → List ℕ) → List ℕ → List ℕ
last_block ciph m = cond (length m == 16) (xor_blocks m (subkey1 ciph)) (xor_blocks (padded m) (subkey2 ciph))

-- How many blocks stand before the last one, which is empty in an empty message alone.
abbrev pub before_last : List ℕ → ℕ
before_last m = (length m - 1) / 16

-- The chain after the first i blocks.
unfoldable pub chained : (List ℕ → List ℕ) → List ℕ → ℕ → List ℕ
chained ciph m zero = zeros
chained ciph m (suc i) = ciph (xor_blocks (chained ciph m i) (take 16 (drop (16 * i) m)))

-- The tag of a message.
abbrev pub cmac : (List ℕ → List ℕ) → List ℕ → List ℕ
cmac ciph m = ciph (xor_blocks (chained ciph m (before_last m)) (last_block ciph (drop (16 * before_last m) m)))
