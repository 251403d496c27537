-- AES-128 (FIPS 197). A state is a list of 16 bytes in the block's order: byte 4 c + r stands in row r of column c.
use Rattle.std.specs.Prelude.{ℕ, zero, suc, ◌+◌, ◌*◌, ◌/◌, ◌%◌, List, map, bit_xor, slice_index}
use Rattle.std.specs.List.{range_with_len}
use Rattle.aes.specs.Field.{sbox, times}

-- The list of f 0 to f 15.
abbrev pub sixteen : (ℕ → ℕ) → List ℕ
sixteen f = map f (range_with_len 0 16)

-- SubBytes.
unfoldable pub sub_bytes : List ℕ → List ℕ
sub_bytes s = sixteen (λ i. sbox (slice_index s i))

-- ShiftRows: row r turns left by r columns.
unfoldable pub shift_rows : List ℕ → List ℕ
shift_rows s = sixteen (λ i. slice_index s ((i + 4 * (i % 4)) % 16))

-- A byte a of a column, mixed with the three below it, in a ring.
unfoldable pub mixed : ℕ → ℕ → ℕ → ℕ → ℕ
mixed a b c d = bit_xor (bit_xor (times a 2) (times b 3)) (bit_xor c d)

-- The byte j rows below byte i, in the ring of its column.
abbrev pub below : List ℕ → ℕ → ℕ → ℕ
below s i j = slice_index s (4 * (i / 4) + (i + j) % 4)

-- MixColumns.
unfoldable pub mix_columns : List ℕ → List ℕ
mix_columns s = sixteen (λ i. mixed (below s i 0) (below s i 1) (below s i 2) (below s i 3))

-- Two blocks added byte by byte, as AddRoundKey adds a round key.
unfoldable pub xor_blocks : List ℕ → List ℕ → List ℕ
xor_blocks s k = sixteen (λ i. bit_xor (slice_index s i) (slice_index k i))

-- The constant of round i + 1: the i-th power of x.
unfoldable pub rcon : ℕ → ℕ
rcon zero = 1
rcon (suc i) = times (rcon i) 2

-- Byte j of what a round key's first word is changed by: its last word turned by a byte, through the S-box, the constant added to byte 0.
abbrev pub key_core : ℕ → List ℕ → ℕ → ℕ
key_core constant k zero = bit_xor (sbox (slice_index k 13)) constant
key_core constant k (suc j) = sbox (slice_index k (12 + (suc j + 1) % 4))

-- Byte j of word w of the next round key: that of this key, changed by the core in word 0, and by the new word before it in the others.
abbrev pub next_byte : ℕ → List ℕ → ℕ → ℕ → ℕ
next_byte constant k zero j = bit_xor (slice_index k j) (key_core constant k j)
next_byte constant k (suc w) j = bit_xor (slice_index k (4 * suc w + j)) (next_byte constant k w j)

-- The next round key.
abbrev pub next_key : ℕ → List ℕ → List ℕ
next_key constant k = sixteen (λ i. next_byte constant k (i / 4) (i % 4))

-- Round key i of a key.
unfoldable pub round_key : List ℕ → ℕ → List ℕ
round_key key zero = key
round_key key (suc i) = next_key (rcon i) (round_key key i)

-- Round keys 1 to 10.
unfoldable pub round_keys : List ℕ → List (List ℕ)
round_keys key = map (λ i. round_key key (i + 1)) (range_with_len 0 10)

-- A round.
unfoldable pub round : List ℕ → List ℕ → List ℕ
round s k = xor_blocks (mix_columns (shift_rows (sub_bytes s))) k

-- The last round, which does not mix columns.
unfoldable pub last_round : List ℕ → List ℕ → List ℕ
last_round s k = xor_blocks (shift_rows (sub_bytes s)) k

-- The state after the first i rounds.
unfoldable pub after : List ℕ → List ℕ → ℕ → List ℕ
after key block zero = xor_blocks block (round_key key 0)
after key block (suc i) = round (after key block i) (round_key key (suc i))

-- A block encrypted under a key of 16 bytes.
abbrev pub aes128 : List ℕ → List ℕ → List ℕ
aes128 key block = last_round (after key block 9) (round_key key 10)
