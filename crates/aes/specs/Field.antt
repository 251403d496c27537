-- Bytes as elements of the field GF(2^8) modulo x^8 + x^4 + x^3 + x + 1, and the S-box (FIPS 197).
use Rattle.std.specs.Prelude.{ℕ, zero, suc, ◌+◌, ◌-◌, ◌*◌, ◌/◌, ◌%◌, ◌^◌, cond, ◌==◌, bit_xor}

-- x times b: b shifted left, reduced by 0x1b where a bit went out.
unfoldable pub xtime : ℕ → ℕ
xtime b = bit_xor (b * 2 % 256) (b / 128 * 0x1b)

-- The product of a and the k lowest bits of b.
unfoldable pub times_bits : ℕ → ℕ → ℕ → ℕ
times_bits zero a b = 0
times_bits (suc k) a b = bit_xor (b % 2 * a) (times_bits k (xtime a) (b / 2))

-- The product of two bytes.
unfoldable pub times : ℕ → ℕ → ℕ
times a b = times_bits 8 a b

-- The largest x from 1 to k with b times x = 1, or 0 where there is none.
unfoldable pub inverse_up_to : ℕ → ℕ → ℕ
inverse_up_to zero b = 0
inverse_up_to (suc k) b = cond (times b (suc k) == 1) (suc k) (inverse_up_to k b)

-- The inverse of a byte, and 0 for 0.
unfoldable pub inverse : ℕ → ℕ
inverse b = inverse_up_to 255 b

-- A byte rotated left by k places.
unfoldable pub rotl8 : ℕ → ℕ → ℕ
rotl8 b k = b * 2 ^ k % 256 + b / 2 ^ (8 - k)

-- The affine map: bit i is the sum of the bits i, i + 4, .., i + 7 (modulo 8) and of bit i of 0x63.
unfoldable pub affine : ℕ → ℕ
affine b = bit_xor (bit_xor b (bit_xor (bit_xor (rotl8 b 1) (rotl8 b 2)) (bit_xor (rotl8 b 3) (rotl8 b 4)))) 0x63

-- The S-box.
unfoldable pub sbox : ℕ → ℕ
sbox b = affine (inverse b)
