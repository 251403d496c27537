-- Small products in the field, and bytes that stay bytes.
use Rattle.std.proofs.Common.{◌≡◌, ℕ, zero, suc, ◌*◌, ◌/◌, ◌%◌, ◌<◌, ◌≤◌, Bool, true, false, cond, eqb, one-mul, zero-mul, arith}
use lib.Bits.{bit_xor, xor_zero_r, xor_lt}
use Rattle.aes.specs.Field.{times, times_bits, xtime, inverse_up_to, inverse, rotl8, affine, sbox}

pub times_two : (b : ℕ) → times b 2 ≡ xtime b
unfolding times times_bits
times_two b = simp (zero-mul, one-mul, xor_zero_r)

pub times_three : (b : ℕ) → times b 3 ≡ bit_xor b (times b 2)
unfolding times times_bits
times_three b = simp (zero-mul, one-mul, xor_zero_r)

pub two_lt : (b : ℕ) → b < 256 → times b 2 < 256
unfolding xtime
two_lt b h = rw times_two (xor_lt 8 (b * 2 % 256) (b / 128 * 27) (omega arith) (omega arith))

pub three_lt : (b : ℕ) → b < 256 → times b 3 < 256
three_lt b h = rw times_three (xor_lt 8 _ _ h (two_lt b h))

either : (t : Bool) (k m n : ℕ) → m ≤ k → n ≤ k → cond t m n ≤ k
either true k m n h i = h
either false k m n h i = i

inverse_le : (k b : ℕ) → inverse_up_to k b ≤ k
unfolding inverse_up_to
inverse_le zero b = omega arith
inverse_le (suc k) b =
    let ih = inverse_le k b in
    either (eqb (times b (suc k)) 1) (suc k) (suc k) (inverse_up_to k b) (omega arith) (omega arith)

affine_lt : (b : ℕ) → b < 256 → affine b < 256
unfolding affine rotl8
affine_lt b h =
    let r1 : rotl8 b 1 < 256 = omega arith in
    let r2 : rotl8 b 2 < 256 = omega arith in
    let r3 : rotl8 b 3 < 256 = omega arith in
    let r4 : rotl8 b 4 < 256 = omega arith in
    xor_lt 8 _ 0x63 (xor_lt 8 b _ h (xor_lt 8 _ _ (xor_lt 8 (rotl8 b 1) (rotl8 b 2) r1 r2) (xor_lt 8 (rotl8 b 3) (rotl8 b 4) r3 r4))) (omega arith)

pub sbox_lt : (b : ℕ) → b < 256 → sbox b < 256
unfolding sbox inverse
sbox_lt b h = let i = inverse_le 255 b in affine_lt (inverse_up_to 255 b) (omega arith)
