-- SipHash-2-4, from "SipHash: a fast short-input PRF" (Aumasson and Bernstein, 2012).
use Rattle.std.specs.Prelude.{ℕ, zero, suc, ◌+◌, ◌-◌, ◌*◌, ◌/◌, ◌%◌, ◌^◌, List, [], ◌∷◌, length, take, drop, bit_or, bit_xor}
use Rattle.sip.specs.declared.state.SipState.{SipState}

-- The sum of two words, modulo 2^64.
abbrev pub add64 : ℕ → ℕ → ℕ
add64 a b = (a + b) % 2 ^ 64

-- A word rotated left by k places, for k from 1 to 63.
abbrev pub rotl64 : ℕ → ℕ → ℕ
rotl64 x k = bit_or ((x * 2 ^ k) % 2 ^ 64) (x / 2 ^ (64 - k))

-- What b becomes when a becomes a + b: b rotated by k places, exclusive or a + b.
abbrev pub turn : ℕ → ℕ → ℕ → ℕ
turn a b k = bit_xor (rotl64 b k) (add64 a b)

-- The first half of a round: v0 takes v1, and v2 takes v3.
abbrev pub first_half : SipState → SipState
first_half s = record {
  v0 = rotl64 (add64 s.v0 s.v1) 32;
  v1 = turn s.v0 s.v1 13;
  v2 = add64 s.v2 s.v3;
  v3 = turn s.v2 s.v3 16;
}

-- The second half: v0 takes v3, and v2 takes v1.
abbrev pub second_half : SipState → SipState
second_half s = record {
  v0 = add64 s.v0 s.v3;
  v1 = turn s.v2 s.v1 17;
  v2 = rotl64 (add64 s.v2 s.v1) 32;
  v3 = turn s.v0 s.v3 21;
}

-- SipRound.
unfoldable pub sip_round : SipState → SipState
sip_round s = second_half (first_half s)

-- The state after one more word m: two rounds between two exclusive ors.
unfoldable pub compress : SipState → ℕ → SipState
compress s m =
    let t : SipState = sip_round (sip_round (record { v0 = s.v0; v1 = s.v1; v2 = s.v2; v3 = bit_xor s.v3 m })) in
    record { v0 = bit_xor t.v0 m; v1 = t.v1; v2 = t.v2; v3 = t.v3 }

-- The hash after the last word: four rounds.
unfoldable pub finish : SipState → ℕ
finish s =
    let t : SipState = sip_round (sip_round (sip_round (sip_round (record { v0 = s.v0; v1 = s.v1; v2 = bit_xor s.v2 0xff; v3 = s.v3 })))) in
    bit_xor (bit_xor t.v0 t.v1) (bit_xor t.v2 t.v3)

-- The number that a list of bytes stands for, lowest byte first.
unfoldable pub le : List ℕ → ℕ
le [] = 0
le (b ∷ bs) = b + 256 * le bs

-- Word i of a list of bytes: bytes 8 i to 8 i + 7.
unfoldable pub word : List ℕ → ℕ → ℕ
word m i = le (take 8 (drop (8 * i) m))

-- The word after the whole ones: the bytes left, and the length modulo 256 as its highest byte.
unfoldable pub last_word : List ℕ → ℕ
last_word m = le (drop (8 * (length m / 8)) m) + length m % 256 * 2 ^ 56

-- The state before the first word, under a key of 16 bytes.
unfoldable pub start : List ℕ → SipState
start key = record {
  v0 = bit_xor (word key 0) 0x736f6d6570736575;
  v1 = bit_xor (word key 1) 0x646f72616e646f6d;
  v2 = bit_xor (word key 0) 0x6c7967656e657261;
  v3 = bit_xor (word key 1) 0x7465646279746573;
}

-- The state after the first i words of a message.
unfoldable pub absorbed : List ℕ → List ℕ → ℕ → SipState
absorbed key m zero = start key
absorbed key m (suc i) = compress (absorbed key m i) (word m i)

-- SipHash-2-4 of a message of bytes under a key of 16 bytes.
abbrev pub siphash24 : List ℕ → List ℕ → ℕ
siphash24 key m = finish (compress (absorbed key m (length m / 8)) (last_word m))
