-- Bytes as numbers, and the words of a message.
use Rattle.std.proofs.Common.{◌≡◌, ℕ, zero, suc, ◌+◌, ◌-◌, ◌*◌, ◌/◌, ◌%◌, ◌^◌, ◌<◌, ◌≤◌, List, [], ◌∷◌, length, get_or, take, drop, sym, refl, ap, ◌∙◌, mul-zero, mul-suc, add-zero, pow-suc, add-one, arith, lit<, w64}
use native.Mathlib.Nat.{pow-le-pow_right}
use Rattle.std.specs.Int.{from_le_bytes}
use Rattle.std.specs.Simd.{first_chunks}
use Rattle.std.proofs.lemmas.List.{drop-drop, drop_more, drop_all, length-drop, length-take-le, get_or-take, get_or-drop, take_all}
use Rattle.std.proofs.lemmas.List.FromFn.{fill_by_all}
use Rattle.sip.specs.Sip.{le, word, last_word, absorbed, compress}

-- Chunk i of n elements.
pub chunk_at : (n k : ℕ) (xs : List ℕ) (i : ℕ) (d : List ℕ) → i < k → get_or (first_chunks n k xs) i d ≡ take n (drop (n * i) xs)
chunk_at n zero xs i d h = absurd (omega arith)
chunk_at n (suc k) xs zero d h = rw mul-zero refl
chunk_at n (suc k) xs (suc i) d h =
    let e : n + n * i ≡ n * suc i = rw mul-suc (omega arith) in
    chunk_at n k (drop n xs) i d (omega arith) ∙ ap (take n) (drop-drop (n * i) n xs ∙ ap (λ (j : ℕ). drop j xs) e)

-- The word of eight bytes.
pub word_from : (bs : List ℕ) (i x : ℕ) → i + 8 ≤ length bs → x ≡ get_or bs i 0 + get_or bs (i + 1) 0 * 256 + get_or bs (i + 2) 0 * 65536 + get_or bs (i + 3) 0 * 16777216 + get_or bs (i + 4) 0 * 4294967296 + get_or bs (i + 5) 0 * 1099511627776 + get_or bs (i + 6) 0 * 281474976710656 + get_or bs (i + 7) 0 * 72057594037927936 → x ≡ le (take 8 (drop i bs))
unfolding le
word_from bs i x h e =
    let n : length (take 8 (drop i bs)) ≡ 8 = length-take-le 8 (drop i bs) (simp length-drop (omega arith)) in
    let f = fill_by_all (λ k. get_or bs (i + k) 0) (take 8 (drop i bs)) 8 0 n (λ k lt. rw (get_or-take, get_or-drop) refl) in
    let z : get_or bs (i + 0) 0 ≡ get_or bs i 0 = rw add-zero refl in
    rw f (omega arith)

-- What eight bytes are read as.
pub le_read : (bs : List ℕ) → length bs ≡ 8 → from_le_bytes w64 bs ≡ le bs
le_read bs n = word_from bs 0 (from_le_bytes w64 bs) (omega arith) refl ∙ ap le (take_all 8 bs (omega arith))

-- Word i of a message, as its chunk i is read.
pub word_read : (m : List ℕ) (words : List (List ℕ)) (d : List ℕ) (i x : ℕ) → words ≡ first_chunks 8 (length m / 8) m → i < length m / 8 → x ≡ from_le_bytes w64 (get_or words i d) → x ≡ word m i
unfolding word
word_read m words d i x f h e =
    let len : length (take 8 (drop (8 * i) m)) ≡ 8 = length-take-le 8 (drop (8 * i) m) (simp length-drop (omega arith)) in
    e ∙ ap (from_le_bytes w64) (ap (λ (ws : List (List ℕ)). get_or ws i d) f ∙ chunk_at 8 (length m / 8) m i d h) ∙ le_read (take 8 (drop (8 * i) m)) len

-- A number of n bytes is below 256 ^ n.
le_lt : (bs : List ℕ) → ((i : ℕ) → get_or bs i 0 < 256) → le bs < 256 ^ length bs
unfolding le
le_lt [] h = omega arith
le_lt (b ∷ bs) h =
    let ih = le_lt bs (λ i. h (suc i)) in
    let e : 256 ^ suc (length bs) ≡ 256 ^ length bs * 256 = pow-suc 256 (length bs) in
    let b0 : b < 256 = h 0 in
    omega arith

-- The bytes from i on, at most seven, are below 2 ^ 56.
tail_lt : (m : List ℕ) (i : ℕ) → ((k : ℕ) → get_or m k 0 < 256) → length m ≤ i + 7 → le (drop i m) < 2 ^ 56
tail_lt m i h n =
    let small = le_lt (drop i m) (λ k. rw get_or-drop (h (i + k))) in
    let few : length (drop i m) ≤ 7 = simp length-drop (omega arith) in
    let most = pow-le-pow_right {n = 256} (lit< tt) few in
    omega arith

pub le_none : (m : List ℕ) → 0 ≡ le (drop (length m) m)
unfolding le
le_none m = sym (ap le (drop_all (length m) m (omega arith)))

-- One byte more before the bytes from i on.
pub le_step : (m : List ℕ) (i w b : ℕ) → ((k : ℕ) → get_or m k 0 < 256) → 0 < i → i ≤ length m → length m ≤ (i - 1) + 7 → w ≡ le (drop i m) → b ≡ get_or m (i - 1) 0 → (w * 256 + b ≡ le (drop (i - 1) m)) × (w * 256 + b < 2 ^ 56)
unfolding le
le_step m i w b h pos most few e f =
    let n : (i - 1) + 1 ≡ i = omega arith in
    let d = ap le (drop_more m (i - 1) 0 (omega arith)) in
    let s : le (drop (i - 1) m) ≡ get_or m (i - 1) 0 + 256 * le (drop i m) = rw n at d in
    let lt = tail_lt m (i - 1) h few in
    (omega arith, omega arith)

pub last_from : (m : List ℕ) (i w : ℕ) → i ≡ 8 * (length m / 8) → w ≡ le (drop i m) → w + length m % 256 * 72057594037927936 ≡ last_word m
unfolding last_word
last_from m i w n e = cc

-- One word more.
pub absorbed_more : (key m : List ℕ) (i : ℕ) → absorbed key m (i + 1) ≡ compress (absorbed key m i) (word m i)
unfolding absorbed
absorbed_more key m i = rw add-one refl
