-- Columns of four bytes: exclusive or, turns by whole bytes, and the rounds.
use Rattle.std.proofs.Common.{◌≡◌, ℕ, ◌+◌, ◌*◌, ◌/◌, ◌%◌, ◌<◌, List, [], ◌∷◌, ◌++◌, length, get_or, sym, refl, ap, ap₂, ◌∙◌, arith}
use lib.Bits.{bit_or, bit_xor, xor_block, xor_lt, xor_shr, xor_mod, xor_assoc, xor_comm, xor_zero_r, or_shifted_r}
use Rattle.std.proofs.lemmas.List.FromFn.{fill_by_all}
use Rattle.std.specs.Simd.{first_chunks}
use Rattle.aes.specs.Field.{sbox, times}
use Rattle.aes.specs.Aes.{mixed, next_key, round, last_round, xor_blocks, mix_columns, shift_rows, sub_bytes}
use Rattle.aes.specs.Columns.{word4, bytes4, unpack, spread, spread_of, mixed_word, sub_word, rows_of, shifted_by, mixed_columns, sub_columns}
use Rattle.aes.specs.declared.columns.Columns.{Columns}
use Rattle.aes.proofs.Products.{sbox_lt, two_lt, three_lt}

-- bytes stay apart under exclusive or
pub xor_word : (a b c d a' b' c' d' : ℕ) → b < 256 → c < 256 → d < 256 → b' < 256 → c' < 256 → d' < 256 → bit_xor (word4 a b c d) (word4 a' b' c' d') ≡ word4 (bit_xor a a') (bit_xor b b') (bit_xor c c') (bit_xor d d')
xor_word a b c d a' b' c' d' hb hc hd hb' hc' hd' =
    xor_block 8 ((a * 256 + b) * 256 + c) ((a' * 256 + b') * 256 + c') d d' hd hd'
    ∙ ap (λ (x : ℕ). x * 256 + bit_xor d d')
    (xor_block 8 (a * 256 + b) (a' * 256 + b') c c' hc hc'
    ∙ ap (λ (x : ℕ). x * 256 + bit_xor c c') (xor_block 8 a a' b b' hb hb'))

abbrev ror : ℕ → ℕ → ℕ → ℕ
ror w k j = bit_or (w / k) ((w * j) % 4294967296)

pub ror_8 : (a b c d : ℕ) → a < 256 → b < 256 → c < 256 → d < 256 → ror (word4 a b c d) 256 16777216 ≡ word4 d a b c
ror_8 a b c d ha hb hc hd =
    let w : ℕ = word4 a b c d in
    let p : word4 a b c d / 256 ≡ (a * 256 + b) * 256 + c = omega arith in
    let q : (word4 a b c d * 16777216) % 4294967296 ≡ d * 16777216 = omega arith in
    rw (p, q) (or_shifted_r d 24 ((a * 256 + b) * 256 + c) (omega arith) ∙ omega arith)

pub ror_16 : (a b c d : ℕ) → a < 256 → b < 256 → c < 256 → d < 256 → ror (word4 a b c d) 65536 65536 ≡ word4 c d a b
ror_16 a b c d ha hb hc hd =
    let p : word4 a b c d / 65536 ≡ a * 256 + b = omega arith in
    let q : (word4 a b c d * 65536) % 4294967296 ≡ (c * 256 + d) * 65536 = omega arith in
    rw (p, q) (or_shifted_r (c * 256 + d) 16 (a * 256 + b) (omega arith) ∙ omega arith)

pub ror_24 : (a b c d : ℕ) → a < 256 → b < 256 → c < 256 → d < 256 → ror (word4 a b c d) 16777216 256 ≡ word4 b c d a
ror_24 a b c d ha hb hc hd =
    let p : word4 a b c d / 16777216 ≡ a = omega arith in
    let q : (word4 a b c d * 256) % 4294967296 ≡ ((b * 256 + c) * 256 + d) * 256 = omega arith in
    rw (p, q) (or_shifted_r ((b * 256 + c) * 256 + d) 8 a (omega arith) ∙ omega arith)

-- four terms of a sum, turned by one
ring : (a b c d : ℕ) → bit_xor (bit_xor a b) (bit_xor c d) ≡ bit_xor (bit_xor b c) (bit_xor d a)
ring a b c d =
    xor_assoc a b (bit_xor c d) ∙ ap (bit_xor a) (sym (xor_assoc b c d)) ∙ xor_comm a (bit_xor (bit_xor b c) d) ∙ xor_assoc (bit_xor b c) d a

-- the column that the table gives is the mixed one
pub mixed_from_table : (p q r s : ℕ) → p < 256 → q < 256 → r < 256 → s < 256 → bit_xor (bit_xor (spread p) (ror (spread q) 256 16777216)) (bit_xor (ror (spread r) 65536 65536) (ror (spread s) 16777216 256)) ≡ mixed_word p q r s
unfolding spread spread_of mixed_word mixed
mixed_from_table p q r s hp hq hr hs =
    let p1 = sbox_lt p hp in let p2 = two_lt (sbox p) p1 in let p3 = three_lt (sbox p) p1 in
    let q1 = sbox_lt q hq in let q2 = two_lt (sbox q) q1 in let q3 = three_lt (sbox q) q1 in
    let r1 = sbox_lt r hr in let r2 = two_lt (sbox r) r1 in let r3 = three_lt (sbox r) r1 in
    let s1 = sbox_lt s hs in let s2 = two_lt (sbox s) s1 in let s3 = three_lt (sbox s) s1 in
    let eq = ror_8 (times (sbox q) 2) (sbox q) (sbox q) (times (sbox q) 3) q2 q1 q1 q3 in
    let er = ror_16 (times (sbox r) 2) (sbox r) (sbox r) (times (sbox r) 3) r2 r1 r1 r3 in
    let es = ror_24 (times (sbox s) 2) (sbox s) (sbox s) (times (sbox s) 3) s2 s1 s1 s3 in
    let left = xor_word (times (sbox p) 2) (sbox p) (sbox p) (times (sbox p) 3) (times (sbox q) 3) (times (sbox q) 2) (sbox q) (sbox q) p1 p1 p3 q2 q1 q1 in
    let rest = xor_word (sbox r) (times (sbox r) 3) (times (sbox r) 2) (sbox r) (sbox s) (sbox s) (times (sbox s) 3) (times (sbox s) 2) r3 r2 r1 s1 s3 s2 in
    let h1 : bit_xor (sbox p) (times (sbox q) 2) < 256 = xor_lt 8 _ _ p1 q2 in
    let h2 : bit_xor (sbox p) (sbox q) < 256 = xor_lt 8 _ _ p1 q1 in
    let h3 : bit_xor (times (sbox p) 3) (sbox q) < 256 = xor_lt 8 _ _ p3 q1 in
    let h4 : bit_xor (times (sbox r) 3) (sbox s) < 256 = xor_lt 8 _ _ r3 s1 in
    let h5 : bit_xor (times (sbox r) 2) (times (sbox s) 3) < 256 = xor_lt 8 _ _ r2 s3 in
    let h6 : bit_xor (sbox r) (times (sbox s) 2) < 256 = xor_lt 8 _ _ r1 s2 in
    rw (eq, er, es, left, rest, xor_word)
    (cc (ring (sbox p) (times (sbox q) 2) (times (sbox r) 3) (sbox s), xor_comm (bit_xor (sbox p) (sbox q)) (bit_xor (times (sbox r) 2) (times (sbox s) 3)), ring (times (sbox s) 2) (times (sbox p) 3) (sbox q) (sbox r)))

pub bytes_xor : (w k : ℕ) → bytes4 (bit_xor w k) ≡ bit_xor (w / 16777216 % 256) (k / 16777216 % 256) ∷ bit_xor (w / 65536 % 256) (k / 65536 % 256) ∷ bit_xor (w / 256 % 256) (k / 256 % 256) ∷ bit_xor (w % 256) (k % 256) ∷ []
bytes_xor w k = rw (xor_shr w k 24, xor_shr w k 16, xor_shr w k 8, xor_mod (w / 16777216) (k / 16777216) 8, xor_mod (w / 65536) (k / 65536) 8, xor_mod (w / 256) (k / 256) 8, xor_mod w k 8) refl

-- the bytes of a word of four bytes
word_bytes : (a b c d : ℕ) → a < 256 → b < 256 → c < 256 → d < 256 → bytes4 (word4 a b c d) ≡ a ∷ b ∷ c ∷ d ∷ []
word_bytes a b c d ha hb hc hd =
    let e0 : word4 a b c d / 16777216 % 256 ≡ a = omega arith in
    let e1 : word4 a b c d / 65536 % 256 ≡ b = omega arith in
    let e2 : word4 a b c d / 256 % 256 ≡ c = omega arith in
    let e3 : word4 a b c d % 256 ≡ d = omega arith in
    cc

mixed_lt : (p q r s : ℕ) → p < 256 → q < 256 → r < 256 → s < 256 → mixed (sbox p) (sbox q) (sbox r) (sbox s) < 256
unfolding mixed
mixed_lt p q r s hp hq hr hs =
    xor_lt 8 (bit_xor (times (sbox p) 2) (times (sbox q) 3)) (bit_xor (sbox r) (sbox s)) (xor_lt 8 _ _ (two_lt (sbox p) (sbox_lt p hp)) (three_lt (sbox q) (sbox_lt q hq))) (xor_lt 8 _ _ (sbox_lt r hr) (sbox_lt s hs))

abbrev MixedIs : ℕ → ℕ → ℕ → ℕ → Type 0
MixedIs p q r s = bytes4 (mixed_word p q r s) ≡ mixed (sbox p) (sbox q) (sbox r) (sbox s) ∷ mixed (sbox q) (sbox r) (sbox s) (sbox p) ∷ mixed (sbox r) (sbox s) (sbox p) (sbox q) ∷ mixed (sbox s) (sbox p) (sbox q) (sbox r) ∷ []

mixed_bytes : (p q r s : ℕ) → p < 256 → q < 256 → r < 256 → s < 256 → MixedIs p q r s
unfolding mixed_word
mixed_bytes p q r s hp hq hr hs =
    word_bytes (mixed (sbox p) (sbox q) (sbox r) (sbox s)) (mixed (sbox q) (sbox r) (sbox s) (sbox p)) (mixed (sbox r) (sbox s) (sbox p) (sbox q)) (mixed (sbox s) (sbox p) (sbox q) (sbox r))
    (mixed_lt p q r s hp hq hr hs) (mixed_lt q r s p hq hr hs hp) (mixed_lt r s p q hr hs hp hq) (mixed_lt s p q r hs hp hq hr)

abbrev SubIs : ℕ → ℕ → ℕ → ℕ → Type 0
SubIs p q r s = bytes4 (sub_word p q r s) ≡ sbox p ∷ sbox q ∷ sbox r ∷ sbox s ∷ []

subbed_bytes : (p q r s : ℕ) → p < 256 → q < 256 → r < 256 → s < 256 → SubIs p q r s
unfolding sub_word
subbed_bytes p q r s hp hq hr hs = word_bytes (sbox p) (sbox q) (sbox r) (sbox s) (sbox_lt p hp) (sbox_lt q hq) (sbox_lt r hr) (sbox_lt s hs)

join4 : {a b c d a' b' c' d' : List ℕ} → a ≡ a' → b ≡ b' → c ≡ c' → d ≡ d' → a ++ b ++ c ++ d ≡ a' ++ b' ++ c' ++ d'
join4 p q r s = cc

-- the bytes of a sum of two states
pub unpack_xor : (s k : Columns) → unpack (record { c0 = bit_xor s.c0 k.c0; c1 = bit_xor s.c1 k.c1; c2 = bit_xor s.c2 k.c2; c3 = bit_xor s.c3 k.c3 }) ≡ xor_blocks (unpack s) (unpack k)
unfolding unpack xor_blocks
unpack_xor s k = join4 (bytes_xor s.c0 k.c0) (bytes_xor s.c1 k.c1) (bytes_xor s.c2 k.c2) (bytes_xor s.c3 k.c3)

abbrev Lt4 : ℕ → ℕ → ℕ → ℕ → Type 0
Lt4 a b c d = (a / 16777216 % 256 < 256) × (b / 65536 % 256 < 256) × (c / 256 % 256 < 256) × (d % 256 < 256)

lt4 : (a b c d : ℕ) → Lt4 a b c d
lt4 a b c d = (omega arith, omega arith, omega arith, omega arith)

mixed_at : (a b c d : ℕ) → MixedIs (a / 16777216 % 256) (b / 65536 % 256) (c / 256 % 256) (d % 256)
mixed_at a b c d = let h = lt4 a b c d in mixed_bytes (a / 16777216 % 256) (b / 65536 % 256) (c / 256 % 256) (d % 256) h.0 h.1 h.2 h.3

sub_at : (a b c d : ℕ) → SubIs (a / 16777216 % 256) (b / 65536 % 256) (c / 256 % 256) (d % 256)
sub_at a b c d = let h = lt4 a b c d in subbed_bytes (a / 16777216 % 256) (b / 65536 % 256) (c / 256 % 256) (d % 256) h.0 h.1 h.2 h.3

-- the columns of a round are the bytes of its steps
mixed_state : (s : Columns) → unpack (mixed_columns s) ≡ mix_columns (shift_rows (sub_bytes (unpack s)))
unfolding unpack mix_columns shift_rows sub_bytes
mixed_state s =
    join4 (mixed_at s.c0 s.c1 s.c2 s.c3) (mixed_at s.c1 s.c2 s.c3 s.c0)
    (mixed_at s.c2 s.c3 s.c0 s.c1) (mixed_at s.c3 s.c0 s.c1 s.c2)

sub_state : (s : Columns) → unpack (sub_columns s) ≡ shift_rows (sub_bytes (unpack s))
unfolding unpack shift_rows sub_bytes
sub_state s =
    join4 (sub_at s.c0 s.c1 s.c2 s.c3) (sub_at s.c1 s.c2 s.c3 s.c0)
    (sub_at s.c2 s.c3 s.c0 s.c1) (sub_at s.c3 s.c0 s.c1 s.c2)

-- m is s by a function of four bytes, column by column
abbrev ShiftedBy : (ℕ → ℕ → ℕ → ℕ → ℕ) → Columns → Columns → Type 0
ShiftedBy f s m = (m.c0 ≡ rows_of f s.c0 s.c1 s.c2 s.c3) × (m.c1 ≡ rows_of f s.c1 s.c2 s.c3 s.c0) × (m.c2 ≡ rows_of f s.c2 s.c3 s.c0 s.c1) × (m.c3 ≡ rows_of f s.c3 s.c0 s.c1 s.c2)

same_columns : {a b c d a' b' c' d' : ℕ} → a ≡ a' → b ≡ b' → c ≡ c' → d ≡ d' → ◌≡◌ {A = Columns} (record { c0 = a; c1 = b; c2 = c; c3 = d }) (record { c0 = a'; c1 = b'; c2 = c'; c3 = d' })
same_columns p q r s = cc

shifted_is : (f : ℕ → ℕ → ℕ → ℕ → ℕ) (s m : Columns) → ShiftedBy f s m → m ≡ shifted_by f s
shifted_is f s m (e0, e1, e2, e3) = same_columns e0 e1 e2 e3

pub round_bytes : (s k m t : Columns) → ShiftedBy mixed_word s m → unpack t ≡ xor_blocks (unpack m) (unpack k) → unpack t ≡ round (unpack s) (unpack k)
unfolding round
round_bytes s k m t e f = f ∙ ap (λ (x : List ℕ). xor_blocks x (unpack k)) (ap unpack (shifted_is mixed_word s m e) ∙ mixed_state s)

pub last_bytes : (s k m t : Columns) → ShiftedBy sub_word s m → unpack t ≡ xor_blocks (unpack m) (unpack k) → unpack t ≡ last_round (unpack s) (unpack k)
unfolding last_round
last_bytes s k m t e f = f ∙ ap (λ (x : List ℕ). xor_blocks x (unpack k)) (ap unpack (shifted_is sub_word s m e) ∙ sub_state s)

-- What the functions on columns compute, from what their calls ensure.

pub from_table : (p q r s x0 x1 x2 x3 y1 y2 y3 : ℕ) → p < 256 → q < 256 → r < 256 → s < 256 → x0 ≡ spread p → x1 ≡ spread q → x2 ≡ spread r → x3 ≡ spread s → y1 ≡ ror x1 256 16777216 → y2 ≡ ror x2 65536 65536 → y3 ≡ ror x3 16777216 256 → bit_xor (bit_xor x0 y1) (bit_xor y2 y3) ≡ mixed_word p q r s
from_table p q r s x0 x1 x2 x3 y1 y2 y3 hp hq hr hs e0 e1 e2 e3 r1 r2 r3 = cc (mixed_from_table p q r s hp hq hr hs)

be_bytes : (w x0 x1 x2 x3 : ℕ) → w ≡ x0 * 16777216 + x1 * 65536 + x2 * 256 + x3 → x0 < 256 → x1 < 256 → x2 < 256 → x3 < 256 → bytes4 w ≡ x0 ∷ x1 ∷ x2 ∷ x3 ∷ []
be_bytes w x0 x1 x2 x3 e h0 h1 h2 h3 =
    let e0 : w / 16777216 % 256 ≡ x0 = omega arith in
    let e1 : w / 65536 % 256 ≡ x1 = omega arith in
    let e2 : w / 256 % 256 ≡ x2 = omega arith in
    let e3 : w % 256 ≡ x3 = omega arith in
    cc

-- the word of the four bytes of b from place i on
abbrev pub be_at : List ℕ → ℕ → ℕ
be_at b i = get_or b i 0 * 16777216 + get_or b (i + 1) 0 * 65536 + get_or b (i + 2) 0 * 256 + get_or b (i + 3) 0

pub loaded : (b : List ℕ) (w0 w1 w2 w3 : ℕ) → length b ≡ 16 → ((i : ℕ) → get_or b i 0 < 256) → w0 ≡ be_at b 0 → w1 ≡ be_at b 4 → w2 ≡ be_at b 8 → w3 ≡ be_at b 12 → unpack (record { c0 = w0; c1 = w1; c2 = w2; c3 = w3 }) ≡ b
unfolding unpack
loaded b w0 w1 w2 w3 len h e0 e1 e2 e3 =
    join4 (be_bytes w0 _ _ _ _ e0 (h 0) (h 1) (h 2) (h 3)) (be_bytes w1 _ _ _ _ e1 (h 4) (h 5) (h 6) (h 7))
    (be_bytes w2 _ _ _ _ e2 (h 8) (h 9) (h 10) (h 11)) (be_bytes w3 _ _ _ _ e3 (h 12) (h 13) (h 14) (h 15))
    ∙ sym (fill_by_all (λ i. get_or b i 0) b 16 0 len (λ k lt. refl))

abbrev quad : List ℕ → ℕ → List ℕ
quad b i = get_or b i 0 ∷ get_or b (i + 1) 0 ∷ get_or b (i + 2) 0 ∷ get_or b (i + 3) 0 ∷ []

-- the four chunks of a block
pub quads : (b : List ℕ) (words : List (List ℕ)) → length b ≡ 16 → words ≡ first_chunks 4 (length b / 4) b → words ≡ quad b 0 ∷ quad b 4 ∷ quad b 8 ∷ quad b 12 ∷ []
quads b words len e =
    let n : length b / 4 ≡ 4 = omega arith in
    let f = fill_by_all (λ i. get_or b i 0) b 16 0 len (λ k lt. refl) in
    e ∙ ap (λ (k : ℕ). first_chunks 4 k b) n ∙ ap (first_chunks 4 4) f

second : (a b c d : ℕ) → b < 256 → c < 256 → d < 256 → word4 a b c d / 65536 % 256 ≡ b
second a b c d hb hc hd = omega arith

-- The S-box in the table's second byte.
pub sbox_in : (b x : ℕ) (ys : List ℕ) → b < 256 → x ≡ spread b → ys ≡ bytes4 x → get_or ys 1 0 ≡ sbox b
unfolding spread spread_of
sbox_in b x ys h e f =
    let s1 = sbox_lt b h in
    let g = second (times (sbox b) 2) (sbox b) (sbox b) (times (sbox b) 3) s1 s1 (three_lt (sbox b) s1) in
    cc

-- the core of the next round key: the last column turned by a byte, through the S-box, with the constant
core_bytes : (a b c d constant : ℕ) → a < 256 → b < 256 → c < 256 → d < 256 → constant < 256 → bytes4 (bit_xor (sub_word b c d a) (word4 constant 0 0 0)) ≡ bit_xor (sbox b) constant ∷ sbox c ∷ sbox d ∷ sbox a ∷ []
unfolding sub_word
core_bytes a b c d constant ha hb hc hd h =
    let zero : 0 < 256 = omega arith in
    let x = xor_word (sbox b) (sbox c) (sbox d) (sbox a) constant 0 0 0 (sbox_lt c hc) (sbox_lt d hd) (sbox_lt a ha) zero zero zero in
    let y : bit_xor (word4 (sbox b) (sbox c) (sbox d) (sbox a)) (word4 constant 0 0 0) ≡ word4 (bit_xor (sbox b) constant) (sbox c) (sbox d) (sbox a) = simp xor_zero_r at x in
    ap (λ (w : ℕ). bytes4 w) y ∙ word_bytes (bit_xor (sbox b) constant) (sbox c) (sbox d) (sbox a) (xor_lt 8 _ _ (sbox_lt b hb) h) (sbox_lt c hc) (sbox_lt d hd) (sbox_lt a ha)

next_bytes : (k w a b c d : ℕ) → bytes4 w ≡ a ∷ b ∷ c ∷ d ∷ [] → bytes4 (bit_xor k w) ≡ bit_xor (k / 16777216 % 256) a ∷ bit_xor (k / 65536 % 256) b ∷ bit_xor (k / 256 % 256) c ∷ bit_xor (k % 256) d ∷ []
next_bytes k w a b c d e = let x = bytes_xor k w in cc

-- the columns of the next round key
pub next_columns : (k : Columns) (constant s x : ℕ) → constant < 256 → s ≡ sub_word (k.c3 / 65536 % 256) (k.c3 / 256 % 256) (k.c3 % 256) (k.c3 / 16777216 % 256) → x ≡ word4 constant 0 0 0 → unpack (record { c0 = bit_xor k.c0 (bit_xor s x); c1 = bit_xor k.c1 (bit_xor k.c0 (bit_xor s x)); c2 = bit_xor k.c2 (bit_xor k.c1 (bit_xor k.c0 (bit_xor s x))); c3 = bit_xor k.c3 (bit_xor k.c2 (bit_xor k.c1 (bit_xor k.c0 (bit_xor s x)))) }) ≡ next_key constant (unpack k)
unfolding unpack
next_columns k constant s x h e f =
    let t = lt4 k.c3 k.c3 k.c3 k.c3 in
    let core = core_bytes (k.c3 / 16777216 % 256) (k.c3 / 65536 % 256) (k.c3 / 256 % 256) (k.c3 % 256) constant t.0 t.1 t.2 t.3 h in
    let w = ap₂ (λ (s x : ℕ). bytes4 (bit_xor s x)) e f ∙ core in
    let w0 = next_bytes k.c0 (bit_xor s x) _ _ _ _ w in
    let w1 = next_bytes k.c1 (bit_xor k.c0 (bit_xor s x)) _ _ _ _ w0 in
    let w2 = next_bytes k.c2 (bit_xor k.c1 (bit_xor k.c0 (bit_xor s x))) _ _ _ _ w1 in
    let w3 = next_bytes k.c3 (bit_xor k.c2 (bit_xor k.c1 (bit_xor k.c0 (bit_xor s x)))) _ _ _ _ w2 in
    join4 w0 w1 w2 w3
