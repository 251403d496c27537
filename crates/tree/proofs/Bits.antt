-- The bits of a word, and of a run of words.
use Rattle.std.proofs.Common.{◌≡◌, ℕ, zero, suc, ◌+◌, ◌-◌, ◌*◌, ◌/◌, ◌%◌, ◌^◌, ◌<◌, ◌≤◌, Some, None, Option as Maybe, MatchOption, IfSome, is_some, not, true, false, cond, eqb, List, length, get_or, sum_by, min, sym, ap, ◌∙◌, subst, ⊎_elim, lt_of_not-le, arith, pow_mono}
use native.Mathlib.Nat.{pow-succ'}
use lib.Bits.{bit_and}
use lib.Count.{count_leading_zeros, ones, ones_step, ones-le}
use Rattle.std.specs.Int.{bit_at as word_bit}
use Rattle.std.proofs.lemmas.Nat.Bits.{bit_at_cat_low, bit_at_above, bit_at-zero, bit_at-suc, bit_at_lowest, bit_at-lt}
use Rattle.std.proofs.Math.Nat.{div-add-mod}
use Rattle.std.proofs.lemmas.Nat.{pow_pos, mod-mul-add, mod_below, div_below, le-div, and_mask, one_shl, leading_top, div-mul-add}
use Rattle.std.proofs.lemmas.List.{get_or_past}
use Rattle.std.proofs.lemmas.List.Elements.{All-from_get_or}
use Rattle.std.proofs.lemmas.List.Sums.{sum_by-le}
use Rattle.std.proofs.lemmas.Bool.Decides.{nat_tests}
use Rattle.std.proofs.lemmas.Bool.{cases_lt}
use Rattle.machine.specs.Words.{bit}
use Rattle.machine.specs.Layout.{sum_to}
use Rattle.machine.proofs.Basics.{sum_same, sum_zero}
use Rattle.tree.specs.DirtyMap.{bits_set, TopBit, TopOfWord, HighestBelow}
use Rattle.tree.proofs.Sums.{sum_by_steps}

pub bit_low : (w r k : ℕ) → k < r → word_bit (w % 2 ^ r) k ≡ word_bit w k
bit_low w r k h =
    let parts : w / 2 ^ r * 2 ^ r + w % 2 ^ r ≡ w = omega (arith, div-add-mod w (2 ^ r)) in
    sym (bit_at_cat_low (w / 2 ^ r) r (w % 2 ^ r) k h) ∙ ap (λ x. word_bit x k) parts

pub bit_top : (w j : ℕ) → 2 ^ j ≤ w → w < 2 ^ suc j → word_bit w j ≡ 1
bit_top w j l h =
    let one : w / 2 ^ j ≡ 1 = omega (arith, le-div 1 w (2 ^ j) (pow_pos j) (omega arith), div_below w (2 ^ j) 2 (pow_pos j) (omega (arith, pow-succ' 2 j))) in
    ap (λ x. x % 2) one

pub bit_above : (w j k : ℕ) → w < 2 ^ j → j ≤ k → word_bit w k ≡ 0
bit_above w j k h l = bit_at_above w j k h l

pub mask_of : (w r low : ℕ) → r < 64 → low ≡ bit_and w ((1 * 2 ^ r) % 2 ^ 64 - 1) → low ≡ w % 2 ^ r
mask_of w r low h e = e ∙ ap (λ x. bit_and w (x - 1)) (one_shl r 64 h) ∙ and_mask w r

pub none_below : (w r low : ℕ) → low ≡ w % 2 ^ r → low ≡ 0 → (k : ℕ) → k < r → word_bit w k ≡ 0
none_below w r low e z k h = sym (bit_low w r k h) ∙ ap (λ x. word_bit x k) (sym e ∙ z) ∙ bit_at-zero k

pub top_below : (w r low : ℕ) → r ≤ 64 → low ≡ w % 2 ^ r → (low ≡ 0 → ⊥) → TopBit w r (Some (63 - count_leading_zeros 64 low))
top_below w r low fits e nz =
    let under : low < 2 ^ r = omega (arith, e, mod_below w (2 ^ r) (pow_pos r)) in
    let some : 0 < low = omega arith in
    let word : low < 2 ^ 64 = omega (arith, pow_mono fits) in
    let t = leading_top 64 low some word in
    let is : 63 - count_leading_zeros 64 low ≡ t.0 = omega (arith, t.1) in
    let lt : t.0 < r = lt_of_not-le (λ (g : r ≤ t.0). omega (arith, pow_mono g, t.2)) in
    let here : word_bit w t.0 ≡ 1 = sym (bit_low w r t.0 lt) ∙ ap (λ x. word_bit x t.0) (sym e) ∙ bit_top low t.0 t.2 t.3 in
    subst (λ x. TopBit w r (Some x)) (sym is)
    (lt, here, λ k a b. sym (bit_low w r k b) ∙ ap (λ x. word_bit x k) (sym e) ∙ bit_above low (suc t.0) k t.3 (omega arith))

-- The highest bit, where nothing is said of a word of zeros.
pub top_of : (w r low : ℕ) (o : Maybe ℕ) → r ≤ 64 → low ≡ w % 2 ^ r → is_some o ≡ not (eqb low 0) → IfSome o (λ k. k ≡ 63 - count_leading_zeros 64 low) → TopBit w r o
top_of w r low None fits e found value =
    let zero-low : low ≡ 0 = grind (arith, nat_tests) in
    none_below w r low e zero-low
top_of w r low (Some k) fits e found value =
    let some-low : low ≡ 0 → ⊥ = grind (arith, nat_tests) in
    subst (λ x. TopBit w r (Some x)) (sym value) (top_below w r low fits e some-low)

-- Bit j of a run of words, as a number.
unfoldable pub bit_at : List ℕ → ℕ → ℕ
bit_at ws j = word_bit (get_or ws (j / 64) 0) (j % 64)

pub bit_value : (ws : List ℕ) (j : ℕ) → bit_at ws j ≡ cond (bit ws j) 1 0
unfolding bit_at
bit_value ws j = grind (arith, nat_tests, bit_at-lt (get_or ws (j / 64) 0) (j % 64))

-- Past the words no bit is set.
pub bit_past : (ws : List ℕ) (k : ℕ) → length ws * 64 ≤ k → bit ws k ≡ false
bit_past ws k h =
    ap (λ w. eqb (word_bit w (k % 64)) 1) (get_or_past ws (k / 64) 0 (le-div (length ws) k 64 (omega arith) h)) ∙ ap (λ x. eqb x 1) (bit_at-zero (k % 64))

-- Bit 64 i + j of the words is bit j of word i.
pub bit_of : (ws : List ℕ) (i j : ℕ) → j < 64 → bit_at ws (64 * i + j) ≡ word_bit (get_or ws i 0) j
unfolding bit_at
bit_of ws i j h =
    let e : 64 * i + j ≡ i * 64 + j = omega arith in
    ap (bit_at ws) e ∙ ap (λ x. word_bit (get_or ws x 0) ((i * 64 + j) % 64)) (div-mul-add i 64 j h) ∙ ap (λ x. word_bit (get_or ws i 0) x) (mod-mul-add i 64 j h)

-- So it is set where that is 1.
set_of : (ws : List ℕ) (i j : ℕ) → j < 64 → bit ws (64 * i + j) ≡ eqb (word_bit (get_or ws i 0) j) 1
unfolding bit_at
set_of ws i j h = ap (λ x. eqb x 1) (bit_of ws i j h)

-- The bits from 64 (i + 1) on are clear, and so are those of word i from a on: then so are those from 64 i + a on.
module _ (ws : List ℕ) (i below r : ℕ) (is : r ≡ min (below - 64 * i) 64) (clear : (k : ℕ) → 64 * (i + 1) ≤ k → k < below → bit ws k ≡ false) where
  pub row_clear : (a : ℕ) → ((k : ℕ) → a ≤ k → k < r → word_bit (get_or ws i 0) k ≡ 0) → (k : ℕ) → 64 * i + a ≤ k → k < below → bit ws k ≡ false
  row_clear a word k l h =
      ⊎_elim
      (λ (lt : k < 64 * (i + 1)).
      let e : k ≡ 64 * i + (k - 64 * i) = omega arith in
      ap (bit ws) e ∙ set_of ws i (k - 64 * i) (omega arith) ∙ ap (λ x. eqb x 1) (word (k - 64 * i) (omega arith) (omega arith)))
      (λ (ge : 64 * (i + 1) ≤ k). clear k ge h)
      (cases_lt k (64 * (i + 1)))

  pub found : (j : ℕ) → j < r → word_bit (get_or ws i 0) j ≡ 1 → ((k : ℕ) → j < k → k < r → word_bit (get_or ws i 0) k ≡ 0)
      → (64 * i + j < below) × (bit ws (64 * i + j) ≡ true) × ((k : ℕ) → 64 * i + j < k → k < below → bit ws k ≡ false)
  found j lt one word = (
    omega arith,
    set_of ws i j (omega arith) ∙ ap (λ x. eqb x 1) one,
    λ k a b. row_clear (j + 1) (λ m x y. word m (omega arith) y) k (omega arith) b,
  )

-- Words a and up have no bit below the bound: then none from bit 64 a on is set there.
words_clear : (ws : List ℕ) (below a : ℕ) → ((i : ℕ) → a ≤ i → i < length ws → TopOfWord i (get_or ws i 0) below None) → (k : ℕ) → 64 * a ≤ k → k < below → bit ws k ≡ false
unfolding TopOfWord
words_clear ws below a none k l h = ⊎_elim (λ (lt : k / 64 < length ws). ap (λ x. eqb x 1) (none (k / 64) (omega arith) lt (k % 64) (omega arith))) (λ (ge : length ws ≤ k / 64). bit_past ws k (omega arith)) (cases_lt (k / 64) (length ws))

-- The highest bit is the highest of the first word, from the last one down, that has any.
pub highest_of : (ws : List ℕ) (below : ℕ) (r : Maybe ℕ) → MatchOption r ((i : ℕ) → i < length ws → TopOfWord i (get_or ws i 0) below None) (λ n. (i : ℕ) × (i < length ws) × TopOfWord i (get_or ws i 0) below (Some n) × ((k : ℕ) → i < k → k < length ws → TopOfWord k (get_or ws k 0) below None)) → HighestBelow ws below r
unfolding TopOfWord
highest_of ws below None none = λ k h. words_clear ws below 0 (λ i _ l. none i l) k (omega arith) h
highest_of ws below (Some n) (i, h, (first, (low, one, rest)), above) =
    let is : 64 * i + (n - 64 * i) ≡ n = omega arith in (
      omega arith,
      ap (bit ws) (sym is) ∙ set_of ws i (n - 64 * i) (omega arith) ∙ ap (λ x. eqb x 1) one,
      λ k a b. ⊎_elim
          (λ (lt : k < 64 * (i + 1)).
          let e : k ≡ 64 * i + (k - 64 * i) = omega arith in
          ap (bit ws) e ∙ set_of ws i (k - 64 * i) (omega arith) ∙ ap (λ x. eqb x 1) (rest (k - 64 * i) (omega arith) (omega arith)))
          (λ (ge : 64 * (i + 1) ≤ k). words_clear ws below (i + 1) (λ m l c. above m (omega arith) c) k ge b)
          (cases_lt k (64 * (i + 1))),
    )

sum_front : (n : ℕ) (f : ℕ → ℕ) → sum_to (suc n) f ≡ f 0 + sum_to n (λ k. f (suc k))
unfolding sum_to
sum_front zero f = omega arith
sum_front (suc n) f = omega (arith, sum_front n f)

pub sum_append : (a n : ℕ) (f : ℕ → ℕ) → sum_to (a + n) f ≡ sum_to a f + sum_to n (λ k. f (a + k))
unfolding sum_to
sum_append a zero f = let e : a + zero ≡ a = omega arith in ap (λ x. sum_to x f) e ∙ (let z : sum_to a f ≡ sum_to a f + 0 = omega arith in z)
sum_append a (suc n) f = let e : a + suc n ≡ suc (a + n) = omega arith in ap (λ x. sum_to x f) e ∙ omega (arith, sum_append a n f)

-- The set bits of a word, counted bit by bit.
ones_sum : (d w : ℕ) → w < 2 ^ d → ones w ≡ sum_to d (word_bit w)
ones_sum zero w h = let e : ones w ≤ 0 = ones-le 0 w h in omega (arith, e, sum_zero zero (word_bit w) (λ i k. absurd (omega arith)))
ones_sum (suc d) w h =
    ones_step w
    ∙ ap (λ x. w % 2 + x) (ones_sum d (w / 2) (omega (arith, pow-succ' 2 d)) ∙ sum_same d (word_bit (w / 2)) (λ k. word_bit w (suc k)) (λ k x. sym (bit_at-suc w k)))
    ∙ ap (λ x. x + sum_to d (λ k. word_bit w (suc k))) (sym (bit_at_lowest w))
    ∙ sym (sum_front d (word_bit w))

-- The set bits of the words, counted word by word.
pub bits_none : (ws : List ℕ) → 0 ≡ sum_to (64 * 0) (λ j. cond (bit ws j) 1 0)
bits_none ws = sym (sum_zero (64 * 0) (λ j. cond (bit ws j) 1 0) (λ i k. absurd (omega arith)))

pub bits_more : (ws : List ℕ) (i : ℕ) → get_or ws i 0 < 2 ^ 64 → sum_to (64 * i) (λ j. cond (bit ws j) 1 0) + ones (get_or ws i 0) ≡ sum_to (64 * (i + 1)) (λ j. cond (bit ws j) 1 0)
bits_more ws i f =
    let q : 64 * i + 64 ≡ 64 * (i + 1) = omega arith in
    ap (λ x. sum_to (64 * i) (λ j. cond (bit ws j) 1 0) + x) (ones_sum 64 (get_or ws i 0) f ∙ sum_same 64 (word_bit (get_or ws i 0)) (λ k. cond (bit ws (64 * i + k)) 1 0) (λ k x. value (word_bit (get_or ws i 0) k) (bit_at-lt (get_or ws i 0) k) ∙ ap (λ b. cond b 1 0) (sym (set_of ws i k x))))
    ∙ sym (sum_append (64 * i) 64 (λ j. cond (bit ws j) 1 0))
    ∙ ap (λ x. sum_to x (λ j. cond (bit ws j) 1 0)) q
  where
    value : (x : ℕ) → x < 2 → x ≡ cond (eqb x 1) 1 0
    value x h = grind (arith, nat_tests)

-- The set bits of a dirty map, by its words.
pub map_bits : (ws : List ℕ) → length ws ≡ 10 → ((i : ℕ) → get_or ws i 0 < 2 ^ 64) → sum_by ones ws ≡ bits_set ws
unfolding bits_set
map_bits ws e fit = sum_by_steps ones (λ i. sum_to (64 * i) (λ j. cond (bit ws j) 1 0)) ws 0 (bits_none ws) (λ i h. bits_more ws i (fit i)) ∙ ap (λ i. sum_to (64 * i) (λ j. cond (bit ws j) 1 0)) e

-- A word has at most 64.
pub few_bits : (ws : List ℕ) → ((i : ℕ) → get_or ws i 0 < 2 ^ 64) → sum_by ones ws ≤ length ws * 64
few_bits ws fit = sum_by-le ones 64 ws (All-from_get_or (λ w. ones w ≤ 64) ws 0 (λ i h. ones-le 64 (get_or ws i 0) (fit i)))
