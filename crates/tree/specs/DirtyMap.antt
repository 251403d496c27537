-- The bits of a dirty map.
use Rattle.std.specs.Prelude.{◌≡◌, ℕ, ◌-◌, ◌*◌, ◌/◌, ◌%◌, ◌^◌, ◌<◌, ◌≤◌, min, true, false, cond, List, Some, None, Option as Maybe, bit_or, slice_index, slice_set}
use Rattle.std.specs.Int.{bit_at}
use Rattle.machine.specs.Layout.{sum_to}
use Rattle.machine.specs.Words.{bit}

-- How many of the 640 bits of a dirty map are set.
unfoldable pub bits_set : List ℕ → ℕ
bits_set map = sum_to 640 (λ j. cond (bit map j) 1 0)

-- The highest bit below r that is set in a dirty map, if any.
abbrev pub HighestBelow : List ℕ → ℕ → Maybe ℕ → Type 0
HighestBelow map r None = (k : ℕ) → k < r → bit map k ≡ false
HighestBelow map r (Some j) = (j < r) × (bit map j ≡ true) × ((k : ℕ) → j < k → k < r → bit map k ≡ false)

-- The highest bit below r that is set in a word, if any.
abbrev pub TopBit : ℕ → ℕ → Maybe ℕ → Type 0
TopBit w r None = (k : ℕ) → k < r → bit_at w k ≡ 0
TopBit w r (Some j) = (j < r) × (bit_at w j ≡ 1) × ((k : ℕ) → j < k → k < r → bit_at w k ≡ 0)

-- The highest bit below r that is set in word i of a dirty map, if any, with r and the bit counted over the whole map.
unfoldable pub TopOfWord : ℕ → ℕ → ℕ → Maybe ℕ → Type 0
TopOfWord i w r None = TopBit w (min (r - 64 * i) 64) None
TopOfWord i w r (Some n) = (64 * i ≤ n) × TopBit w (min (r - 64 * i) 64) (Some (n - 64 * i))

-- A dirty map once one of its bits is set: a word with one bit more.
abbrev pub with_bit : List ℕ → ℕ → List ℕ
with_bit map j = slice_set map (j / 64) (bit_or (slice_index map (j / 64)) ((1 * 2 ^ (j % 64)) % 2 ^ 64))
