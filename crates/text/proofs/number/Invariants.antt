use Rattle.std.proofs.Common.{◌≡◌, ℕ, ◌^◌, ◌<◌, get_or, drop}
use Rattle.text.specs.Spelling.{Digit, read_on}
use Rattle.text.proofs.number.Given as goal

-- what is left, read behind the value, gives the whole
abbrev pub invariant-loop-byte : goal.invariant-loop-byte
invariant-loop-byte l = (read_on l.value (drop l.byte-index l.text) ≡ read_on 0 l.text) × ((k : ℕ) → k < l.byte-index → Digit (get_or l.text k 0)) × (l.value < 2 ^ 64)
