use Rattle.std.proofs.Common.{◌≡◌, ℕ, ◌+◌, ◌*◌, ◌/◌, ◌^◌, ◌<◌, ◌≤◌, length, get_or, drop}
use Rattle.sip.specs.Sip.{le}
use Rattle.sip.proofs.words.last_word.Given as goal

-- What the iterator still has is the front of the bytes left, and the word is of those behind it.
abbrev pub invariant-loop-byte : goal.invariant-loop-byte
invariant-loop-byte l =
    (l.word ≡ le (drop (8 * (length l.message / 8) + length l.byte-iterator.iter.rest.now) l.message)) × (l.word < 2 ^ 56) ×
    (8 * (length l.message / 8) + length l.byte-iterator.iter.rest.now ≤ length l.message) ×
    ((k : ℕ) → k < length l.byte-iterator.iter.rest.now → get_or l.byte-iterator.iter.rest.now k 0 ≡ get_or l.message (8 * (length l.message / 8) + k) 0)
