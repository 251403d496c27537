-- Counters within the limit.
use Rattle.std.proofs.Common.{◌≡◌, ℕ, ◌<◌, ◌≤◌, true, leb}
use Rattle.std.proofs.lemmas.Bool.{le-leb, leb-true}
use Rattle.machine.specs.Layout.{counter_limit, all_within}
use Rattle.machine.proofs.Basics.{every_at, every_from}

pub within_true : (f : ℕ → ℕ) → ((k : ℕ) → k < 8 → f k ≤ counter_limit) → all_within f ≡ true
unfolding all_within
within_true f h = every_from 8 (λ i. leb (f i) counter_limit) (λ i k. le-leb (f i) counter_limit (h i k))

pub within_at : (f : ℕ → ℕ) → all_within f ≡ true → (k : ℕ) → k < 8 → f k ≤ counter_limit
unfolding all_within
within_at f e k h = leb-true (f k) counter_limit (every_at 8 (λ i. leb (f i) counter_limit) e k h)
