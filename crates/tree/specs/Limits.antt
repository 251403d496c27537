-- Counters within the limit.
use Rattle.std.specs.Prelude.{ℕ, ◌<◌, ◌≤◌}
use Rattle.suite.specs.Scheme.{Body}
use Rattle.machine.specs.Layout.{counter_limit}

-- No counter of a node is above the limit.
abbrev pub WithinLimit : Body → Type 0
WithinLimit f = (k : ℕ) → k < 8 → f k ≤ counter_limit
