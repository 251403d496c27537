-- The register, the log of commits, and what is written to a board.
use Rattle.std.specs.Prelude.{◌≡◌, ℕ, zero, suc, ◌+◌, ◌<◌, ◌≤◌, Bool, cond, List, [], ◌∷◌, ◌++◌, nat_lt}
use Rattle.std.proofs.Math.Option.{Option}
use Rattle.suite.specs.Scheme.{Body, Line, Scheme, data_line, node_line}
use Rattle.board.specs.Meaning.{Power, endless, writes}
use Rattle.machine.specs.Layout.{Shape, update}

-- The line that commits a body at an address under a counter: a data line below the nodes, a node's line from there on.
unfoldable pub line_at : Shape → Scheme → ℕ → ℕ → Body → Line
line_at T S a c b = cond (nat_lt a T.data_lines) (data_line S a c b) (node_line S a c b)

-- One redo entry: a committed line and its address.
pub record Journal : Type 0 where
  pub at : ℕ
  pub line : Line

-- The register by its meaning.
pub record Register : Type 0 where
  pub formatted : ℕ  -- 1 on a formatted board, 0 before
  pub levels : ℕ
  pub suite : ℕ  -- the suite's number
  pub roots : Body  -- the root's counters
  pub dirty_sum : ℕ  -- the sum of all counters of the dirty nodes
  pub journal : Option Journal  -- the newest commit, none since format
  pub dirty : ℕ → Bool  -- the dirty map, by node address

-- A commit: this body, at this address, under this counter.
pub record Commit : Type 0 where
  pub at : ℕ
  pub counter : ℕ
  pub body : Body

-- All commits of a history, the newest first.
abbrev pub Log : Type 0
Log = List Commit

-- A write to a board. A register write carries the place that a fault would name if power is lost there, and what it commits.
pub data Write : Type 0 where
  write_register : ℕ → Log → Register → Write
  write_line : ℕ → Line → Write

-- A board: its lines by address, their number, its register and its power.
pub record BoardState : Type 0 where
  pub memory : ℕ → Line
  pub size : ℕ
  pub register : Register
  pub power : Power

-- The board after a write that was done (power aside).
abbrev pub after_write : BoardState → Write → BoardState
after_write b (write_register x es r) = record { memory = b.memory; size = b.size; register = r; power = b.power }
after_write b (write_line a L) = record { memory = update b.memory a L; size = b.size; register = b.register; power = b.power }

-- The board after the first k writes of a list.
unfoldable pub after_writes : ℕ → List Write → BoardState → BoardState
after_writes k [] b = b
after_writes zero (w ∷ ws) b = b
after_writes (suc k) (w ∷ ws) b = after_writes k ws (after_write b w)

-- What the first k writes of a list commit, put before the log.
unfoldable pub log_after : ℕ → List Write → Log → Log
log_after k [] l = l
log_after zero (w ∷ ws) l = l
log_after (suc k) (write_register x es r ∷ ws) l = log_after k ws (es ++ l)
log_after (suc k) (write_line a L ∷ ws) l = log_after k ws l

-- How many of the first k writes are register writes.
unfoldable pub commits_in : ℕ → List Write → ℕ
commits_in k [] = 0
commits_in zero (w ∷ ws) = 0
commits_in (suc k) (write_register x es r ∷ ws) = suc (commits_in k ws)
commits_in (suc k) (write_line a L ∷ ws) = commits_in k ws

-- The place that is named if power is lost at write k of a list.
unfoldable pub place_of : ℕ → List Write → ℕ
place_of k [] = 0
place_of zero (write_register x es r ∷ ws) = x
place_of zero (write_line a L ∷ ws) = a
place_of (suc k) (w ∷ ws) = place_of k ws

-- Of w writes asked for, k were done and the power went from p to p': each done write lowers it by at least one, and none is done without power.
abbrev pub Cut : Power → ℕ → ℕ → Power → Type 0
Cut endless w k endless = k ≡ w
Cut endless w k (writes q) = ⊥
Cut (writes p) w k endless = ⊥
Cut (writes p) w k (writes q) = (k ≤ w) × (q + k ≤ p) × (k < w → q ≡ 0) × (k ≡ 0 → q ≡ p)
