-- What a board is: its lines, its register and its power.
use Rattle.std.specs.Prelude.{◌≡◌, ℕ, ◌<◌, min, List, Some, None, Option}
use Rattle.board.specs.declared.types.Line.{Line}

-- How many writes are still to come: no end, or a number.
pub data Power : Type 0 where
  endless : Power
  writes : ℕ → Power

-- The lines from address 0 on, the words of the register, and the power.
pub record Meaning : Type 0 where
  pub lines : List Line
  pub register : List ℕ
  pub power : Power

-- The power before and after a write that was done: lowered by at least one; without end it stays so.
abbrev pub Spent : Power → Power → Type 0
Spent endless q = q ≡ endless
Spent (writes n) endless = ⊥
Spent (writes n) (writes m) = m < n

-- The smaller of a number of writes, if there is one, and a power.
abbrev pub lesser : Option ℕ → Power → Power
lesser None p = p
lesser (Some n) endless = writes n
lesser (Some n) (writes m) = writes (min n m)
