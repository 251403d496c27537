-- What each call of a board answers, and what the board is afterwards.
use Rattle.std.specs.Prelude.{◌≡◌, ℕ, ◌<◌, ◌≤◌, List, length, Ok, Err, Result, slice_index_or, slice_set}
use Rattle.board.specs.Meaning.{Meaning, writes, Spent}
use Rattle.board.specs.declared.types.Line.{Line}
use Rattle.board.specs.declared.types.BoardFault.{BoardFault}
use Rattle.board.specs.declared.types.BoardFault.TheVariants.{Absent, PowerLost}

-- Reading the line at address a: the line that stands there, or absent where there is none. Power plays no part.
abbrev pub LineRead : Meaning → ℕ → Result Line BoardFault → Type 0
LineRead m a (Ok l) = (a < length m.lines) × (l ≡ slice_index_or m.lines a l)
LineRead m a (Err Absent) = length m.lines ≤ a
LineRead m a (Err PowerLost) = ⊥

-- Writing the line at address a: that line is replaced, the other lines and the register stay, and power is spent.
-- Absence is judged first, then power. A refused write leaves the whole meaning.
abbrev pub LineWritten : Meaning → ℕ → Line → Result (Unit {0}) BoardFault → Meaning → Type 0
LineWritten m a l (Ok _) m' = (a < length m.lines) × (m'.lines ≡ slice_set m.lines a l) × (m'.register ≡ m.register) × Spent m.power m'.power
LineWritten m a l (Err Absent) m' = (length m.lines ≤ a) × (m' ≡ m)
LineWritten m a l (Err PowerLost) m' = (a < length m.lines) × (m.power ≡ writes 0) × (m' ≡ m)

-- Writing the register whole: its words are replaced, the lines stay, and power is spent.
-- A refused write leaves the whole meaning.
abbrev pub RegisterWritten : Meaning → List ℕ → Result (Unit {0}) BoardFault → Meaning → Type 0
RegisterWritten m ws (Ok _) m' = (m'.lines ≡ m.lines) × (m'.register ≡ ws) × Spent m.power m'.power
RegisterWritten m ws (Err Absent) m' = ⊥
RegisterWritten m ws (Err PowerLost) m' = (m.power ≡ writes 0) × (m' ≡ m)
