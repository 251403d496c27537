-- What a fuse and a window make of the board below.
use Rattle.std.specs.Prelude.{◌≡◌, ℕ, ◌+◌, ◌-◌, ◌<◌, Bool, true, false, List, length, take, drop, Some, None, Ok, Err, Option, Result, slice_index_or, slice_set}
use Rattle.board.specs.Meaning.{Meaning, lesser}
use Rattle.board.specs.Calls.{LineWritten, RegisterWritten}
use Rattle.board.specs.Tampering.{LinePut}
use Rattle.board.specs.declared.types.Line.{Line}
use Rattle.board.specs.declared.types.BoardFault.{BoardFault}

-- A board under a fuse: its lines and its register, and the lesser power.
abbrev pub fused : Meaning → Option ℕ → Meaning
fused m left = record { lines = m.lines; register = m.register; power = lesser left m.power }

-- A fuse's number after a write that was done.
abbrev pub lowered : Option ℕ → Option ℕ
lowered None = None
lowered (Some n) = Some (n - 1)

-- What a write of a line through a fuse does to the board below and to the number: a done write is done below and
-- lowers the number, a refused one leaves both.
abbrev pub LineFused : Meaning → Option ℕ → ℕ → Line → Result (Unit {0}) BoardFault → Meaning → Option ℕ → Type 0
LineFused m left a l (Ok u) m' left' = LineWritten m a l (Ok u) m' × (left' ≡ lowered left)
LineFused m left a l (Err _) m' left' = (m' ≡ m) × (left' ≡ left)

-- The same of a write of the register.
abbrev pub RegisterFused : Meaning → Option ℕ → List ℕ → Result (Unit {0}) BoardFault → Meaning → Option ℕ → Type 0
RegisterFused m left ws (Ok u) m' left' = RegisterWritten m ws (Ok u) m' × (left' ≡ lowered left)
RegisterFused m left ws (Err _) m' left' = (m' ≡ m) × (left' ≡ left)

-- A board in a window: the lines from `start` on, `len` of them as far as they exist.
abbrev pub windowed : Meaning → ℕ → ℕ → Meaning
windowed m start len = record { lines = take len (drop start m.lines); register = m.register; power = m.power }

-- A window on lines xs shows line k of them at its address a: reading and replacing it there is reading and replacing line k.
pub record Shows (xs : List Line) (start len a k : ℕ) : Type 0 where
  pub place : k ≡ start + a
  pub within : a < length (take len (drop start xs))
  pub there : k < length xs
  pub reads : (d : Line) → slice_index_or (take len (drop start xs)) a d ≡ slice_index_or xs k d
  pub puts : (l : Line) → take len (drop start (slice_set xs k l)) ≡ slice_set (take len (drop start xs)) a l

-- What a write of line a through a window does to the board below: a done write is done below at `start + a`, a refused
-- one leaves all. So the lines outside the window stay.
abbrev pub LineShown : Meaning → ℕ → ℕ → Line → Result (Unit {0}) BoardFault → Meaning → Type 0
LineShown m start a l (Ok u) m' = LineWritten m (start + a) l (Ok u) m'
LineShown m start a l (Err _) m' = m' ≡ m

-- The same of a line that is put in place past power.
abbrev pub PutShown : Meaning → ℕ → ℕ → Line → Bool → Meaning → Type 0
PutShown m start a l true m' = LinePut m (start + a) l true m'
PutShown m start a l false m' = m' ≡ m
