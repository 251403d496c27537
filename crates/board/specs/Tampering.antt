-- What reaches a board past its own calls: a line put in place, and power set anew.
use Rattle.std.specs.Prelude.{◌≡◌, ℕ, ◌<◌, ◌≤◌, Bool, true, false, length, Option, slice_set}
use Rattle.board.specs.Meaning.{Meaning, Power, lesser}
use Rattle.board.specs.declared.types.Line.{Line}

-- A line is put at address a whatever the power, or is not since there is no such line. Register and power stay.
abbrev pub LinePut : Meaning → ℕ → Line → Bool → Meaning → Type 0
LinePut m a l true m' = (a < length m.lines) × (m'.lines ≡ slice_set m.lines a l) × (m'.register ≡ m.register) × (m'.power ≡ m.power)
LinePut m a l false m' = (length m.lines ≤ a) × (m' ≡ m)

-- Power is set anew to the lesser of a number, if there is one, and the supply. Lines and register stay.
abbrev pub Recharged : Meaning → Power → Option ℕ → Meaning → Type 0
Recharged m supply left m' = (m'.lines ≡ m.lines) × (m'.register ≡ m.register) × (m'.power ≡ lesser left supply)
