-- What reaches a board between the calls: a line put in place from outside, and power set anew.
use Rattle.std.specs.Prelude.{◌≡◌, ℕ, Bool, true, false}
use Rattle.suite.specs.Scheme.{Line, Scheme}
use Rattle.machine.specs.Layout.{eight_ary}
use Rattle.machine.specs.Store.{Log}
use Rattle.machine.specs.History.{World, Event, tamper, Answer, nothing, Fair, Reached}
use Rattle.controller.specs.Worlds.{GoesOn}

-- In every history that came to world w, event e goes on to w', if it is one that the history's premise allows.
abbrev pub KeepsFair : Scheme → World → Event → Answer → World → Type 0
KeepsFair S w e x w' = (l : Log) → Reached eight_ary S w l → Fair eight_ary S w l e → (l' : Log) × GoesOn S w l e x w' l'

-- A line was put in place, which is a tampering, or the board has no such line and nothing changed.
abbrev pub Tampers : Scheme → World → ℕ → Line → Bool → World → Type 0
Tampers S w a L true w' = KeepsFair S w (tamper a L) nothing w'
Tampers S w a L false w' = w' ≡ w
