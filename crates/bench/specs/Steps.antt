-- What the steps of a script ask of the board.
use Rattle.std.specs.Prelude.{ℕ, cond, [], ◌∷◌, length, Some, None, Option, nat_lt, slice_index_or}
use Rattle.board.specs.Meaning.{Meaning}
use Rattle.board.specs.declared.types.Line.{Line}
use Rattle.machine.specs.Words.{no_line}
use Rattle.controller.specs.declared.event.Event.{Event}
use Rattle.controller.specs.declared.event.Event.TheVariants.{Tamper}
use Rattle.controller.specs.declared.event.Event.TheVariants.{Read as Reads, Write as Writes, Flush as Flushes, Restart as Restarts, Recharge as Recharges}
use Rattle.script.specs.declared.types.Step.{Step}
use Rattle.script.specs.declared.types.Step.TheVariants.{Read, Write, Flush, Restart, Recharge, Copy, Put}

-- The copy is put at address a past power, if there is a copy.
abbrev pub put_of : Option Line → ℕ → Option Event
put_of (Some l) a = Some (Tamper a l)
put_of None a = None

-- What a step asks of the board, if anything. A written body has the word given and seven zeros.
abbrev pub event_of : Option Line → Step → Option Event
event_of k (Read a) = Some (Reads a)
event_of k (Write a b) = Some (Writes a (b ∷ 0 ∷ 0 ∷ 0 ∷ 0 ∷ 0 ∷ 0 ∷ 0 ∷ []))
event_of k Flush = Some Flushes
event_of k Restart = Some Restarts
event_of k (Recharge left) = Some (Recharges left)
event_of k (Copy a) = None
event_of k (Put a) = put_of k a

-- The copy after a step on board m: a line past the memory leaves it.
abbrev pub copy_after : Meaning → Option Line → Step → Option Line
copy_after m k (Read a) = k
copy_after m k (Write a b) = k
copy_after m k Flush = k
copy_after m k Restart = k
copy_after m k (Recharge left) = k
copy_after m k (Copy a) = cond (nat_lt a (length m.lines)) (Some (slice_index_or m.lines a no_line)) k
copy_after m k (Put a) = k
