-- A board's history: what can happen to it, and what each event leaves.
use Rattle.std.specs.Prelude.{◌≡◌, ℕ, ◌+◌, ◌<◌, ◌≤◌, Bool, true, cond, not, ◌&&◌, ◌||◌, ◌⊎◌, List, [], ◌∷◌, length, ◌==◌, nat_le, nat_lt}
use Rattle.std.proofs.Math.Option.{Option, some, none}
use Rattle.suite.specs.Scheme.{Body, Line, Scheme, right}
use Rattle.board.specs.Meaning.{Power}
use Rattle.machine.specs.Layout.{Shape, update, every}
use Rattle.machine.specs.Store.{line_at, Journal, Register, Log, Write, write_line, BoardState, after_writes, log_after, commits_in, place_of, Cut}
use Rattle.machine.specs.Faults.{Fault, fault, Outcome, ok, err, bad_size, too_few_lines, invalid_register, already_formatted, other_suite, too_many_dirty, power_lost}
use Rattle.machine.specs.Plans.{Table, View, Run, write_call, flush_call, read_call, recover, map_count, format_writes}

-- The chip: cold (not brought up), open with so many slots and what they hold, or answering every call with one latched fault.
pub data Chip : Type 0 where
  cold : Chip
  opened : ℕ → Table → Chip
  latched : Fault → Chip

-- A board and the chip beside it.
pub record World : Type 0 where
  pub board : BoardState
  pub chip : Chip

-- What can happen. A loss of power between two calls is a shut-down.
pub data Event : Type 0 where
  format : ℕ → Event  -- with so many levels
  bring_up : ℕ → ℕ → Event  -- with so many slots, under this suite's number
  read : ℕ → Event
  write : ℕ → Body → Event
  flush : Event
  shut_down : Event
  tamper : ℕ → Line → Event  -- from outside, this line is put at this address
  recharge : Power → Event

-- What a call answers: a body; done, with the commits made; refused, with the commits made.
pub data Answer : Type 0 where
  nothing : Answer
  body_is : Body → Answer
  done : ℕ → Answer
  refused : Fault → ℕ → Answer

-- The counter under which an address was last committed.
unfoldable pub counter_in : Log → ℕ → ℕ
counter_in [] a = 0
counter_in (e ∷ l) a = cond (e.at == a) e.counter (counter_in l a)

-- The body last committed at an address.
unfoldable pub body_in : Log → ℕ → Body
body_in [] a = λ i. 0
body_in (e ∷ l) a = cond (e.at == a) e.body (body_in l a)

-- Body b was committed at address a under counter c.
abbrev pub InLog : Log → ℕ → ℕ → Body → Type 0
InLog [] a c b = ⊥
InLog (e ∷ l) a c b = ((e.at ≡ a) × (e.counter ≡ c) × (e.body ≡ b)) ⊎ InLog l a c b

-- What a call on this board with these slots works on.
abbrev pub view_of : BoardState → Table → View
view_of b t = record { memory = b.memory; register = b.register; table = t }

-- The board after k writes, with this power left.
abbrev pub after : BoardState → ℕ → List Write → Power → BoardState
after b k ws p = record { memory = (after_writes k ws b).memory; size = b.size; register = (after_writes k ws b).register; power = p }

-- How a call answers whose planned writes were all done.
abbrev pub ending : Option Fault → ℕ → Answer
ending none n = done n
ending (some r) n = refused r n

-- Power is lost at write k.
abbrev pub power_lost_at : ℕ → List Write → Fault
power_lost_at k ws = fault power_lost (place_of k ws)

-- The answer of a run of which k writes were done.
abbrev pub answer_of : Run → ℕ → Answer
answer_of r k =
    cond (nat_lt k (length r.planned)) (refused (power_lost_at k r.planned) (commits_in k r.planned)) (ending r.ends (commits_in k r.planned))

-- The chip it leaves: only lost power latches.
abbrev pub chip_of : ℕ → Run → ℕ → Chip
chip_of cap r k = cond (nat_lt k (length r.planned)) (latched (power_lost_at k r.planned)) (opened cap r.view.table)

-- The answer of a read.
abbrev pub read_answer : Outcome Body → Answer
read_answer (ok b) = body_is b
read_answer (err r) = refused r 0

-- The journal's line is written to its address.
abbrev pub journal_writes : Option Journal → List Write
journal_writes none = []
journal_writes (some n) = write_line n.at n.line ∷ []

-- Whether a journal's address is a line of this layout.
abbrev pub journal_in : Shape → Option Journal → Bool
journal_in T none = true
journal_in T (some n) = nat_lt n.at T.lines

-- Whether no root counter is above the limit.
abbrev pub roots_valid : Shape → Body → Bool
roots_valid T roots = every (T.arity T.lines) (λ i. nat_le (roots i) (T.limit (T.child T.lines i)))

-- Whether none of the 640 bits of a dirty map is set beyond the last node.
abbrev pub map_valid : Shape → (ℕ → Bool) → Bool
map_valid T dirty = every 640 (λ j. nat_lt (T.data_lines + j) T.lines || not (dirty (T.data_lines + j)))

module _ (shapes : ℕ → Shape) where
  -- The layout of a board by its levels.
  abbrev pub shape_of : BoardState → Shape
  shape_of b = shapes b.register.levels

  -- Why format is refused before any write, in order.
  unfoldable pub format_check : ℕ → BoardState → Option Fault
  format_check h b =
      cond (nat_le 1 h && nat_le h 4)
      (cond (nat_le (shapes h).lines b.size) (cond (b.register.formatted == 0) none (some (fault already_formatted 0))) (some (fault too_few_lines 0)))
      (some (fault bad_size 0))

  -- Whether the register is one of a formatted board: levels 1 to 4, no root counter above the limit, no bit of the dirty map beyond the last node, and the journal's address a line.
  unfoldable pub register_valid : Register → Bool
  register_valid g =
      (g.formatted == 1) && (nat_le 1 g.levels && nat_le g.levels 4) && roots_valid (shapes g.levels) g.roots && map_valid (shapes g.levels) g.dirty
      && journal_in (shapes g.levels) g.journal

  -- Why bring-up is refused before any write, in order.
  unfoldable pub bring_up_check : ℕ → ℕ → BoardState → Option Fault
  bring_up_check cap num b =
      cond (nat_le 1 cap && nat_le cap 64)
      (cond (register_valid b.register)
      (cond (nat_le (shape_of b).lines b.size)
      (cond (num == b.register.suite) (cond (nat_le (map_count (shape_of b) b.register) cap) none (some (fault too_many_dirty 0))) (some (fault other_suite 0)))
      (some (fault too_few_lines 0)))
      (some (fault invalid_register 0)))
      (some (fault bad_size 0))

-- How bring-up ends once the journal's line is written.
abbrev pub recovered_answer : Outcome Table → Answer
recovered_answer (ok t) = done 0
recovered_answer (err r) = refused r 0

-- The chip it leaves.
abbrev pub recovered_chip : ℕ → Outcome Table → Chip
recovered_chip cap (ok t) = opened cap t
recovered_chip cap (err r) = latched r

-- Of a list of writes, the first k were done.
abbrev pub Did : BoardState → List Write → ℕ → BoardState → Type 0
Did b ws k b' = (p : Power) × Cut b.power (length ws) k p × (b' ≡ after b k ws p)

-- A call on an open board that was planned as the run r: some k of its writes were done.
abbrev pub Ran : ℕ → Run → BoardState → Log → Answer → World → Log → Type 0
Ran cap r b l x w' l' =
    (k : ℕ)
    × (p : Power)
    × Cut b.power (length r.planned) k p
    × (x ≡ answer_of r k)
    × (w' ≡ record { board = after b k r.planned p; chip = chip_of cap r k })
    × (l' ≡ log_after k r.planned l)

-- If the line's tag is right at the address under a counter up to the limit, that very line was committed there under that counter.
abbrev pub Replayed : Scheme → Shape → Log → ℕ → Line → Type 0
Replayed S T l a L = (c : ℕ) → c ≤ T.limit a → right S a c L ≡ true → (b : Body) × InLog l a c b × (L ≡ line_at T S a c b)

-- The board once line a was tampered with.
abbrev pub tampered : BoardState → ℕ → Line → BoardState
tampered b a L = record { memory = update b.memory a L; size = b.size; register = b.register; power = b.power }

-- The board with its power set anew.
abbrev pub recharged : BoardState → Power → BoardState
recharged b p = record { memory = b.memory; size = b.size; register = b.register; power = p }

-- The answer is y, this board and chip are left, and nothing was committed.
abbrev pub Answered : Answer → BoardState → Chip → Log → Answer → World → Log → Type 0
Answered y b c l x w' l' = (x ≡ y) × (w' ≡ record { board = b; chip = c }) × (l' ≡ l)

module _ (shapes : ℕ → Shape) (S : Scheme) where
  -- A format that the check refused, or some k of its writes.
  abbrev pub Formatted : ℕ → BoardState → Option Fault → Log → Answer → World → Log → Type 0
  Formatted h b (some r) l x w' l' = Answered (refused r 0) b cold l x w' l'
  Formatted h b none l x w' l' =
      (k : ℕ)
      × (p : Power)
      × Cut b.power (length (format_writes (shapes h) S h)) k p
      × (x ≡ cond (nat_lt k (length (format_writes (shapes h) S h))) (refused (power_lost_at k (format_writes (shapes h) S h)) 0) (done 0))
      × (w' ≡ record { board = after b k (format_writes (shapes h) S h) p; chip = cold })
      × (l' ≡ log_after k (format_writes (shapes h) S h) l)

  -- A bring-up that the check refused, or one that wrote the journal's line, if power lasted, and recovered.
  abbrev pub BroughtUp : ℕ → BoardState → Option Fault → Log → Answer → World → Log → Type 0
  BroughtUp cap b (some r) l x w' l' = Answered (refused r 0) b (latched r) l x w' l'
  BroughtUp cap b none l x w' l' =
      (k : ℕ)
      × (p : Power)
      × Cut b.power (length (journal_writes b.register.journal)) k p
      × (x
      ≡ cond (nat_lt k (length (journal_writes b.register.journal))) (refused (power_lost_at k (journal_writes b.register.journal)) 0)
      (recovered_answer (recover (shape_of shapes b) S (after b k (journal_writes b.register.journal) p).memory b.register)))
      × (w'
      ≡ record {
        board = after b k (journal_writes b.register.journal) p;
        chip =
            cond (nat_lt k (length (journal_writes b.register.journal))) (latched (power_lost_at k (journal_writes b.register.journal)))
            (recovered_chip cap (recover (shape_of shapes b) S (after b k (journal_writes b.register.journal) p).memory b.register));
      })
      × (l' ≡ l)

  -- One event: from a chip, a board and a log to an answer, a world and a log. What is ⊥ the types forbid.
  abbrev pub Happens : Chip → BoardState → Log → Event → Answer → World → Log → Type 0
  Happens cold b l (format h) x w' l' = Formatted h b (format_check shapes h b) l x w' l'
  Happens cold b l (bring_up cap num) x w' l' = BroughtUp cap b (bring_up_check shapes cap num b) l x w' l'
  Happens cold b l (recharge p) x w' l' = Answered nothing (recharged b p) cold l x w' l'
  Happens cold b l (read a) x w' l' = ⊥
  Happens cold b l (write a y) x w' l' = ⊥
  Happens cold b l flush x w' l' = ⊥
  Happens cold b l shut_down x w' l' = ⊥
  Happens cold b l (tamper a L) x w' l' = Answered nothing (tampered b a L) cold l x w' l'
  Happens (opened cap t) b l (format h) x w' l' = ⊥
  Happens (opened cap t) b l (bring_up c num) x w' l' = ⊥
  Happens (opened cap t) b l (recharge p) x w' l' = ⊥
  Happens (opened cap t) b l (read a) x w' l' =
      Answered (read_answer (read_call (shape_of shapes b) S (view_of b t) a)) b (opened cap t) l x w' l'
  Happens (opened cap t) b l (write a y) x w' l' = Ran cap (write_call (shape_of shapes b) S cap (view_of b t) a y) b l x w' l'
  Happens (opened cap t) b l flush x w' l' = Ran cap (flush_call (shape_of shapes b) S (view_of b t)) b l x w' l'
  Happens (opened cap t) b l shut_down x w' l' = Answered nothing b cold l x w' l'
  Happens (opened cap t) b l (tamper a L) x w' l' = Answered nothing (tampered b a L) (opened cap t) l x w' l'
  Happens (latched r) b l (format h) x w' l' = ⊥
  Happens (latched r) b l (bring_up c num) x w' l' = ⊥
  Happens (latched r) b l (recharge p) x w' l' = ⊥
  Happens (latched r) b l (read a) x w' l' = Answered (refused r 0) b (latched r) l x w' l'
  Happens (latched r) b l (write a y) x w' l' = Answered (refused r 0) b (latched r) l x w' l'
  Happens (latched r) b l flush x w' l' = Answered (refused r 0) b (latched r) l x w' l'
  Happens (latched r) b l shut_down x w' l' = Answered nothing b cold l x w' l'
  Happens (latched r) b l (tamper a L) x w' l' = Answered nothing (tampered b a L) (latched r) l x w' l'

  -- One event in a world.
  abbrev pub Step : World → Log → Event → Answer → World → Log → Type 0
  Step w l e x w' l' = Happens w.chip w.board l e x w' l'

  -- What is asked of a tampering, on a formatted board: the line is no forgery.
  abbrev pub Fair : World → Log → Event → Type 0
  Fair w l (tamper a L) = w.board.register.formatted ≡ 1 → a < (shape_of shapes w.board).lines → Replayed S (shape_of shapes w.board) l a L
  Fair w l (format h) = Unit {0}
  Fair w l (bring_up cap num) = Unit {0}
  Fair w l (read a) = Unit {0}
  Fair w l (write a b) = Unit {0}
  Fair w l flush = Unit {0}
  Fair w l shut_down = Unit {0}
  Fair w l (recharge p) = Unit {0}

  -- A history: from a board not yet formatted, event after event, with all that was committed.
  pub data Reached : World → Log → Type 0 where
    start : (w : World) → w.board.register.formatted ≡ 0 → w.chip ≡ cold → Reached w []
    next : {w : World} {l : Log} → Reached w l → (e : Event) (x : Answer) (w' : World) (l' : Log) → Fair w l e → Step w l e x w' l' → Reached w' l'
