-- Scripts: many events in a row on one board, each finding what came before.
use Rattle.std.specs.Prelude.{◌≡◌, ℕ, Bool, true, false, List, [], ◌∷◌, ◌++◌}
use Rattle.board.specs.Meaning.{Meaning, Power, lesser}
use Rattle.board.specs.Tampering.{LinePut, Recharged}
use Rattle.suite.specs.Scheme.{Scheme}
use Rattle.machine.specs.Layout.{eight_ary}
use Rattle.machine.specs.Store.{Log}
use Rattle.machine.specs.Words.{row, line_in}
use Rattle.machine.specs.History.{World, bring_up, read, write, flush, shut_down, tamper, recharge, Answer, nothing, body_is, done, refused, Fair, Reached}
use Rattle.machine.specs.History.{Event as Happening}
use Rattle.machine.specs.Promises.{Promises}
use Rattle.controller.specs.declared.event.Event.{Event}
use Rattle.controller.specs.declared.event.Event.TheVariants.{Read, Write, Flush, Restart, Recharge, Tamper}
use Rattle.controller.specs.declared.event.Reply.{Reply}
use Rattle.controller.specs.declared.event.Reply.TheVariants.{Body, Done, Refused, Put}
use Rattle.controller.specs.Views.{fault_of}
use Rattle.controller.specs.declared.chip.Chip.{Chip}
use Rattle.controller.specs.Worlds.{world_in, GoesOn, Does, write_plan, flush_plan, read_of}
use Rattle.controller.specs.BringUps.{BringsUp}

-- What happened and what it answered, in order.
abbrev pub Trace : Type 0
Trace = List (Happening × Answer)

-- In a history that came to world w with log l, the trace goes on to w': each event that the history's premise allows obeys its law, and so does all that follows it.
abbrev pub GoesThrough : Scheme → World → Log → Trace → World → Type 0
GoesThrough S w l [] w' = (w' ≡ w) × Reached eight_ary S w l × Promises eight_ary S w l
GoesThrough S w l (p ∷ t) w' =
    (w₁ : World) × (Fair eight_ary S w l p.0 → (l₁ : Log) × GoesOn S w l p.0 p.1 w₁ l₁ × GoesThrough S w₁ l₁ t w')

-- In every history that came to world w, the trace goes on to w'.
abbrev pub KeepsThrough : Scheme → World → Trace → World → Type 0
KeepsThrough S w t w' = (l : Log) → Reached eight_ary S w l → GoesThrough S w l t w'

-- A reply as an answer.
abbrev pub answer_in : Reply → Answer
answer_in (Body ws) = body_is (row ws)
answer_in (Done n) = done n
answer_in (Refused f n) = refused (fault_of f) n
answer_in (Put b) = nothing

-- What an event of a script is in a history, with cap slots and the suite's number; a line that has no place is none.
abbrev pub Traces : ℕ → ℕ → Event → Reply → Trace → Type 0
Traces cap num (Read a) r t = t ≡ (read a, answer_in r) ∷ []
Traces cap num (Write a b) r t = t ≡ (write a (row b), answer_in r) ∷ []
Traces cap num Flush r t = t ≡ (flush, answer_in r) ∷ []
Traces cap num Restart r t = t ≡ (shut_down, nothing) ∷ (bring_up cap num, answer_in r) ∷ []
Traces cap num (Recharge left) r t = (supply : Power) × (t ≡ (shut_down, nothing) ∷ (recharge (lesser left supply), nothing) ∷ (bring_up cap num, answer_in r) ∷ [])
Traces cap num (Tamper a l) (Put true) t = t ≡ (tamper a (line_in l), nothing) ∷ []
Traces cap num (Tamper a l) (Put false) t = t ≡ []
Traces cap num (Tamper a l) (Body ws) t = ⊥
Traces cap num (Tamper a l) (Done n) t = ⊥
Traces cap num (Tamper a l) (Refused f n) t = ⊥

-- One event of a script, from world w to w'.
abbrev pub PlaysOne : Scheme → ℕ → World → Event → Reply → World → Type 0
PlaysOne S cap w e r w' = (t : Trace) × Traces cap S.number e r t × KeepsThrough S w t w'

-- What one event of a script does on any board and chip, in a history or not; a board that is recharged can draw on supply p.
abbrev pub DoesOne : Scheme → ℕ → Power → Meaning → Chip → Event → Reply → Meaning → Chip → Type 0
DoesOne S cap p m c (Read a) r m' c' = (answer_in r ≡ read_of S m c a) × (m' ≡ m) × (c' ≡ c)
DoesOne S cap p m c (Write a b) r m' c' = Does (write_plan S m c a (row b)) m c (answer_in r) m' c'
DoesOne S cap p m c Flush r m' c' = Does (flush_plan S m c) m c (answer_in r) m' c'
DoesOne S cap p m c Restart r m' c' = BringsUp S cap m (answer_in r) m' (world_in m' c')
DoesOne S cap p m c (Recharge left) r m' c' = (m₁ : Meaning) × Recharged m p left m₁ × BringsUp S cap m₁ (answer_in r) m' (world_in m' c')
DoesOne S cap p m c (Tamper a l) r m' c' = (placed : Bool) × (r ≡ Put placed) × LinePut m a l placed m' × (c' ≡ c)

-- The events of a script in order, each with its reply.
abbrev pub AllTraces : ℕ → ℕ → List Event → List Reply → Trace → Type 0
AllTraces cap num [] [] t = t ≡ []
AllTraces cap num [] (r ∷ rs) t = ⊥
AllTraces cap num (e ∷ es) [] t = ⊥
AllTraces cap num (e ∷ es) (r ∷ rs) t = (t₁ t₂ : Trace) × (t ≡ t₁ ++ t₂) × Traces cap num e r t₁ × AllTraces cap num es rs t₂

-- A script, from world w to w'.
abbrev pub Plays : Scheme → ℕ → World → List Event → List Reply → World → Type 0
Plays S cap w es rs w' = (t : Trace) × AllTraces cap S.number es rs t × KeepsThrough S w t w'

-- What a script does on any board and chip, in a history or not: each event finds what came before.
abbrev pub DoesAll : Scheme → ℕ → Meaning → Chip → List Event → List Reply → Meaning → Chip → Type 0
DoesAll S cap m c [] [] m' c' = (m' ≡ m) × (c' ≡ c)
DoesAll S cap m c [] (r ∷ rs) m' c' = ⊥
DoesAll S cap m c (e ∷ es) [] m' c' = ⊥
DoesAll S cap m c (e ∷ es) (r ∷ rs) m' c' = (p : Power) × (m₁ : Meaning) × (c₁ : Chip) × DoesOne S cap p m c e r m₁ c₁ × DoesAll S cap m₁ c₁ es rs m' c'
