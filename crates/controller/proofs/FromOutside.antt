-- Tampering and recharging are events of a history.
use Rattle.std.proofs.Common.{◌≡◌, ℕ, Bool, true, false, length, Some, None, Option as Maybe, refl, ap, ◌∙◌, length-set}
use Rattle.board.specs.Meaning.{Meaning, Power}
use Rattle.board.specs.Tampering.{LinePut}
use Rattle.board.specs.declared.types.Line.{Line as Stored}
use Rattle.suite.specs.Scheme.{Scheme}
use Rattle.machine.specs.Layout.{eight_ary}
use Rattle.machine.specs.Store.{Log, BoardState}
use Rattle.machine.specs.Words.{line_in, register_in, memory_in, state_in}
use Rattle.machine.specs.History.{World, Event, tamper, recharge, Answer, nothing, tampered, Step}
use Rattle.machine.proofs.EightAry.{eight_trees}
use Rattle.machine.proofs.HistoryHolds.{keeps_promises}
use Rattle.machine.proofs.ReachedFacts.{step_law}
use Rattle.controller.specs.declared.types.Fault.{Fault}
use Rattle.controller.specs.declared.chip.Chip.{Chip}
use Rattle.tree.specs.SlotTable.{table_in}
use Rattle.controller.specs.Worlds.{world_by, world_in, cold_in, Keeps}
use Rattle.controller.specs.Outside.{KeepsFair, Tampers}
use Rattle.controller.proofs.TwoWrites.{mem_set}
use Rattle.controller.proofs.Keeping.{keeps}

-- An event that happened, in every history that came here and allows it, goes on.
keeps_fair : (S : Scheme) (w : World) (e : Event) (x : Answer) (w' : World) → ((l : Log) → Step eight_ary S w l e x w' l) → KeepsFair S w e x w'
keeps_fair S w e x w' f l R q =
    let (y, R') = step_law S R e x w' l q (f l) in
    (l, record { step = f l; law = y; reached = R'; holds = keeps_promises eight_ary eight_trees S w' l R' })

-- The board once a line was put in place.
put_state : (m m' : Meaning) (a : ℕ) (l : Stored) → LinePut m a l true m' → state_in m' ≡ tampered (state_in m) a (line_in l)
put_state m m' a l (h, e, r, p) =
    λ i. record {
      memory = (ap memory_in e ∙ mem_set m.lines a l h) i;
      size = (ap length e ∙ length-set m.lines a l) i;
      register = ap register_in r i;
      power = p i;
    }

pub open_tampered : (S : Scheme) (m m' : Meaning) (c c' : Chip) (a : ℕ) (l : Stored) (b : Bool) → c' ≡ c → LinePut m a l b m' → Tampers S (world_in m c) a (line_in l) b (world_in m' c')
open_tampered S m m' c c' a l true k p = go c.latched (ap (world_in m') k)
  where
    go : (s : Maybe Fault) → world_in m' c' ≡ world_by m' s c.capacity (table_in c.slots) → KeepsFair S (world_by m s c.capacity (table_in c.slots)) (tamper a (line_in l)) nothing (world_in m' c')
    go (Some f) e = keeps_fair S (world_by m (Some f) c.capacity (table_in c.slots)) (tamper a (line_in l)) nothing (world_in m' c') (λ l₁. (refl, e ∙ ap (λ (b : BoardState). record { board = b; chip = (world_by m (Some f) c.capacity (table_in c.slots)).chip }) (put_state m m' a l p), refl))
    go None e = keeps_fair S (world_by m None c.capacity (table_in c.slots)) (tamper a (line_in l)) nothing (world_in m' c') (λ l₁. (refl, e ∙ ap (λ (b : BoardState). record { board = b; chip = (world_by m None c.capacity (table_in c.slots)).chip }) (put_state m m' a l p), refl))
open_tampered S m m' c c' a l false k p = λ i. world_in (p.1 i) (k i)

pub cold_tampered : (S : Scheme) (m m' : Meaning) (a : ℕ) (l : Stored) (b : Bool) → LinePut m a l b m' → Tampers S (cold_in m) a (line_in l) b (cold_in m')
cold_tampered S m m' a l true p = keeps_fair S (cold_in m) (tamper a (line_in l)) nothing (cold_in m') (λ l₁. (refl, ap (λ (b : BoardState). record { board = b; chip = (cold_in m).chip }) (put_state m m' a l p), refl))
cold_tampered S m m' a l false p = ap cold_in p.1

pub cold_recharged : (S : Scheme) (m m' : Meaning) (p : Power) → m'.lines ≡ m.lines → m'.register ≡ m.register → m'.power ≡ p → Keeps S (cold_in m) (recharge p) nothing (cold_in m')
cold_recharged S m m' p a b c =
    keeps S (cold_in m) (recharge p) nothing (cold_in m')
    (λ l R. (l, tt, (refl, (λ i. record { board = record { memory = ap memory_in a i; size = ap length a i; register = ap register_in b i; power = c i }; chip = (cold_in m).chip }), refl)))
