-- What holds of a formatted board between the writes of a history: the register against the log, the lines, the slots.
use Rattle.std.proofs.Common.{◌≡◌, ℕ, ◌-◌, ◌<◌, ◌≤◌, Bool, true, false, cond, ◌⊎◌}
use mathlib.Core.Option.{Option, some, none}
use Rattle.suite.specs.Scheme.{Body, Line, Scheme}
use Rattle.machine.specs.Layout.{Shape, sum_to}
use Rattle.machine.specs.Store.{line_at, Journal, Register, Log}
use Rattle.machine.specs.Plans.{Slot, Table}
use Rattle.machine.specs.History.{counter_in, body_in, InLog, Replayed}
use Rattle.machine.specs.Laws.{Stands}
use Rattle.machine.specs.CommitLaws.{pending_in, JournalLaw}

-- The register and all that was committed.
pub record Durable (T : Shape) (S : Scheme) (l : Log) (g : Register) : Type 0 where
  pub known : (a c : ℕ) (b : Body) → InLog l a c b → (a < T.lines) × (c ≤ counter_in l a)
  pub one : (a c : ℕ) (b d : Body) → InLog l a c b → InLog l a c d → b ≡ d
  pub latest : (a : ℕ) → a < T.lines → InLog l a (counter_in l a) (body_in l a)
  pub older : (p c : ℕ) (b : Body) → T.data_lines ≤ p → InLog l p c b → (i : ℕ) → i < T.arity p → b i ≤ counter_in l (T.child p i)
  pub level : (p : ℕ) → T.data_lines ≤ p → p < T.lines → g.dirty p ≡ false → (i : ℕ) → i < T.arity p → body_in l p i ≡ counter_in l (T.child p i)
  pub dirty_few : (p : ℕ) → T.data_lines ≤ p → p < T.lines → g.dirty p ≡ true → sum_to (T.arity p) (λ i. counter_in l (T.child p i) - body_in l p i) ≤ 1023
  pub roots : (i : ℕ) → i < T.arity T.lines → g.roots i ≡ counter_in l (T.child T.lines i)
  pub dirty_sum : g.dirty_sum ≡ sum_to T.lines (λ p. cond (g.dirty p) (sum_to (T.arity p) (λ i. counter_in l (T.child p i))) 0)
  pub small : (a : ℕ) → a < T.lines → counter_in l a ≤ T.limit a
  pub journaled : (n : Journal) → g.journal ≡ some n → (n.at < T.lines) × (n.line ≡ line_at T S n.at (counter_in l n.at) (body_in l n.at))
  pub inner : (p : ℕ) → g.dirty p ≡ true → (T.data_lines ≤ p) × (p < T.lines)
  pub since : (p : ℕ) → T.data_lines ≤ p → p < T.lines → pending_in T l p ≡ sum_to (T.arity p) (λ i. counter_in l (T.child p i) - body_in l p i)
  pub moved : (p : ℕ) → g.dirty p ≡ true → 0 < pending_in T l p
  pub flat : (p : ℕ) → p < T.data_lines → pending_in T l p ≡ 0
  pub blank_lines : (p : ℕ) → T.data_lines ≤ p → p < T.lines → (i : ℕ) → T.arity p ≤ i → body_in l p i ≡ 0
  pub newest : JournalLaw S T l g.journal

-- A line in memory is the one last committed, or an old one, or corrupt under every counter.
abbrev pub Fine : (shapes : ℕ → Shape) → Shape → Scheme → Log → (ℕ → Line) → ℕ → Type 0
Fine shapes T S l m a = Stands T S l m a ⊎ Replayed S T l a (m a)

-- A slot holds a dirty node with its children's counters; an empty one, no dirty node.
abbrev pub Exact : Shape → Log → (ℕ → Bool) → Option Slot → ℕ → Type 0
Exact T l dirty (some s) p = (dirty p ≡ true) × ((i : ℕ) → i < T.arity p → s.counters i ≡ counter_in l (T.child p i))
Exact T l dirty none p = dirty p ≡ false

-- A slot's pending increments are how far its node's children have come since the node's line was committed.
abbrev pub Raised : Shape → Log → Option Slot → ℕ → Type 0
Raised T l (some s) p = s.pending ≡ sum_to (T.arity p) (λ i. counter_in l (T.child p i) - body_in l p i)
Raised T l none p = Unit {0}

-- The slots of an open board.
pub record SlotsHold (T : Shape) (l : Log) (dirty : ℕ → Bool) (t : Table) : Type 0 where
  pub exact : (p : ℕ) → Exact T l dirty (t p) p
  pub raised : (p : ℕ) → Raised T l (t p) p
  pub bare : (p : ℕ) (s : Slot) → t p ≡ some s → (i : ℕ) → T.arity p ≤ i → s.counters i ≡ 0
