-- The register of a commit, and what the steps of a write ask of the slots and leave in them.
use Rattle.std.specs.Prelude.{◌≡◌, ℕ, suc, ◌<◌, ◌≤◌, cond, List, replicate, Ok, Err, Result, nat_lt, slice_set}
use Rattle.std.proofs.Math.Option.{Option, some, none}
use Rattle.suite.specs.Scheme.{Line}
use Rattle.machine.specs.Layout.{Shape, update, counter_limit}
use Rattle.machine.specs.Words.{no_address, register_in}
use Rattle.machine.specs.Store.{Register}
use Rattle.machine.specs.Faults.{Fault, fault, Outcome, ok, err, at_limit}
use Rattle.machine.specs.Plans.{Slot, Table, View, slot_for, raised}
use Rattle.controller.specs.declared.types.LineFault.{LineFault}
use Rattle.controller.specs.declared.chip.Chip.{Chip}

-- The register with the root's counter of line a, where the root is its parent.
abbrev pub with_root : Shape → ℕ → ℕ → Register → Register
with_root T a c g =
    record {
      formatted = g.formatted;
      levels = g.levels;
      suite = g.suite;
      roots = cond (nat_lt (T.parent a) T.lines) g.roots (update g.roots (T.index a) c);
      dirty_sum = g.dirty_sum;
      journal = g.journal;
      dirty = g.dirty;
    }

-- The same in words, by a step that is never refused.
abbrev pub RegisterRaised : Shape → ℕ → ℕ → Register → Result (Unit {0}) LineFault → List ℕ → Type 0
RegisterRaised T a c g (Ok u) ws = register_in ws ≡ with_root T a c g
RegisterRaised T a c g (Err f) ws = ⊥

-- The slots with the counter of line a, where a node is its parent.
abbrev pub raised_slots : Shape → (ℕ → Line) → Table → ℕ → ℕ → Table
raised_slots T m t a c =
    cond (nat_lt (T.parent a) T.lines) (update t (T.parent a) (some (raised (slot_for m (t (T.parent a)) (T.parent a)) (T.index a) c))) t

-- The counter after the current one, unless that is at the limit or not to be had.
abbrev pub next_counter : ℕ → Outcome ℕ → Outcome ℕ
next_counter a (ok c) = cond (nat_lt c counter_limit) (ok (suc c)) (err (fault at_limit a))
next_counter a (err x) = err x

-- There is room to raise a counter: the slot is not overdue, or a slot is free.
abbrev pub Room : ℕ → Option Slot → Type 0
Room used (some s) = s.pending < 1023
Room used none = used < 64

-- There is room to raise the counter of line a.
abbrev pub RoomAt : Shape → ℕ → ℕ → Table → Type 0
RoomAt T a used t = T.parent a < T.lines → Room used (t (T.parent a))

-- The parent's line, where it has no slot, has counters within the limit.
abbrev pub SmallAt : Shape → ℕ → View → Type 0
SmallAt T a v = T.parent a < T.lines → v.table (T.parent a) ≡ none → (k : ℕ) → k < 8 → (v.memory (T.parent a)).words k ≤ counter_limit

-- Below the parent of node a, the slots are those of before without a's.
abbrev pub LeftSlot : Shape → ℕ → Table → Option Fault → Table → Type 0
LeftSlot T a t o t' = o ≡ none → (q : ℕ) → q < T.parent a → t' q ≡ update t a none q

-- Below node a the slots are those of before.
abbrev pub SameBelow : ℕ → Table → Option Fault → Table → Type 0
SameBelow a t o t' = o ≡ none → (q : ℕ) → q < a → t' q ≡ t q

-- What a step leaves as it was: the suite, and of the chip the layout and the number of slots and the latched fault.
pub record Rest {A : Type 0} (s : A) (c : Chip) (s' : A) (c' : Chip) : Type 0 where
  pub suite : s' ≡ s
  pub layout : c'.slots.layout ≡ c.slots.layout
  pub capacity : c'.capacity ≡ c.capacity
  pub latched : c'.latched ≡ c.latched

-- At most `keep` nodes are dirty, and no leaf that was not.
abbrev pub Freed : Shape → ℕ → Table → Option Fault → ℕ → Table → Type 0
Freed T keep t o used' t' = o ≡ none → (used' ≤ keep) × ((q : ℕ) → q < T.parent T.data_lines → t q ≡ none → t' q ≡ none)

-- The register of a board just formatted.
abbrev pub new_words : ℕ → ℕ → List ℕ
new_words h num = slice_set (slice_set (slice_set (slice_set (replicate 32 0) 0 1) 1 h) 2 num) 12 no_address
