-- What came of a planned run of writes on a board, while power lasted.
use Rattle.std.specs.Prelude.{◌≡◌, ℕ, ◌+◌, ◌<◌, cond, List, length, Ok, Err, Result, nat_lt}
use Rattle.std.proofs.Math.Option.{Option, some, none}
use Rattle.board.specs.Meaning.{Meaning}
use Rattle.suite.specs.Scheme.{Scheme}
use Rattle.machine.specs.Layout.{Shape}
use Rattle.machine.specs.Store.{Write, commits_in, Cut}
use Rattle.machine.specs.Words.{state_in}
use Rattle.machine.specs.Faults.{Fault, power_lost}
use Rattle.machine.specs.Plans.{Table, View, Run, stay, and_then, evict_overdue, make_room}
use Rattle.machine.specs.History.{after, power_lost_at}
use Rattle.controller.specs.declared.types.TreeFault.{TreeFault}
use Rattle.controller.specs.Views.{tree_fault, view_in}

-- The fault that a step of the tree ended in, if any.
abbrev pub ended : Result (Unit {0}) TreeFault → Option Fault
ended (Ok _) = none
ended (Err f) = some (tree_fault f)

-- How a run ends of which k writes were done.
abbrev pub ends_after : Run → ℕ → Option Fault
ends_after r k = cond (nat_lt k (length r.planned)) (some (power_lost_at k r.planned)) r.ends

-- The run r was made on board m until power was lost or it ended: it ended in fault o, if any, left the board m' and the slots t', and took the commits from n to n'.
pub record Went (r : Run) (m : Meaning) (o : Option Fault) (m' : Meaning) (t' : Table) (n n' : ℕ) : Type 0 where
  pub done : ℕ
  pub cut : Cut m.power (length r.planned) done m'.power
  pub left_is : state_in m' ≡ after (state_in m) done r.planned m'.power
  pub says : o ≡ ends_after r done
  pub whole : done ≡ length r.planned → view_in m' t' ≡ r.view
  pub counted : n' ≡ n + commits_in done r.planned
  pub still : commits_in done r.planned ≡ 0 → m'.register ≡ m.register
  pub lost : (x : Fault) → o ≡ some x → x.cause ≡ power_lost → done < length r.planned

-- The writes ws were made on board m until power was lost or all were done: they ended in fault o, if any, and left m'.
pub record Wrote (ws : List Write) (m : Meaning) (o : Option Fault) (m' : Meaning) : Type 0 where
  pub done : ℕ
  pub cut : Cut m.power (length ws) done m'.power
  pub left_is : state_in m' ≡ after (state_in m) done ws m'.power
  pub says : o ≡ cond (nat_lt done (length ws)) (some (power_lost_at done ws)) none

-- What a write of data line a does before its own commit.
abbrev pub before_commit : Shape → Scheme → ℕ → View → ℕ → Run
before_commit T S cap v a =
    cond (nat_lt (T.parent a) T.lines) (and_then (evict_overdue T S v (T.parent a)) (λ u. make_room T S cap (T.parent a) u (u.table (T.parent a)))) (stay v)
