-- What came of a run, as an event of a history.
use Rattle.std.proofs.Common.{◌≡◌, ℕ, ◌<◌, ◌≤◌, Bool, true, false, cond, ltb, length, Some, None, sym, refl, ap, ◌∙◌, arith}
use mathlib.Core.Option.{Option, some}
use Rattle.std.proofs.lemmas.Bool.{lt-ltb, le-ltb}
use Rattle.suite.specs.Scheme.{Scheme}
use Rattle.board.specs.Meaning.{Meaning}
use Rattle.machine.specs.Store.{Log, commits_in, log_after}
use Rattle.machine.specs.Words.{state_in}
use Rattle.machine.specs.Faults.{Fault as Why}
use Rattle.machine.specs.Plans.{Table, View, Run}
use Rattle.machine.specs.History.{opened, latched, refused, ending, power_lost_at, answer_of, Ran}
use Rattle.controller.specs.Views.{fault_of}
use Rattle.controller.specs.Runs.{Went}
use Rattle.controller.specs.Worlds.{world_by}
use Rattle.machine.proofs.Basics.{some_inj}
use Rattle.machine.proofs.Cuts.{cut_le}
use Rattle.controller.specs.declared.types.Fault.{Fault}

module _ (S : Scheme) (size : ℕ) (l : Log) (r : Run) (m m' : Meaning) (t' : Table) (o : Option Why) (n : ℕ) (W : Went r m o m' t' 0 n) where
  abbrev k : ℕ
  k = W.done

  at_most : W.done ≤ length r.planned
  at_most = cut_le m.power m'.power (length r.planned) W.done W.cut

  says : ending o n ≡ answer_of r W.done
  says = ap (λ x. ending x n) W.says ∙ ap (ending _) sum ∙ go (ltb W.done (length r.planned))
    where
      sum : n ≡ commits_in W.done r.planned
      sum = omega (arith, W.counted)

      go : (b : Bool) → ending (cond b (some (power_lost_at W.done r.planned)) r.ends) (commits_in W.done r.planned) ≡ cond b (refused (power_lost_at W.done r.planned) (commits_in W.done r.planned)) (ending r.ends (commits_in W.done r.planned))
      go true = refl
      go false = refl

  -- The run was made whole: the board is open still.
  pub ran_whole : length r.planned ≤ W.done → Ran size r (state_in m) l (ending o n) (world_by m' None size t') (log_after W.done r.planned l)
  ran_whole h = (
    W.done,
    m'.power,
    W.cut,
    says,
    (λ i. record { board = W.left_is i; chip = (ap (λ (v : View). opened size v.table) (W.whole (omega (arith, at_most))) ∙ sym (ap (λ b. cond b (latched (power_lost_at W.done r.planned)) (opened size r.view.table)) (le-ltb W.done (length r.planned) h))) i }),
    refl,
  )

  -- Power was lost: every call is refused alike from now on.
  pub ran_lost : (f : Fault) → o ≡ some (fault_of f) → W.done < length r.planned → Ran size r (state_in m) l (ending o n) (world_by m' (Some f) size t') (log_after W.done r.planned l)
  ran_lost f g h = (
    W.done,
    m'.power,
    W.cut,
    says,
    (λ i. record { board = W.left_is i; chip = (ap latched (some_inj (sym g ∙ W.says ∙ ap (λ b. cond b (some (power_lost_at W.done r.planned)) r.ends) (lt-ltb W.done (length r.planned) h))) ∙ sym (ap (λ b. cond b (latched (power_lost_at W.done r.planned)) (opened size r.view.table)) (lt-ltb W.done (length r.planned) h))) i }),
    refl,
  )
