-- What a writing call did, from what came of its run.
use Rattle.std.proofs.Common.{◌≡◌, ℕ, ◌^◌, ◌≤◌, length, Some, None, Ok, Err, Option as Maybe, Result, sym, refl, ap, ◌∙◌, subst, arith}
use mathlib.Core.Option.{Option, some, none}
use Rattle.board.specs.declared.types.BoardFault.{BoardFault}
use Rattle.board.specs.declared.types.BoardFault.TheVariants.{Absent, PowerLost}
use Rattle.controller.specs.declared.types.TreeFault.{TreeFault}
use Rattle.controller.specs.declared.types.TreeFault.TheVariants.{Board, Corrupt, AtLimit, SumMismatch}
use Rattle.controller.specs.declared.types.Fault.{Fault}
use Rattle.controller.specs.declared.types.Fault.TheVariants.{Tree}
use Rattle.suite.specs.Scheme.{Body, Scheme}
use Rattle.board.specs.Meaning.{Meaning}
use Rattle.machine.specs.Layout.{eight_ary, lines_of}
use Rattle.machine.specs.Store.{Log, log_after, commits_in}
use Rattle.machine.specs.Words.{row, state_in}
use Rattle.machine.specs.Faults.{Fault as Why, fault, number, not_data, too_few_lines, corrupt, sum_mismatch, power_lost, at_limit}
use Rattle.machine.specs.Plans.{Table, Run, stop, evict_until, read_call, write_call, flush_call}
use Rattle.machine.specs.History.{World, Answer, refused, read_answer, Ran}
use Rattle.machine.proofs.Cuts.{cut_le}
use Rattle.machine.proofs.EightAry.{eight_trees}
use Rattle.machine.proofs.Steps.{write_outside}
use Rattle.controller.specs.Views.{fault_of, controller_says, view_in, Fits}
use Rattle.controller.specs.Runs.{Went, ended}
use Rattle.controller.specs.Worlds.{world_by, report_by, latch_of, commits_of, call_check, RunsAs, read_by}
use Rattle.controller.proofs.Chains.{said_none, kept_whole}
use Rattle.controller.proofs.RunEvents.{ran_whole, ran_lost}
use Rattle.controller.proofs.EvictSteps.{went_none}

-- A writing call as an event.
module _ (S : Scheme) (m : Meaning) (n : ℕ) (m' : Meaning) (t' : Table) (k : ℕ) where
  abbrev Rans : Run → Answer → World → Type 0
  Rans r x w = (l : Log) → (l' : Log) × Ran n r (state_in m) l x w l'

  -- Refused for another reason than lost power.
  whole : (r : Run) (x : Why) → Went r m (some x) m' t' 0 k → (x.cause ≡ power_lost → ⊥) → Rans r (refused x k) (world_by m' None n t')
  whole r x W f l = (log_after W.done r.planned l, ran_whole S n l r m m' t' (some x) k W (kept_whole r m m' t' x 0 k W f))

  pub call_ran : (r : Run) (y : Result (Unit {0}) TreeFault) → Went r m (ended y) m' t' 0 k → Rans r (report_by (controller_says y) k) (world_by m' (latch_of y) n t')
  call_ran r (Ok u) W l = (log_after W.done r.planned l, ran_whole S n l r m m' t' none k W (omega (arith, (said_none r W.done (cut_le m.power m'.power (length r.planned) W.done W.cut) W.says).0)))
  call_ran r (Err (Corrupt a)) W l = whole r (fault corrupt a) W (λ e. omega (arith, ap number e)) l
  call_ran r (Err (AtLimit a)) W l = whole r (fault at_limit a) W (λ e. omega (arith, ap number e)) l
  call_ran r (Err SumMismatch) W l = whole r (fault sum_mismatch 0) W (λ e. omega (arith, ap number e)) l
  call_ran r (Err (Board p)) W l = at p.fault p.line W
    where
      at : (f : BoardFault) (a : ℕ) → Went r m (ended (Err (Board (record { fault = f; line = a })))) m' t' 0 k → (l' : Log) × Ran n r (state_in m) l (report_by (controller_says (Err (Board (record { fault = f; line = a })))) k) (world_by m' (latch_of (Err (Board (record { fault = f; line = a })))) n t') l'
      at Absent a W = whole r (fault too_few_lines 0) W (λ e. omega (arith, ap number e)) l
      at PowerLost a W = (log_after W.done r.planned l, ran_lost S n l r m m' t' (some (fault power_lost a)) k W (Tree (Board (record { fault = PowerLost; line = a }))) refl (W.lost (fault power_lost a) refl refl))

-- A report without commits.
reported : (z : Result (Unit {0}) Fault) (k : ℕ) → commits_of (report_by z k) ≡ 0 → k ≡ 0
reported (Ok u) k e = e
reported (Err f) k e = e

module _ (S : Scheme) (m : Meaning) (n : ℕ) (t : Table) (lv used : ℕ) (s : Maybe Fault) (r : Run) where
  -- A latched fault.
  pub does_latched : (f : Fault) → s ≡ Some f → RunsAs s (call_check m lv used) m n t r (refused (fault_of f) 0) m (world_by m s n t)
  does_latched f e = subst (λ (x : Maybe Fault). RunsAs x (call_check m lv used) m n t r (refused (fault_of f) 0) m (world_by m x n t)) (sym e) (refl, refl, refl)

module _ (S : Scheme) (m : Meaning) (n : ℕ) (t : Table) (lv used : ℕ) (s : Maybe Fault) (r : Run) (p : s ≡ None) where
  -- A fault before the steps.
  pub does_refused : (f : Fault) → call_check m lv used ≡ some (fault_of f) → RunsAs s (call_check m lv used) m n t r (refused (fault_of f) 0) m (world_by m s n t)
  does_refused f q =
      subst (λ (x : Maybe Fault). RunsAs x (call_check m lv used) m n t r (refused (fault_of f) 0) m (world_by m x n t)) (sym p)
      (subst (λ (o : Option Why). RunsAs None o m n t r (refused (fault_of f) 0) m (world_by m None n t)) (sym q) (refl, refl, refl))

  does_run : call_check m lv used ≡ none → (x : Answer) (m' : Meaning) (w' : World) → ((l : Log) → (l' : Log) × Ran n r (state_in m) l x w' l') × (commits_of x ≡ 0 → m'.register ≡ m.register) → RunsAs s (call_check m lv used) m n t r x m' w'
  does_run q x m' w' f = subst (λ (y : Maybe Fault). RunsAs y (call_check m lv used) m n t r x m' w') (sym p) (subst (λ (o : Option Why). RunsAs None o m n t r x m' w') (sym q) f)

  -- The run.
  pub does_call : call_check m lv used ≡ none → (m' : Meaning) (t' : Table) (k : ℕ) (y : Result (Unit {0}) TreeFault) (z : Result (Unit {0}) Fault) → z ≡ controller_says y → (s' : Maybe Fault) → s' ≡ latch_of y → Went r m (ended y) m' t' 0 k → RunsAs s (call_check m lv used) m n t r (report_by z k) m' (world_by m' s' n t')
  does_call q m' t' k y z zi s' si W =
      does_run q (report_by z k) m' (world_by m' s' n t') (
        (λ l. let v = call_ran S m n m' t' k r y W l in
            (v.0, subst (λ (a : Result (Unit {0}) Fault). Ran n r (state_in m) l (report_by a k) (world_by m' s' n t') v.0) (sym zi) (subst (λ (b : Maybe Fault). Ran n r (state_in m) l (report_by (controller_says y) k) (world_by m' b n t') v.0) (sym si) v.1))),
        λ e. W.still (sym (silent W) ∙ reported z k e),
      )
    where
      silent : (W : Went r m (ended y) m' t' 0 k) → k ≡ commits_in W.done r.planned
      silent W = omega (arith, W.counted)

  -- A refusal and nothing else.
  pub does_stop : call_check m lv used ≡ none → (x : Why) → (x.cause ≡ power_lost → ⊥) → stop (view_in m t) x ≡ r → RunsAs s (call_check m lv used) m n t r (refused x 0) m (world_by m s n t)
  does_stop q x f e =
      subst (λ (y : Maybe Fault). RunsAs s (call_check m lv used) m n t r (refused x 0) m (world_by m y n t)) (sym p)
      (does_run q (refused x 0) m (world_by m None n t) ((λ l. whole S m n m t 0 r x (subst (λ (u : Run). Went u m (some x) m t 0 0) e (went_none m t x 0 f)) f l), λ _. refl))

module _ (S : Scheme) (m : Meaning) (n : ℕ) (t : Table) (lv used : ℕ) (s : Maybe Fault) (p : s ≡ None) (h : ℕ) (F : Fits h m) (q : call_check m lv used ≡ none) where
  pub does_beyond : (a : ℕ) (b : Body) → 8 ^ h ≤ a → RunsAs s (call_check m lv used) m n t (write_call (eight_ary (row m.register 1)) S n (view_in m t) a b) (refused (fault not_data a) 0) m (world_by m s n t)
  does_beyond a b g =
      does_stop S m n t lv used s _ p q (fault not_data a) (λ e. omega (arith, ap number e))
      (sym (ap (λ x. write_call (eight_ary x) S n (view_in m t) a b) (sym F.own) ∙ write_outside (eight_ary h) (eight_trees h F.low F.high) a S (view_in m t) n b g))

  module _ (m' : Meaning) (t' : Table) (k : ℕ) (y : Result (Unit {0}) TreeFault) (z : Result (Unit {0}) Fault) (zi : z ≡ controller_says y) (s' : Maybe Fault) (si : s' ≡ latch_of y) where
    pub does_write : (a : ℕ) (b : Body) → Went (write_call (eight_ary h) S n (view_in m t) a b) m (ended y) m' t' 0 k → RunsAs s (call_check m lv used) m n t (write_call (eight_ary (row m.register 1)) S n (view_in m t) a b) (report_by z k) m' (world_by m' s' n t')
    does_write a b W = does_call S m n t lv used s _ p q m' t' k y z zi s' si (subst (λ x. Went (write_call (eight_ary x) S n (view_in m t) a b) m (ended y) m' t' 0 k) F.own W)

    pub does_flush : Went (evict_until (eight_ary h) S 0 (lines_of h) (view_in m t)) m (ended y) m' t' 0 k → RunsAs s (call_check m lv used) m n t (flush_call (eight_ary (row m.register 1)) S (view_in m t)) (report_by z k) m' (world_by m' s' n t')
    unfolding flush_call
    does_flush W = does_call S m n t lv used s _ p q m' t' k y z zi s' si (subst (λ x. Went (evict_until (eight_ary x) S 0 (lines_of x) (view_in m t)) m (ended y) m' t' 0 k) F.own W)

-- A read that passes the check answers as planned.
pub answers_read : (S : Scheme) (m : Meaning) (t : Table) (lv used : ℕ) (s : Maybe Fault) → s ≡ None → (h : ℕ) → Fits h m → call_check m lv used ≡ none → (a : ℕ) (x : Answer) → x ≡ read_answer (read_call (eight_ary h) S (view_in m t) a) → x ≡ read_by s (call_check m lv used) (read_answer (read_call (eight_ary (row m.register 1)) S (view_in m t) a))
answers_read S m t lv used s p h F q a x e =
    e ∙ ap (λ k. read_answer (read_call (eight_ary k) S (view_in m t) a)) F.own
    ∙ sym (ap (λ (y : Maybe Fault). read_by y (call_check m lv used) (read_answer (read_call (eight_ary (row m.register 1)) S (view_in m t) a))) p ∙ ap (λ (o : Option Why). read_by None o (read_answer (read_call (eight_ary (row m.register 1)) S (view_in m t) a))) q)

-- The run of a write or a flush that was made on the slots as they were fitted to the layout.
pub fitted_write : (S : Scheme) (cap : ℕ) (m : Meaning) (t t₁ : Table) (h h₁ : ℕ) → t₁ ≡ t → h₁ ≡ h → (a : ℕ) (b : Body) (o : Option Why) (m' : Meaning) (t' : Table) (n n' : ℕ) → Went (write_call (eight_ary h₁) S cap (view_in m t₁) a b) m o m' t' n n' → Went (write_call (eight_ary h) S cap (view_in m t) a b) m o m' t' n n'
fitted_write S cap m t t₁ h h₁ e f a b o m' t' n n' W = subst (λ (x : Table). Went (write_call (eight_ary h) S cap (view_in m x) a b) m o m' t' n n') e (subst (λ x. Went (write_call (eight_ary x) S cap (view_in m t₁) a b) m o m' t' n n') f W)

pub fitted_flush : (S : Scheme) (m : Meaning) (t t₁ : Table) (h h₁ : ℕ) → t₁ ≡ t → h₁ ≡ h → (o : Option Why) (m' : Meaning) (t' : Table) (n n' : ℕ) → Went (evict_until (eight_ary h₁) S 0 (lines_of h₁) (view_in m t₁)) m o m' t' n n' → Went (evict_until (eight_ary h) S 0 (lines_of h) (view_in m t)) m o m' t' n n'
fitted_flush S m t t₁ h h₁ e f o m' t' n n' W = subst (λ (x : Table). Went (evict_until (eight_ary h) S 0 (lines_of h) (view_in m x)) m o m' t' n n') e (subst (λ x. Went (evict_until (eight_ary x) S 0 (lines_of x) (view_in m t₁)) m o m' t' n n') f W)
