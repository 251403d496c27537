-- The orders of commits leave no choice: from one log, one log.
use Rattle.std.proofs.Common.{◌≡◌, ℕ, ◌-◌, ◌<◌, ◌≤◌, ◌⊎◌, sym, refl, ap, subst, inl, inr, arith}
use Rattle.std.proofs.lemmas.Bool.{cases_lt}
use Rattle.suite.specs.Scheme.{Body, Scheme}
use Rattle.machine.specs.Layout.{Shape}
use Rattle.machine.specs.Store.{Journal, Log}
use Rattle.machine.specs.Faults.{fault, too_many_dirty, corrupt, sum_mismatch}
use Rattle.machine.specs.History.{refused, World}
use Rattle.machine.specs.Laws.{RecoveryRests}
use Rattle.machine.specs.CommitLaws.{pending_in, counters_in, with_next, Evicted, alone, parent_first, EvictedUntil, enough, lowest_first, Written, under_root, leaf_dirty, leaf_clean, leaf_overdue}
use Rattle.machine.specs.Promises.{BringUpLaw, Powerless, Passes}
use Rattle.machine.proofs.Cuts.{refused_inj}
use Rattle.machine.proofs.Basics.{same_cause}

module _ (T : Shape) where
  not_both : (l : Log) (A : ℕ) → (T.parent A ≡ T.lines) ⊎ (pending_in T l (T.parent A) < 1023) → T.parent A < T.lines → 1023 ≤ pending_in T l (T.parent A) → ⊥
  not_both l A (inl e) k h = omega arith
  not_both l A (inr e) k h = omega arith

  pub out_one : {l : Log} {A : ℕ} {j k : Log} → Evicted T l A j → Evicted T l A k → j ≡ k
  out_one (alone x) (alone y) = refl
  out_one {l} {A} (alone x) (parent_first k h o) = absurd (not_both l A x k h)
  out_one {l} {A} (parent_first k h o) (alone y) = absurd (not_both l A y k h)
  out_one {A = A} (parent_first k h o) (parent_first i g u) = ap (λ z. with_next z A (counters_in T z A)) (out_one o u)

  lowest_one : (l : Log) (A B : ℕ) → 0 < pending_in T l A → ((q : ℕ) → q < A → pending_in T l q ≡ 0) → 0 < pending_in T l B → ((q : ℕ) → q < B → pending_in T l q ≡ 0) → A ≡ B
  lowest_one l A B x y z u = go (cases_lt A B) (cases_lt B A)
    where
      go : (A < B) ⊎ (B ≤ A) → (B < A) ⊎ (A ≤ B) → A ≡ B
      go (inl a) b = absurd (omega (arith, u A a, x))
      go (inr a) (inl b) = absurd (omega (arith, y B b, z))
      go (inr a) (inr b) = omega arith

  pub freed_one : {m : ℕ} {l j k : Log} → EvictedUntil T m l j → EvictedUntil T m l k → j ≡ k
  freed_one (enough x) (enough y) = refl
  freed_one (enough x) (lowest_first h a b c o f) = absurd (omega arith)
  freed_one (lowest_first h a b c o f) (enough y) = absurd (omega arith)
  freed_one {m} {l} {j} {k} (lowest_first {k = i} {A = A} h a b c o f) (lowest_first {k = g} {A = B} h' a' b' c' o' f') =
      freed_one f (subst (λ z. EvictedUntil T m z k) (out_one (subst (λ z. Evicted T l z g) (sym (lowest_one l A B b c b' c')) o') o) f')

  pub written_one : {cap a : ℕ} {b : Body} {l j k : Log} → Written T cap a b l j → Written T cap a b l k → j ≡ k
  written_one (under_root x) (under_root y) = refl
  written_one (under_root x) (leaf_dirty y z u) = absurd (omega arith)
  written_one (under_root x) (leaf_clean y z f) = absurd (omega arith)
  written_one (under_root x) (leaf_overdue y z o f) = absurd (omega arith)
  written_one (leaf_dirty y z u) (under_root x) = absurd (omega arith)
  written_one (leaf_dirty y z u) (leaf_dirty y' z' u') = refl
  written_one (leaf_dirty y z u) (leaf_clean y' z' f) = absurd (omega arith)
  written_one (leaf_dirty y z u) (leaf_overdue y' z' o f) = absurd (omega arith)
  written_one (leaf_clean y z f) (under_root x) = absurd (omega arith)
  written_one (leaf_clean y z f) (leaf_dirty y' z' u') = absurd (omega arith)
  written_one {a = a} {b = b} (leaf_clean y z f) (leaf_clean y' z' f') = ap (λ i. with_next i a b) (freed_one f f')
  written_one (leaf_clean y z f) (leaf_overdue y' z' o f') = absurd (omega arith)
  written_one (leaf_overdue y z o f) (under_root x) = absurd (omega arith)
  written_one (leaf_overdue y z o f) (leaf_dirty y' z' u') = absurd (omega arith)
  written_one (leaf_overdue y z o f) (leaf_clean y' z' f') = absurd (omega arith)
  written_one {cap} {a} {b} {l} {j} {k} (leaf_overdue y z o f) (leaf_overdue {j = j'} y' z' o' f') = ap (λ i. with_next i a b) (freed_one f (subst (λ i. EvictedUntil T (cap - 1) i j') (out_one o' o) f'))

-- A bring-up with slots enough is not refused for too many dirty nodes.
pub not_too_many : (S : Scheme) (T : Shape) (cap num : ℕ) (w : World) (l : Log) (w' : World) → Passes S T cap num l → BringUpLaw S T cap num w l (refused (fault too_many_dirty 0) 0) w' → ⊥
not_too_many S T cap num w l w' u c = go (c.why u (fault too_many_dirty 0) refl)
  where
    go : ((j : Journal) × Powerless S T w j) ⊎ (((q : ℕ) × (fault too_many_dirty 0 ≡ fault corrupt q) × RecoveryRests T w.board.register.dirty q) ⊎ (fault too_many_dirty 0 ≡ fault sum_mismatch 0)) → ⊥
    go (inl (j, y)) = cc (same_cause (refused_inj (c.powerless u j y)).0)
    go (inr (inl (q, x, _))) = cc (same_cause x)
    go (inr (inr x)) = cc (same_cause x)
