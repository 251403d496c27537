-- How many lines below a node were committed since its own: one commit more.
use Rattle.std.proofs.Common.{◌≡◌, ℕ, suc, ◌∷◌}
use Rattle.std.proofs.lemmas.Bool.{eq-eqb, ne_eqb}
use Rattle.machine.specs.Layout.{Shape}
use Rattle.machine.specs.Store.{Commit, Log}
use Rattle.machine.specs.CommitLaws.{pending_in}

module _ (T : Shape) (l : Log) (e : Commit) (p : ℕ) where
  pub pending_own : e.at ≡ p → pending_in T (e ∷ l) p ≡ 0
  unfolding pending_in
  pending_own h = rw (eq-eqb e.at p h)

  pub pending_parent : (e.at ≡ p → ⊥) → T.parent e.at ≡ p → pending_in T (e ∷ l) p ≡ suc (pending_in T l p)
  unfolding pending_in
  pending_parent h k = rw (ne_eqb e.at p h, eq-eqb (T.parent e.at) p k)

  pub pending_other : (e.at ≡ p → ⊥) → (T.parent e.at ≡ p → ⊥) → pending_in T (e ∷ l) p ≡ pending_in T l p
  unfolding pending_in
  pending_other h k = rw (ne_eqb e.at p h, ne_eqb (T.parent e.at) p k)
