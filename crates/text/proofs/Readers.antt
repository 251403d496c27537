-- Readers of what stands behind a prefix, and of a text up to its end.
use Rattle.std.proofs.Common.{◌≡◌, ℕ, List, [], ◌∷◌, ◌++◌, length, Some, None, Option, ◌==◌, false, sym, refl, ◌∙◌, subst, rules}
use Rattle.std.specs.Bool.{then_some}
use Rattle.std.proofs.lemmas.List.{append_cancel_left}
use Rattle.text.specs.Spelling.{Reads, After}

module _ {A : Type 0} (Spells : List ℕ → A → Type 0) (p t : List ℕ) where
  pub after_none : ((u : List ℕ) → t ≡ p ++ u → ⊥) → (a : A) → After p Spells t a → ⊥
  after_none bad a w = bad w.0 w.1

  pub after_reads : (u : List ℕ) → t ≡ p ++ u → (r : Option A) → Reads Spells u r → Reads (After p Spells) t r
  after_reads u e (Some a) h = (u, e, h)
  after_reads u e None h = λ a w. h a (subst (λ (x : List ℕ). Spells x a) (append_cancel_left p _ _ (sym w.1 ∙ e)) w.2)

-- a value that counts only where nothing is left
pub at_end : {A : Type 0} (Spells : List ℕ → A → Type 0) (t u : List ℕ) (a : A) → (u ≡ [] → Spells t a) → ((u ≡ [] → ⊥) → (b : A) → Spells t b → ⊥) → Reads Spells t (then_some (length u == 0) a)
at_end Spells t [] a here more = here refl
at_end Spells t (c ∷ u) a here more = let some : (length (c ∷ u) == 0) ≡ false = search rules in rw some (more (λ e. cc))
