-- Rows printed one after another.
use Rattle.std.proofs.Common.{◌≡◌, ℕ, ◌+◌, List, [], ◌∷◌, ◌++◌, Some, None, sym, refl, ap, ◌∙◌, subst, append_assoc, append-nil}
use Rattle.suite.specs.Scheme.{Scheme}
use Rattle.text.specs.Spelling.{Reads}
use Rattle.text.specs.Writing.{bad, Adds}
use Rattle.seal.specs.Items.{ItemLine}
use Rattle.seal.specs.Answered.{Answered, answer_text, Rows}
use Rattle.seal.specs.declared.types.Item.{Item}
use Rattle.seal.specs.declared.types.Answer.{Answer}

module _ (S : Scheme) (all : List (List ℕ)) where
  -- the rows so far, and what is still to be printed behind them for the lines ls, whose first has number n
  abbrev pub SoFar : List (List ℕ) → ℕ → List ℕ → List ℕ → Type 0
  SoFar ls n before o = (done : List ℕ) × (o ≡ before ++ done) × ((more : List ℕ) → Rows S n ls more → Rows S 3 all (done ++ more))

  pub rows_none : (before : List ℕ) → SoFar all 3 before before
  rows_none before = ([], sym (append-nil before), λ more h. h)

  module _ (ls : List (List ℕ)) (n : ℕ) (before o : List ℕ) (k : SoFar ls n before o) where
    -- no line is left
    pub rows_end : ls ≡ [] → Adds (Rows S 3 all) before o
    rows_end e = (k.0, k.1, subst (Rows S 3 all) (append-nil k.0) (k.2 [] (subst (λ (x : List (List ℕ)). Rows S n x []) (sym e) refl)))

    module _ (l : List ℕ) (rest : List (List ℕ)) (f : ls ≡ l ∷ rest) where
      -- an unreadable line
      pub rows_bad : (p : List ℕ) → Reads ItemLine l None → p ≡ o ++ bad n → Adds (Rows S 3 all) before p
      rows_bad p h e =
          (k.0 ++ bad n, e ∙ ap (λ (x : List ℕ). x ++ bad n) k.1 ∙ append_assoc before k.0 (bad n), k.2 (bad n) (subst (λ (x : List (List ℕ)). Rows S n x (bad n)) (sym f) (None, h, refl)))

      -- one item more
      pub rows_more : (i : Item) (a : Answer) (p : List ℕ) (next : ℕ) → ItemLine l i → Answered S i a → p ≡ o ++ (answer_text a ++ (10 ∷ [])) → next ≡ n + 1 → SoFar rest next before p
      rows_more i a p next h w e is =
          let row = answer_text a ++ (10 ∷ []) in (
            k.0 ++ row,
            e ∙ ap (λ (x : List ℕ). x ++ row) k.1 ∙ append_assoc before k.0 row,
            λ more q. subst (Rows S 3 all) (sym (append_assoc k.0 row more)) (k.2 (row ++ more) (subst (λ (x : List (List ℕ)). Rows S n x (row ++ more)) (sym f) (Some i, h, (a, more, w, append_assoc (answer_text a) (10 ∷ []) more, subst (λ (x : ℕ). Rows S x rest more) is q)))),
          )
