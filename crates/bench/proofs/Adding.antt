-- Rows printed one after another.
use Rattle.std.proofs.Common.{◌≡◌, ℕ, ◌+◌, List, [], ◌∷◌, ◌++◌, Some, None, Option, sym, refl, ap, ◌∙◌, subst, append_assoc, append-nil}
use Rattle.board.specs.Meaning.{Meaning}
use Rattle.board.specs.declared.types.Line.{Line}
use Rattle.suite.specs.Scheme.{Scheme}
use Rattle.text.specs.Spelling.{Reads}
use Rattle.text.specs.Writing.{bad, Adds}
use Rattle.script.specs.Script.{StepLine, row_text}
use Rattle.script.specs.declared.types.Step.{Step}
use Rattle.script.specs.declared.types.Row.{Row}
use Rattle.controller.specs.declared.chip.Chip.{Chip}
use Rattle.controller.specs.declared.event.Event.{Event}
use Rattle.controller.specs.declared.event.Reply.{Reply}
use Rattle.bench.specs.Steps.{event_of, copy_after}
use Rattle.bench.specs.Rows.{row_of}
use Rattle.bench.specs.Printed.{Played, Rows}

module _ (S : Scheme) (cap : ℕ) (all : List (List ℕ)) (m₀ : Meaning) (c₀ : Chip) where
  -- the rows so far, and what is still to be printed behind them for the lines ls, which begin with step i
  abbrev pub SoFar : List (List ℕ) → ℕ → Meaning → Chip → Option Line → List ℕ → List ℕ → Type 0
  SoFar ls i m c k before o =
      (done : List ℕ) × (o ≡ before ++ done) × ((more : List ℕ) → Rows S cap i ls m c k more → Rows S cap 1 all m₀ c₀ None (done ++ more))

  -- before the first step
  pub rows_none : (before : List ℕ) (next : ℕ) (ls : List (List ℕ)) → next ≡ 1 → ls ≡ all → SoFar ls next m₀ c₀ None before before
  rows_none before next ls e f =
      ([], sym (append-nil before), λ more h. subst (λ (x : List (List ℕ)). Rows S cap 1 x m₀ c₀ None more) f (subst (λ (x : ℕ). Rows S cap x ls m₀ c₀ None more) e h))

  module _ (ls : List (List ℕ)) (i : ℕ) (m : Meaning) (c : Chip) (k : Option Line) (before o : List ℕ) (h : SoFar ls i m c k before o) where
    -- no line is left
    pub rows_end : ls ≡ [] → Adds (Rows S cap 1 all m₀ c₀ None) before o
    rows_end e =
        (h.0, h.1, subst (Rows S cap 1 all m₀ c₀ None) (append-nil h.0) (h.2 [] (subst (λ (x : List (List ℕ)). Rows S cap i x m c k []) (sym e) refl)))

    module _ (l : List ℕ) (rest : List (List ℕ)) (f : ls ≡ l ∷ rest) where
      -- an unreadable line
      pub rows_bad : (p : List ℕ) → Reads StepLine l None → p ≡ o ++ bad (i + 5) → Adds (Rows S cap 1 all m₀ c₀ None) before p
      rows_bad p none e = (
        h.0 ++ bad (i + 5),
        e ∙ ap (λ (x : List ℕ). x ++ bad (i + 5)) h.1 ∙ append_assoc before h.0 (bad (i + 5)),
        h.2 (bad (i + 5)) (subst (λ (x : List (List ℕ)). Rows S cap i x m c k (bad (i + 5))) (sym f) (None, none, refl)),
      )

      -- one step more
      rows_by : (s : Step) (r : Reply) (m' : Meaning) (c' : Chip) (p : List ℕ) (next : ℕ) → StepLine l s → Played S cap m c (event_of k s) r m' c' → p ≡ o ++ (row_text (row_of i r m'.register) ++ (10 ∷ [])) → next ≡ i + 1 → SoFar rest next m' c' (copy_after m k s) before p
      rows_by s r m' c' p next reads plays e is =
          let row = row_text (row_of i r m'.register) ++ (10 ∷ []) in (
            h.0 ++ row,
            e ∙ ap (λ (x : List ℕ). x ++ row) h.1 ∙ append_assoc before h.0 row,
            λ more q. subst (Rows S cap 1 all m₀ c₀ None) (sym (append_assoc h.0 row more)) (h.2 (row ++ more) (subst (λ (x : List (List ℕ)). Rows S cap i x m c k (row ++ more)) (sym f) (Some s, reads, (r, m', c', more, plays, append_assoc (row_text (row_of i r m'.register)) (10 ∷ []) more, subst (λ (x : ℕ). Rows S cap x rest m' c' (copy_after m k s) more) is q)))),
          )

      -- the same by what the calls of the code answer
      pub rows_more : (s : Step) (e : Option Event) (r : Reply) (m' : Meaning) (c' : Chip) (k' : Option Line) (g : List ℕ) (row : Row) (p : List ℕ) (next : ℕ) → StepLine l s → k' ≡ copy_after m k s → e ≡ event_of k s → Played S cap m c e r m' c' → g ≡ m'.register → row ≡ row_of i r g → p ≡ o ++ (row_text row ++ (10 ∷ [])) → next ≡ i + 1 → SoFar rest next m' c' k' before p
      rows_more s e r m' c' k' g row p next reads kept asked plays reg is put up =
          subst (λ (x : Option Line). SoFar rest next m' c' x before p) (sym kept)
          (rows_by s r m' c' p next reads (subst (λ (x : Option Event). Played S cap m c x r m' c') asked plays)
          (put ∙ ap (λ (x : Row). o ++ (row_text x ++ (10 ∷ []))) (is ∙ ap (row_of i r) reg)) up)

-- what is added behind what was added
pub after_head : {P : List ℕ → Type 0} (before head o p : List ℕ) → o ≡ before ++ head → Adds P o p → Adds (λ out. (rows : List ℕ) × (out ≡ head ++ rows) × P rows) before p
after_head before head o p e a = (head ++ a.0, a.1 ∙ ap (λ (x : List ℕ). x ++ a.0) e ∙ append_assoc before head a.0, (a.0, refl, a.2))
