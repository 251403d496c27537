-- A list of suites' numbers, and the list of each of them beside itself.
use Rattle.std.proofs.Common.{◌≡◌, ℕ, zero, suc, ◌<◌, ◌⊎◌, List, [], ◌∷◌, length, slice_index, map, Some, None, codes, Option, ◌==◌, sym, refl, ap, ◌∙◌, subst, inl, inr, arith}
use Rattle.std.proofs.lemmas.Bool.{cases_eq, cond-true, cond-false, eq-eqb, ne_eqb}
use Rattle.std.specs.Option.{option_map}
use Rattle.std.specs.List.{find}
use Rattle.text.specs.Spelling.{Reads, After, Decimal}
use Rattle.script.specs.declared.types.Header.{Header}
use Rattle.script.specs.Script.{Outcome, SuiteLine, SuiteLineAs, HeaderRead, HeaderReadAs}
use Rattle.script.proofs.Headers.{AnswersFor, numbered, header_numbered}

-- each number beside itself
abbrev pub beside_itself : List ℕ → List (ℕ × ℕ)
beside_itself suites = map (λ n. (n, n)) suites

module _ (n : ℕ) where
  abbrev beside : List ℕ → Option ℕ
  beside ms = option_map (λ (s : ℕ × ℕ). s.1) (find (λ s. s.0 == n) (beside_itself ms))

  beside_first : (m : ℕ) (ms : List ℕ) → m ≡ n → beside (m ∷ ms) ≡ Some n
  beside_first m ms e = ap (option_map (λ (s : ℕ × ℕ). s.1)) (cond-true (m == n) _ _ (eq-eqb m n e)) ∙ ap Some e

  beside_rest : (m : ℕ) (ms : List ℕ) → (m ≡ n → ⊥) → beside (m ∷ ms) ≡ beside ms
  beside_rest m ms e = ap (option_map (λ (s : ℕ × ℕ). s.1)) (cond-false (m == n) _ _ (ne_eqb m n e))

  abbrev At : List ℕ → Type 0
  At ms = (i : ℕ) → i < length ms → slice_index ms i ≡ n → beside ms ≡ Some n

  at_first : (m : ℕ) (ms : List ℕ) → At ms → (m ≡ n) ⊎ (m ≡ n → ⊥) → At (m ∷ ms)
  at_first m ms more (inl f) i lt e = beside_first m ms f
  at_first m ms more (inr f) zero lt e = absurd (f e)
  at_first m ms more (inr f) (suc i) lt e = beside_rest m ms f ∙ more i (omega (arith, lt)) e

  beside_at : (ms : List ℕ) → At ms
  beside_at [] i lt e = let z : ⊥ = omega (arith, lt) in absurd z
  beside_at (m ∷ ms) i lt e = at_first m ms (beside_at ms) (cases_eq m n) i lt e

  abbrev Listed : List ℕ → ℕ → Type 0
  Listed ms k = (k ≡ n) × ((i : ℕ) × (i < length ms) × (slice_index ms i ≡ n))

  listed_first : (m : ℕ) (ms : List ℕ) (k : ℕ) → (beside ms ≡ Some k → Listed ms k) → (m ≡ n) ⊎ (m ≡ n → ⊥) → beside (m ∷ ms) ≡ Some k → Listed (m ∷ ms) k
  listed_first m ms k more (inl f) e = let g : Some n ≡ Some k = sym (beside_first m ms f) ∙ e in (cc, (0, omega arith, f))
  listed_first m ms k more (inr f) e = let h = more (sym (beside_rest m ms f) ∙ e) in (h.0, (suc h.1.0, omega (arith, h.1.1), h.1.2))

  listed_at : (ms : List ℕ) (k : ℕ) → beside ms ≡ Some k → Listed ms k
  listed_at [] k e = absurd (cc)
  listed_at (m ∷ ms) k e = listed_first m ms k (listed_at ms k) (cases_eq m n) e

-- a number among some is found among these beside themselves, and no other is
pub listed_beside : (suites : List ℕ) (t : List ℕ) (n : ℕ) → SuiteLine suites t n → SuiteLineAs (beside_itself suites) t n
listed_beside suites t n h = (n, h.0, beside_at n suites h.1.0 h.1.1 h.1.2)

pub beside_listed : (suites : List ℕ) (t : List ℕ) (n : ℕ) → SuiteLineAs (beside_itself suites) t n → SuiteLine suites t n
beside_listed suites t n h =
    let p = listed_at h.0 suites n h.2 in
    (subst (After (codes "suite=") Decimal t) (sym p.0) h.1, (p.1.0, p.1.1, p.1.2 ∙ sym p.0))

-- A header among numbers beside themselves is the header among these numbers.
pub header_beside : (suites : List ℕ) (ls : List (List ℕ)) (r : Outcome (Header ℕ)) → HeaderReadAs (beside_itself suites) ls r → HeaderRead suites ls (numbered r)
header_beside suites ls r h = header_numbered (Reads (SuiteLineAs (beside_itself suites))) (Reads (SuiteLine suites)) each r (numbered r) refl ls h where
  each : AnswersFor (Reads (SuiteLine suites)) (Reads (SuiteLineAs (beside_itself suites)))
  each l (Some n) k = beside_listed suites l n k
  each l None k = λ n w. k n (listed_beside suites l n w)
