-- Reading a header field by field.
use Rattle.std.proofs.Common.{◌≡◌, ℕ, List, [], ◌∷◌, IsErrAnd, Some, None, Ok, Err, codes, Option, Result, Bor, ◌==◌, sym, refl, ap, ◌∙◌, subst}
use Rattle.std.proofs.lemmas.Result.{err_from_is_err_and}
use Rattle.std.specs.Option.{option_map}
use Rattle.std.specs.Result.{result_map_both}
use Rattle.std.specs.List.{find}
use Rattle.text.specs.Spelling.{After, Decimal, lines_of}
use Rattle.text.proofs.Single.{decimal_once, after_once}
use Rattle.text.specs.declared.lines.BadLine.{BadLine}
use Rattle.script.specs.declared.types.Header.{Header}
use Rattle.script.specs.Script.{Outcome, bad_line, FirstRead, LineRead, SuiteLineAs, FieldBy, Complete, HeaderBy}

-- whatever the reader answers is an answer of these
abbrev pub AnswersFor : {A : Type 0} → (List ℕ → Option A → Type 0) → (List ℕ → Option A → Type 0) → Type 0
AnswersFor {A} Answers Reader = (l : List ℕ) (o : Option A) → Reader l o → Answers l o

module _ {A H : Type 0} (Answers : List ℕ → Option A → Type 0) (Next : A → List (List ℕ) → Type 0) (r : Outcome H) where
  module _ (Reader : List ℕ → Option A → Type 0) (n : ℕ) where
    field_first : (ls : List (List ℕ)) (a : A) (rest : Bor (List ℕ)) → FirstRead Reader n ls (Ok (a, rest)) → AnswersFor Answers Reader → Next a (lines_of rest.now) → FieldBy (bad_line n) Answers ls r Next
    field_first [] a rest h reads k = absurd (cc)
    field_first (l ∷ ls) a rest (None, h, e) reads k = absurd (cc)
    field_first (l ∷ ls) a rest (Some b, h, e) reads k = (Some b, reads l (Some b) h, subst (λ x. Next x ls) e.0 (subst (Next a) e.1 k))

    bad_first : (ls : List (List ℕ)) (e : BadLine) → FirstRead Reader n ls (Err e) → AnswersFor Answers Reader → r ≡ Err e → FieldBy (bad_line n) Answers ls r Next
    bad_first [] e h reads k = cc
    bad_first (l ∷ ls) e (None, h, f) reads k = (None, reads l None h, cc)
    bad_first (l ∷ ls) e (Some b, h, f) reads k = absurd f

  -- the line spells a value
  pub field : {Reader : List ℕ → Option A → Type 0} {n : ℕ} {ls : List (List ℕ)} {a : A} {rest : Bor (List ℕ)} → LineRead Reader n ls (Ok (a, rest)) → AnswersFor Answers Reader → Next a (lines_of rest.now) → FieldBy (bad_line n) Answers ls r Next
  field {Reader} {n} {ls} {a} {rest} h reads k = field_first Reader n ls a rest h.first reads k

  -- it is missing or unreadable
  pub bad_field : {Reader : List ℕ → Option A → Type 0} {n : ℕ} {ls : List (List ℕ)} {e : BadLine} → LineRead Reader n ls (Err e) → AnswersFor Answers Reader → IsErrAnd r (λ z. z ≡ e) → FieldBy (bad_line n) Answers ls r Next
  bad_field {Reader} {n} {ls} {e} h reads k = let p = err_from_is_err_and r k in bad_first Reader n ls e h.first reads (p.1 ∙ ap Err p.2)

-- a header of what else its suite's reader answers, with other refusals
module _ {K D E : Type 0} (told : ℕ → D) (retold : ℕ → E) (Reader Answers : List ℕ → Option K → Type 0) (each : AnswersFor Answers Reader) (r : Result (Header K × Bor (List ℕ)) D) (q : Result (Header K × Bor (List ℕ)) E) (refused : (n : ℕ) → r ≡ Err (told n) → q ≡ Err (retold n)) (read : (x : Header K × Bor (List ℕ)) → r ≡ Ok x → q ≡ Ok x) where
  field_as : {A : Type 0} (n : ℕ) (From To : List ℕ → Option A → Type 0) → AnswersFor To From → (Next Then : A → List (List ℕ) → Type 0) → ((a : A) (ls : List (List ℕ)) → Next a ls → Then a ls) → (ls : List (List ℕ)) → FieldBy (told n) From ls r Next → FieldBy (retold n) To ls q Then
  field_as n From To all Next Then next [] h = refused n h
  field_as n From To all Next Then next (l ∷ ls) (None, h, k) = (None, all l None h, refused n k)
  field_as n From To all Next Then next (l ∷ ls) (Some a, h, k) = (Some a, all l (Some a) h, next a ls k)

  complete_as : (h : Header K) (ls : List (List ℕ)) → (x : Result (Header K × Bor (List ℕ)) D) → r ≡ x → Complete h ls x → Complete h ls q
  complete_as h ls (Ok x) e k = subst (Complete h ls) (sym (read x e)) k
  complete_as h ls (Err x) e k = absurd k

  pub header_as : (ls : List (List ℕ)) → HeaderBy told Reader ls r → HeaderBy retold Answers ls q
  header_as ls h =
      field_as 1 _ _ (λ l o k. k) _ _ (λ levels.
      field_as 2 _ _ (λ l o k. k) _ _ (λ slots.
      field_as 3 Reader Answers each _ _ (λ suite.
      field_as 4 _ _ (λ l o k. k) _ _ (λ keys.
      field_as 5 _ _ (λ l o k. k) _ _ (λ fuse ls₅. complete_as _ ls₅ r refl))))) ls h

-- the number of the refused line as the refusal
abbrev pub numbered : {A : Type 0} → Outcome A → Result (A × Bor (List ℕ)) ℕ
numbered r = result_map_both (λ x. x) (λ (bad : BadLine). bad.number) r

pub header_numbered : {K : Type 0} (Reader Answers : List ℕ → Option K → Type 0) → AnswersFor Answers Reader → (r : Outcome (Header K)) (q : Result (Header K × Bor (List ℕ)) ℕ) → q ≡ numbered r → (ls : List (List ℕ)) → HeaderBy bad_line Reader ls r → HeaderBy (λ n. n) Answers ls q
header_numbered Reader Answers each r q e ls h = header_as bad_line (λ n. n) Reader Answers each r q (λ n k. e ∙ ap numbered k) (λ x k. e ∙ ap numbered k) ls h

-- a number that no suite at hand has
pub no_suite : {K : Type 0} (suites : List (ℕ × K)) (t : List ℕ) (n : ℕ) → After (codes "suite=") Decimal t n → None ≡ find (λ s. s.0 == n) suites → (k : K) → SuiteLineAs suites t k → ⊥
no_suite {K} suites t n h none k w =
    let e : w.0 ≡ n = after_once (codes "suite=") Decimal decimal_once t w.0 n w.1 h in
    let f : option_map (λ (s : ℕ × K). s.1) (find (λ s. s.0 == n) suites) ≡ Some k = subst (λ m. option_map (λ (s : ℕ × K). s.1) (find (λ s. s.0 == m) suites) ≡ Some k) e w.2 in
    let g : option_map (λ (s : ℕ × K). s.1) None ≡ Some k = ap (option_map (λ (s : ℕ × K). s.1)) none ∙ f in
    cc
