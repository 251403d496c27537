-- How a script is spelled, and how a row is printed.
use Rattle.std.specs.Prelude.{◌≡◌, ℕ, ◌<◌, List, [], ◌∷◌, ◌++◌, length, Some, None, Ok, Err, codes, Option, Result, IsOkAnd, MatchOption, ◌==◌, slice_index}
use Rattle.std.specs.Option.{option_map}
use Rattle.std.specs.List.{find}
use Rattle.std.specs.Borrow.{Bor}
use Rattle.text.specs.Spelling.{Reads, After, Decimal, Numbers, Keys, lines_of}
use Rattle.text.specs.Writing.{row}
use Rattle.text.specs.declared.lines.BadLine.{BadLine}
use Rattle.script.specs.declared.types.Header.{Header}
use Rattle.script.specs.declared.types.Step.{Step}
use Rattle.script.specs.declared.types.Step.TheVariants.{Read, Write, Flush, Restart, Recharge, Copy, Put}
use Rattle.script.specs.declared.types.Row.{Row}

-- A number of writes, or none for no end.
abbrev pub Limit : List ℕ → Option ℕ → Type 0
Limit t (Some n) = Decimal t n
Limit t None = t ≡ codes "none"

-- The letter of a step: r, w, s, d, p, k or m.
abbrev pub letter_of : Step → ℕ
letter_of (Read a) = 114
letter_of (Write a b) = 119
letter_of Flush = 115
letter_of Restart = 100
letter_of (Recharge l) = 112
letter_of (Copy a) = 107
letter_of (Put a) = 109

-- What stands behind the letter: numbers, each after one space; nothing; or one space and a limit.
abbrev pub Arguments : List ℕ → Step → Type 0
Arguments u (Read a) = Numbers 1 u (a ∷ [])
Arguments u (Write a b) = Numbers 2 u (a ∷ b ∷ [])
Arguments u Flush = u ≡ []
Arguments u Restart = u ≡ []
Arguments u (Recharge l) = After (codes " ") Limit u l
Arguments u (Copy a) = Numbers 1 u (a ∷ [])
Arguments u (Put a) = Numbers 1 u (a ∷ [])

-- One number behind one space.
abbrev pub One : List ℕ → ℕ → Type 0
One u a = Numbers 1 u (a ∷ [])

-- A step by its letter and what stands behind it.
abbrev pub Lettered : ℕ → List ℕ → Step → Type 0
Lettered c u s = (letter_of s ≡ c) × Arguments u s

-- A step's line.
abbrev pub StepLine : List ℕ → Step → Type 0
StepLine t s = (u : List ℕ) × (t ≡ codes "step=" ++ (letter_of s ∷ u)) × Arguments u s

-- The number of a suite that is among those at hand.
abbrev pub SuiteLine : List ℕ → List ℕ → ℕ → Type 0
SuiteLine suites t n = After (codes "suite=") Decimal t n × ((i : ℕ) × (i < length suites) × (slice_index suites i ≡ n))

-- The number of a suite, which is the first at hand that has this number.
abbrev pub SuiteLineAs : {K : Type 0} → List (ℕ × K) → List ℕ → K → Type 0
SuiteLineAs suites t k = (n : ℕ) × After (codes "suite=") Decimal t n × (option_map (λ s. s.1) (find (λ s. s.0 == n) suites) ≡ Some k)

-- What is read of the first lines: their values and the text behind them, or the number of the first of them that is
-- missing or unreadable.
abbrev pub Outcome : Type 0 → Type 0
Outcome A = Result (A × Bor (List ℕ)) BadLine

-- The line of number n is missing or unreadable.
abbrev pub bad_line : ℕ → BadLine
bad_line n = record { number = n }

-- The value that a reader answers at the first of some lines, which has number n, and the lines behind it.
abbrev pub FirstRead : {A : Type 0} → (List ℕ → Option A → Type 0) → ℕ → List (List ℕ) → Outcome A → Type 0
FirstRead Answers n [] r = r ≡ Err (bad_line n)
FirstRead {A} Answers n (l ∷ ls) r = (o : Option A) × Answers l o × MatchOption o (r ≡ Err (bad_line n)) (λ a. IsOkAnd r (λ p. (p.0 ≡ a) × (lines_of p.1.now ≡ ls)))

-- The same as a record, by which a proof finds the reader, the number and the lines.
pub record LineRead {A : Type 0} (Answers : List ℕ → Option A → Type 0) (n : ℕ) (ls : List (List ℕ)) (r : Outcome A) : Type 0 where
  pub first : FirstRead Answers n ls r

-- A reader that answers so is to have a value at the first of some lines, which e refuses; so on with that and the lines behind it.
abbrev pub FieldBy : {A R E : Type 0} → E → (List ℕ → Option A → Type 0) → List (List ℕ) → Result R E → (A → List (List ℕ) → Type 0) → Type 0
FieldBy e Answers [] r Next = r ≡ Err e
FieldBy {A} e Answers (l ∷ ls) r Next = (o : Option A) × Answers l o × MatchOption o (r ≡ Err e) (λ a. Next a ls)

-- The first of some lines, which e refuses, is to spell a value; so on with that and the lines behind it.
abbrev pub Field : {A R E : Type 0} → E → (List ℕ → A → Type 0) → List (List ℕ) → Result R E → (A → List (List ℕ) → Type 0) → Type 0
Field e Spells ls r Next = FieldBy e (Reads Spells) ls r Next

-- All values are there, and these lines are left.
abbrev pub Complete : {K E : Type 0} → Header K → List (List ℕ) → Result (Header K × Bor (List ℕ)) E → Type 0
Complete h ls (Ok p) = (p.0 ≡ h) × (lines_of p.1.now ≡ ls)
Complete h ls (Err e) = ⊥

-- The header: levels, slots, suite, key and fuse, in this order, a line each. A reader that answers so reads the suite's line, and line n is refused by `refusal n`.
abbrev pub HeaderBy : {K E : Type 0} → (ℕ → E) → (List ℕ → Option K → Type 0) → List (List ℕ) → Result (Header K × Bor (List ℕ)) E → Type 0
HeaderBy refusal Suite ls r =
    Field (refusal 1) (After (codes "levels=") Decimal) ls r (λ levels ls₁.
    Field (refusal 2) (After (codes "slots=") Decimal) ls₁ r (λ slots ls₂.
    FieldBy (refusal 3) Suite ls₂ r (λ suite ls₃.
    Field (refusal 4) (After (codes "key=") Keys) ls₃ r (λ keys ls₄.
    Field (refusal 5) (After (codes "fuse=") Limit) ls₄ r (λ fuse ls₅.
    Complete (record { levels = levels; slots = slots; suite = suite; keys = keys; fuse = fuse }) ls₅ r)))))

-- The header with the number of its suite, refused with the number of a line.
abbrev pub HeaderRead : List ℕ → List (List ℕ) → Result (Header ℕ × Bor (List ℕ)) ℕ → Type 0
HeaderRead suites ls r = HeaderBy (λ n. n) (Reads (SuiteLine suites)) ls r

-- The header with what stands beside the number of its suite.
abbrev pub HeaderReadAs : {K : Type 0} → List (ℕ × K) → List (List ℕ) → Outcome (Header K) → Type 0
HeaderReadAs suites ls r = HeaderBy bad_line (Reads (SuiteLineAs suites)) ls r

-- The words of a row, in the order of its columns.
abbrev pub columns : Row → List ℕ
columns r = r.step ∷ r.result ∷ r.layer ∷ r.at ∷ r.value ∷ r.commits ∷ r.ahead ∷ r.total ∷ []

-- What is printed of a row.
abbrev pub row_text : Row → List ℕ
row_text r = row (columns r)
