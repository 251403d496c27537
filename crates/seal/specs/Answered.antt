-- What the program answers and prints.
use Rattle.std.specs.Prelude.{◌≡◌, ℕ, ◌+◌, List, [], ◌∷◌, ◌++◌, length, Ok, Err, codes, decimal, Option, Result, MatchOption}
use Rattle.std.proofs.Math.Option.{Option as Maybe, some, none}
use Rattle.suite.specs.Scheme.{Body, Line, Scheme, data_line, node_line}
use Rattle.suite.specs.Words.{row as words_in, line_in, open_data, open_node}
use Rattle.suite.specs.Kinds.{scheme_of as scheme_under}
use Rattle.suite.specs.declared.kind.SuiteKind.{SuiteKind}
use Rattle.suite.specs.declared.nonce.Nonce.{Nonce}
use Rattle.std.specs.Borrow.{Bor}
use Rattle.text.specs.Spelling.{Reads, lines_of}
use Rattle.text.specs.Writing.{row, bad}
use Rattle.text.specs.declared.types.KeyPair.{KeyPair}
use Rattle.text.specs.declared.lines.BadLine.{BadLine}
use Rattle.seal.specs.Items.{ItemLine, SuiteLine, KeyLine}
use Rattle.seal.specs.declared.types.Kind.{Kind}
use Rattle.seal.specs.declared.types.Kind.TheVariants.{Data, Node}
use Rattle.seal.specs.declared.types.Item.{Item}
use Rattle.seal.specs.declared.types.Item.TheVariants.{Seal, Open}
use Rattle.seal.specs.declared.types.Answer.{Answer}
use Rattle.seal.specs.declared.types.Answer.TheVariants.{Sealed, Opened, Corrupt}

-- The line that a suite makes of words.
abbrev pub line_of : Scheme → Kind → Nonce → Body → Line
line_of S Data n = data_line S n.at n.counter
line_of S Node n = node_line S n.at n.counter

-- What a suite gets back from a line, where its tag is right.
abbrev pub body_of : Scheme → Kind → Nonce → Line → Maybe Body
body_of S Data n = open_data S n.at n.counter
body_of S Node n = open_node S n.at n.counter

-- The right answer to an item. A body has eight words.
abbrev pub Answered : Scheme → Item → Answer → Type 0
Answered S (Seal k n b) (Sealed l) = (length l.body ≡ 8) × (line_in l ≡ line_of S k n (words_in b))
Answered S (Seal k n b) (Opened ws) = ⊥
Answered S (Seal k n b) Corrupt = ⊥
Answered S (Open k n l) (Sealed m) = ⊥
Answered S (Open k n l) (Opened ws) = (length ws ≡ 8) × (body_of S k n (line_in l) ≡ some (words_in ws))
Answered S (Open k n l) Corrupt = body_of S k n (line_in l) ≡ none

-- What is printed of an answer: the nine words of a line, the eight of a body, or a word for a corrupt line.
abbrev pub answer_text : Answer → List ℕ
answer_text (Sealed l) = row l.body ++ (32 ∷ decimal l.tag)
answer_text (Opened ws) = row ws
answer_text Corrupt = codes "corrupt"

-- What is printed for the lines from number n on: a row for each item, up to the first unreadable line.
abbrev pub Rows : Scheme → ℕ → List (List ℕ) → List ℕ → Type 0
Rows S n [] out = out ≡ []
Rows S n (l ∷ ls) out =
    (r : Option Item) × Reads ItemLine l r × MatchOption r (out ≡ bad n) (λ i. (a : Answer) × (more : List ℕ) × Answered S i a × (out ≡ answer_text a ++ (10 ∷ more)) × Rows S (n + 1) ls more)

-- What a suite computes under two keys.
abbrev pub scheme_of : SuiteKind → KeyPair → Scheme
scheme_of s k = scheme_under s k.mac k.pad

-- What is printed for the lines behind the first, where that names a suite.
abbrev pub Keyed : SuiteKind → List (List ℕ) → List ℕ → Type 0
Keyed s [] out = out ≡ bad 2
Keyed s (l ∷ ls) out = (r : Option KeyPair) × Reads KeyLine l r × MatchOption r (out ≡ bad 2) (λ k. Rows (scheme_of s k) 3 ls out)

-- What is printed for all lines of the input.
abbrev pub Printed : List (List ℕ) → List ℕ → Type 0
Printed [] out = out ≡ bad 1
Printed (l ∷ ls) out = (r : Option SuiteKind) × Reads SuiteLine l r × MatchOption r (out ≡ bad 1) (λ s. Keyed s ls out)

-- There is no second such text.
abbrev pub Single : (List ℕ → Type 0) → Type 0
Single P = (out other : List ℕ) → P out → P other → out ≡ other

-- What the header says: what is printed for the lines behind it is printed for all, or a line of it is bad.
abbrev pub HeaderRead : List (List ℕ) → Result (SuiteKind × KeyPair × Bor (List ℕ)) BadLine → Type 0
HeaderRead ls (Ok h) = (out : List ℕ) → Rows (scheme_of h.0 h.1) 3 (lines_of h.2.now) out → Printed ls out
HeaderRead ls (Err e) = Printed ls (bad e.number)
