-- How the lines of the program's input are spelled.
use Rattle.std.specs.Prelude.{◌≡◌, ℕ, List, [], ◌∷◌, ◌++◌, codes, slice_index}
use Rattle.text.specs.Spelling.{After, Decimal, Numbers, Keys}
use Rattle.text.specs.declared.types.KeyPair.{KeyPair}
use Rattle.suite.specs.declared.kind.SuiteKind.{SuiteKind}
use Rattle.suite.specs.declared.nonce.Nonce.{Nonce}
use Rattle.suite.specs.Kinds.{number_of}
use Rattle.seal.specs.declared.types.Kind.{Kind}
use Rattle.seal.specs.declared.types.Kind.TheVariants.{Data, Node}
use Rattle.seal.specs.declared.types.Item.{Item}
use Rattle.seal.specs.declared.types.Item.TheVariants.{Seal, Open}

-- The letter of a kind: d or n.
abbrev pub letter : Kind → ℕ
letter Data = 100
letter Node = 110

-- A key word and the letter of a kind, and what follows them.
abbrev pub Head : List ℕ → List ℕ → Kind × List ℕ → Type 0
Head word t p = t ≡ word ++ (letter p.0 ∷ p.1)

-- So many numbers behind a key word and the letter of a kind, each after one space.
abbrev pub Asked : List ℕ → Kind → ℕ → List ℕ → List ℕ → Type 0
Asked word k count t ns = (u : List ℕ) × Head word t (k, u) × Numbers count u ns

-- The address and the counter, which stand first.
abbrev pub nonce_of : List ℕ → Nonce
nonce_of ns = record { at = slice_index ns 0; counter = slice_index ns 1 }

-- An item: the address, the counter, then the eight words of a body, or the nine of a line.
abbrev pub ItemLine : List ℕ → Item → Type 0
ItemLine t (Seal k n b) = Asked (codes "seal=") k 10 t (n.at ∷ n.counter ∷ b)
ItemLine t (Open k n l) = Asked (codes "open=") k 11 t (n.at ∷ n.counter ∷ (l.body ++ (l.tag ∷ [])))

-- The first line: the number of a suite that the program has.
abbrev pub SuiteLine : List ℕ → SuiteKind → Type 0
SuiteLine t s = After (codes "suite=") Decimal t (number_of s)

-- The second line: the two keys.
abbrev pub KeyLine : List ℕ → KeyPair → Type 0
KeyLine = After (codes "key=") Keys
