-- Lines and suites by their meaning: words are functions of their place, 0 past the eighth.
use Rattle.std.specs.Prelude.{ℕ, ◌+◌, ◌*◌, ◌%◌, Bool, ◌==◌, bit_xor}

-- Words 0 to 7 of a line: a body, or a node's counters.
abbrev pub Body : Type 0
Body = ℕ → ℕ

-- A line: its words and its tag.
pub record Line : Type 0 where
  pub words : Body
  pub tag : ℕ

-- What a suite computes: its number, a mac for each address, words and counter, and a pad for each address and counter.
pub record Scheme : Type 0 where
  pub number : ℕ
  pub mac : ℕ → Body → ℕ → ℕ
  pub pad : ℕ → ℕ → Body

-- The tag of words at an address under a counter: the mac, then the ten low bits of the counter.
unfoldable pub tag_of : Scheme → ℕ → Body → ℕ → ℕ
tag_of S a ws c = S.mac a ws c * 1024 + c % 1024

-- Whether a line's whole tag is right at an address under a counter.
unfoldable pub right : Scheme → ℕ → ℕ → Line → Bool
right S a c L = L.tag == tag_of S a L.words c

-- A body combined with a pad by exclusive or, word by word.
abbrev pub mix : Body → Body → Body
mix b p i = bit_xor (b i) (p i)

-- The line that stores these words at an address under a counter.
abbrev pub sealed : Scheme → ℕ → ℕ → Body → Line
sealed S a c ws = record { words = ws; tag = tag_of S a ws c }

-- The line of a data body: stored under the pad, its mac over what is stored.
abbrev pub data_line : Scheme → ℕ → ℕ → Body → Line
data_line S a c b = sealed S a c (mix b (S.pad a c))

-- The line of a node: its counters as they are.
abbrev pub node_line : Scheme → ℕ → ℕ → Body → Line
node_line S a c b = sealed S a c b
