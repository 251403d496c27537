-- How the words and lines that code holds are seen by the definitions, and what opening a line answers.
use Rattle.std.specs.Prelude.{◌≡◌, ℕ, cond, List, Some, None, Option as Maybe, slice_index}
use Rattle.std.proofs.Math.Option.{Option, some, none}
use Rattle.board.specs.declared.types.Line.{Line as BoardLine}
use Rattle.suite.specs.Scheme.{Body, Line, Scheme, right, mix}

-- Words as a function of their place: 0 past their end.
abbrev pub row : List ℕ → ℕ → ℕ
row ws i = slice_index ws i

-- A board's line as the definitions see it.
abbrev pub line_in : BoardLine → Line
line_in l = record { words = row l.body; tag = l.tag }

-- The body of a data line, where its tag is right under the counter.
abbrev pub open_data : Scheme → ℕ → ℕ → Line → Option Body
open_data S a c L = cond (right S a c L) (some (mix L.words (S.pad a c))) none

-- The counters of a node line, where its tag is right under the counter.
abbrev pub open_node : Scheme → ℕ → ℕ → Line → Option Body
open_node S a c L = cond (right S a c L) (some L.words) none

-- The code answers what the definition answers.
abbrev pub Answers : Option Body → Maybe (List ℕ) → Type 0
Answers z (Some ws) = z ≡ some (row ws)
Answers z None = z ≡ none
