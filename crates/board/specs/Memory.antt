-- What a memory board is: line a stands at words 9a to 9a + 8.
use Rattle.std.specs.Prelude.{◌≡◌, ℕ, ◌+◌, ◌*◌, ◌/◌, ◌<◌, ◌≤◌, Bool, true, false, List, [], ◌∷◌, ◌++◌, map, length, take, drop, slice_index}
use Rattle.std.specs.List.{range_with_len, between}
use Rattle.board.specs.Meaning.{Meaning, endless}
use Rattle.board.specs.declared.types.Line.{Line}

-- The line that stands in nine words: eight of body, then the tag.
abbrev pub line_of : List ℕ → Line
line_of ws = record { body = take 8 ws; tag = slice_index ws 8 }

-- The nine words of a line.
abbrev pub words_of : Line → List ℕ
words_of l = l.body ++ l.tag ∷ []

-- The line at address a.
abbrev pub line_at : List ℕ → ℕ → Line
line_at ws a = line_of (between (9 * a) (9 * a + 9) ws)

-- As many lines as the words have whole.
abbrev pub lines_of : List ℕ → List Line
lines_of ws = map (line_at ws) (range_with_len 0 (length ws / 9))

-- A memory board by its words and its register; power has no end.
abbrev pub memory : List ℕ → List ℕ → Meaning
memory ws reg = record { lines = lines_of ws; register = reg; power = endless }

-- The words with a line put at address a: the nine words there are the line's, all before and after them stay.
abbrev pub with_line : List ℕ → ℕ → Line → List ℕ
with_line ws a l = take (9 * a) ws ++ (words_of l ++ drop 9 (drop (9 * a) ws))

-- The words after a line was put at address a, or was not since the words have no such line.
abbrev pub WordsPut : List ℕ → ℕ → Line → Bool → List ℕ → Type 0
WordsPut ws a l true ws' = (a < length ws / 9) × (ws' ≡ with_line ws a l)
WordsPut ws a l false ws' = (length ws / 9 ≤ a) × (ws' ≡ ws)
