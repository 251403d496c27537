-- What the board's words mean: 32 words as a register, nine words as a line, a board as a whole.
use Rattle.std.specs.Prelude.{ℕ, ◌+◌, ◌-◌, ◌*◌, ◌/◌, ◌%◌, ◌^◌, Bool, cond, ◌&&◌, List, [], ◌∷◌, ◌++◌, map, length, take, drop, ◌==◌, nat_le, slice_index, slice_index_or}
use Rattle.std.proofs.Math.Option.{Option, some, none}
use Rattle.suite.specs.Scheme.{Line}
use Rattle.board.specs.Meaning.{Meaning}
use Rattle.machine.specs.Layout.{sum_to}
use Rattle.machine.specs.Store.{Journal, Register, BoardState}
use Rattle.std.specs.List.{range_with_len}
use Rattle.board.specs.declared.types.Line.{Line as Stored}

-- Words as a function of their place: 0 past their end.
abbrev pub row : List ℕ → ℕ → ℕ
row ws i = slice_index ws i

-- A stored line by its meaning.
abbrev pub line_in : Stored → Line
line_in l = record { words = row l.body; tag = l.tag }

-- What stands at an address that a board does not have.
abbrev pub no_line : Stored
no_line = record { body = []; tag = 0 }

-- The lines of a board by address.
unfoldable pub memory_in : List Stored → ℕ → Line
memory_in ls a = line_in (slice_index_or ls a no_line)

-- No journal: 2 ^ 64 − 1 stands for its address.
abbrev pub no_address : ℕ
no_address = 18446744073709551615

-- Words 13 to 21 of a register: the journal's line.
abbrev pub journal_line : List ℕ → Line
journal_line ws = record { words = row (take 8 (drop 13 ws)); tag = row ws 21 }

-- The journal by its address, word 12.
abbrev pub journal_of : ℕ → List ℕ → Option Journal
journal_of a ws = cond (a == no_address) none (some (record { at = a; line = journal_line ws }))

-- Bit j of a run of words.
abbrev pub bit : List ℕ → ℕ → Bool
bit ws j = row ws (j / 64) / 2 ^ (j % 64) % 2 == 1

-- The dirty map at h levels: for node p, bit p − 8 ^ h of words 22 to 31.
abbrev pub dirty_of : ℕ → List ℕ → ℕ → Bool
dirty_of h ws p = nat_le (8 ^ h) p && bit (drop 22 ws) (p - 8 ^ h)

-- 32 words as a register.
unfoldable pub register_in : List ℕ → Register
register_in ws =
    record {
      formatted = row ws 0;
      levels = row ws 1;
      suite = row ws 2;
      roots = row (take 8 (drop 3 ws));
      dirty_sum = row ws 11;
      journal = journal_of (row ws 12) ws;
      dirty = dirty_of (row ws 1) ws;
    }

-- f 0 to f (n − 1) in a row.
abbrev pub listed : ℕ → (ℕ → ℕ) → List ℕ
listed n f = map f (range_with_len 0 n)

-- Word k of a dirty map at h levels.
unfoldable pub map_word : ℕ → (ℕ → Bool) → ℕ → ℕ
map_word h dirty k = sum_to 64 (λ j. cond (dirty (8 ^ h + (64 * k + j))) (2 ^ j) 0)

-- Words 12 to 21 of a register: without a journal its line is zeros.
abbrev pub journal_words : Option Journal → List ℕ
journal_words none = no_address ∷ listed 9 (λ i. 0)
journal_words (some j) = j.at ∷ (listed 8 j.line.words ++ (j.line.tag ∷ []))

-- A register as 32 words.
unfoldable pub words_of : Register → List ℕ
words_of g =
    g.formatted ∷ g.levels ∷ g.suite
    ∷ (listed 8 g.roots ++ (g.dirty_sum ∷ (journal_words g.journal ++ listed 10 (map_word g.levels g.dirty))))

-- A board by its meaning here.
abbrev pub state_in : Meaning → BoardState
state_in m = record { memory = memory_in m.lines; size = length m.lines; register = register_in m.register; power = m.power }
