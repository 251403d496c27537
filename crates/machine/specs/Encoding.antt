-- The register's fields as words, and back.
use Rattle.std.specs.Prelude.{◌≡◌, ℕ, ◌-◌, ◌^◌, cond, ◌&&◌, List, [], ◌∷◌, ◌++◌, length, take, drop, replicate, Some, None, Option as Maybe, ◌==◌, nat_le, slice_set}
use Rattle.std.proofs.Math.Option.{Option, some, none}
use Rattle.machine.specs.declared.types.Register.{Register as Fields}
use Rattle.machine.specs.declared.types.Journal.{Journal as Entry}
use Rattle.machine.specs.Layout.{update}
use Rattle.machine.specs.Store.{Journal, Register}
use Rattle.machine.specs.Words.{row, line_in, no_address, bit}

-- A journal by its meaning.
abbrev pub journal_meant : Maybe Entry → Option Journal
journal_meant None = none
journal_meant (Some j) = some (record { at = j.at; line = line_in j.line })

-- The register by its meaning.
unfoldable pub register_meant : Fields → Register
register_meant f =
    record {
      formatted = f.formatted;
      levels = f.levels;
      suite = f.suite;
      roots = row f.roots;
      dirty_sum = f.dirty_sum;
      journal = journal_meant f.journal;
      dirty = λ p. nat_le (8 ^ f.levels) p && bit f.dirty (p - 8 ^ f.levels);
    }

-- Words 12 to 21: without a journal its line is zeros.
abbrev pub journal_encoded : Maybe Entry → List ℕ
journal_encoded None = no_address ∷ replicate 9 0
journal_encoded (Some j) = j.at ∷ (j.line.body ++ (j.line.tag ∷ []))

-- The fields as 32 words.
unfoldable pub encoded : Fields → List ℕ
encoded f = f.formatted ∷ f.levels ∷ f.suite ∷ (f.roots ++ (f.dirty_sum ∷ (journal_encoded f.journal ++ f.dirty)))

-- The journal in 32 words, by its address.
abbrev pub journal_decoded : ℕ → List ℕ → Maybe Entry
journal_decoded a ws = cond (a == no_address) None (Some (record { at = a; line = record { body = take 8 (drop 13 ws); tag = row ws 21 } }))

-- The fields of 32 words.
abbrev pub decoded : List ℕ → Fields
decoded ws =
    record {
      formatted = row ws 0;
      levels = row ws 1;
      suite = row ws 2;
      roots = take 8 (drop 3 ws);
      dirty_sum = row ws 11;
      journal = journal_decoded (row ws 12) ws;
      dirty = take 10 (drop 22 ws);
    }

-- The words with a journal in its place; without one only its address is written.
abbrev pub with_journal : List ℕ → Maybe Entry → List ℕ
with_journal ws None = slice_set ws 12 no_address
with_journal ws (Some j) = take 13 (slice_set (slice_set ws 12 j.at) 21 j.line.tag) ++ (j.line.body ++ drop 21 (slice_set (slice_set ws 12 j.at) 21 j.line.tag))

-- The words with a commit's dirty sum, journal and dirty map in their places.
abbrev pub with_commit : List ℕ → ℕ → Entry → List ℕ → List ℕ
with_commit ws sum j dirty = take 11 ws ++ (sum ∷ (journal_encoded (Some j) ++ dirty))

-- The register with one of the root's counters.
abbrev pub with_counter : Register → ℕ → ℕ → Register
with_counter g i c =
    record {
      formatted = g.formatted;
      levels = g.levels;
      suite = g.suite;
      roots = update g.roots i c;
      dirty_sum = g.dirty_sum;
      journal = g.journal;
      dirty = g.dirty;
    }

-- The register with a commit's dirty sum, journal and dirty map.
abbrev pub committed : Register → ℕ → Entry → List ℕ → Register
committed g sum j dirty =
    record {
      formatted = g.formatted;
      levels = g.levels;
      suite = g.suite;
      roots = g.roots;
      dirty_sum = sum;
      journal = journal_meant (Some j);
      dirty = λ p. nat_le (8 ^ g.levels) p && bit dirty (p - 8 ^ g.levels);
    }

-- All that 32 words say: where there is no journal, its line counts as zeros.
abbrev pub said : List ℕ → List ℕ
said ws = cond (row ws 12 == no_address) (take 13 ws ++ (replicate 9 0 ++ drop 22 ws)) ws

-- A journal's address is not the one that stands for none.
abbrev pub Real : Maybe Entry → Type 0
Real None = Unit {0}
Real (Some j) = j.at ≡ no_address → ⊥

-- A journal's body has eight words.
abbrev pub EightWords : Maybe Entry → Type 0
EightWords None = Unit {0}
EightWords (Some j) = length j.line.body ≡ 8
