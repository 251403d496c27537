-- What is printed of a script's parts.
use Rattle.std.specs.Prelude.{ℕ, cond, ◌&&◌, List, [], ◌∷◌, ◌++◌, take, drop, Ok, Err, codes, decimal, Result, nat_le, slice_index}
use Rattle.machine.specs.Faults.{number, layer}
use Rattle.machine.specs.Layout.{lines_of}
use Rattle.tree.specs.DirtyMap.{bits_set}
use Rattle.controller.specs.Views.{fault_of}
use Rattle.controller.specs.declared.types.Fault.{Fault}
use Rattle.controller.specs.declared.event.Reply.{Reply}
use Rattle.controller.specs.declared.event.Reply.TheVariants.{Body, Done, Refused, Put}
use Rattle.script.specs.declared.types.Row.{Row}

-- A row of these columns, with the dirty nodes and the dirty sum of a register: the bits set in words 22 to 31, and word 11.
abbrev pub row_with : ℕ → ℕ → ℕ → ℕ → ℕ → ℕ → List ℕ → Row
row_with n r y a v c g =
    record { step = n; result = r; layer = y; at = a; value = v; commits = c; ahead = bits_set (take 10 (drop 22 g)); total = slice_index g 11 }

-- The row of step n by its reply: word 0 of a body, the commits made, and the number, layer and place of a fault. A line put in place from outside shows nothing.
abbrev pub row_of : ℕ → Reply → List ℕ → Row
row_of n (Body ws) g = row_with n 0 0 0 (slice_index ws 0) 0 g
row_of n (Done c) g = row_with n 0 0 0 0 c g
row_of n (Refused f c) g = row_with n (number (fault_of f).cause) (layer (fault_of f).cause) (fault_of f).place 0 c g
row_of n (Put b) g = row_with n 0 0 0 0 0 g

-- The number of a fault, or 0.
abbrev pub result_of : Result (Unit {0}) Fault → ℕ
result_of (Ok _) = 0
result_of (Err f) = number (fault_of f).cause

-- How many lines h levels need, or 0 for levels outside 1 to 4.
abbrev pub lines_needed : ℕ → ℕ
lines_needed h = cond (nat_le 1 h && nat_le h 4) (lines_of h) 0

-- The head of the table, with the result of format and the number of lines above it.
abbrev pub made_text : ℕ → ℕ → List ℕ
made_text r n =
    codes "made=" ++ (decimal r ++ (codes " lines=" ++ (decimal n ++ (10 ∷ (codes "step result layer at value commits ahead total" ++ (10 ∷ []))))))

-- What is printed of format at h levels, and the head of the table.
abbrev pub head_text : Result (Unit {0}) Fault → ℕ → List ℕ
head_text r h = made_text (result_of r) (lines_needed h)
