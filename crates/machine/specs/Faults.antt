-- Why a call is refused.
use Rattle.std.specs.Prelude.{ℕ}

-- The causes of a refusal.
pub data Cause : Type 0 where
  not_data : Cause  -- the address is no data address
  bad_size : Cause  -- levels outside 1 to 4 at format, or slots outside 1 to 64 at bring-up
  too_few_lines : Cause  -- the board has fewer lines than the levels need
  invalid_register : Cause  -- at bring-up, the register is not one of a formatted board
  already_formatted : Cause  -- at format, word 0 of the register is not 0
  other_suite : Cause  -- the register has another suite's number
  too_many_dirty : Cause  -- more dirty nodes than slots
  corrupt : Cause  -- a line's tag is not right, or a node's counter is above the limit
  sum_mismatch : Cause  -- the restored counters miss the dirty sum
  power_lost : Cause
  at_limit : Cause  -- the counter to be raised is at the limit

-- The number that a cause is reported by.
abbrev pub number : Cause → ℕ
number not_data = 1
number bad_size = 2
number too_few_lines = 3
number invalid_register = 4
number already_formatted = 5
number other_suite = 6
number too_many_dirty = 7
number corrupt = 8
number sum_mismatch = 9
number power_lost = 10
number at_limit = 11

-- The layer that meets a cause: 1 the board, 2 the tree, 3 the controller.
abbrev pub layer : Cause → ℕ
layer not_data = 3
layer bad_size = 3
layer too_few_lines = 3
layer invalid_register = 3
layer already_formatted = 3
layer other_suite = 3
layer too_many_dirty = 3
layer corrupt = 2
layer sum_mismatch = 2
layer power_lost = 1
layer at_limit = 2

-- A fault: its cause and its place, an address or 0.
pub record Fault : Type 0 where
  pub cause : Cause
  pub place : ℕ

-- The fault of a cause at a place.
abbrev pub fault : Cause → ℕ → Fault
fault n a = record { cause = n; place = a }

-- A value, or a fault.
pub data Outcome (A : Type 0) : Type 0 where
  ok : A → Outcome A
  err : Fault → Outcome A

-- A value is handed on; a fault stays.
unfoldable pub bind : {A B : Type 0} → Outcome A → (A → Outcome B) → Outcome B
bind (ok x) f = f x
bind (err r) f = err r
