-- A history there is: a board of one level is formatted, brought up, and written.
use Rattle.std.proofs.Common.{◌≡◌, false, [], refl}
use mathlib.Core.Option.{none}
use Rattle.suite.specs.Scheme.{Scheme}
use Rattle.board.specs.Meaning.{endless}
use Rattle.machine.specs.Layout.{eight_ary, sum_to, every}
use Rattle.machine.specs.Store.{Log, after_writes, log_after, commits_in}
use Rattle.machine.specs.Faults.{bind}
use Rattle.machine.specs.Plans.{format_writes, blank_lines, blank_log, sum_of, counter_at, counter_of, commit, write_call, restore, recover, map_count}
use Rattle.machine.specs.History.{World, cold, opened, format, bring_up, write, done, after, view_of, format_check, register_valid, bring_up_check, Reached, start, next, Step, counter_in}
use Rattle.machine.specs.Cases.{zero_suite, one_word}

abbrev S : Scheme
S = zero_suite

abbrev w₀ : World
w₀ = record { board = record { memory = λ a. record { words = λ i. 0; tag = 5 }; size = 8; register = record { formatted = 0; levels = 0; suite = 0; roots = λ i. 0; dirty_sum = 0; journal = none; dirty = λ p. false }; power = endless }; chip = cold }

abbrev w₁ : World
w₁ = record { board = after w₀.board 9 (format_writes (eight_ary 1) S 1) endless; chip = cold }

abbrev l₁ : Log
l₁ = log_after 9 (format_writes (eight_ary 1) S 1) []

abbrev w₂ : World
w₂ = record { board = after w₁.board 0 [] endless; chip = opened 1 (λ p. none) }

abbrev pub w₃ : World
w₃ = record { board = after w₂.board 2 (write_call (eight_ary 1) S 1 (view_of w₂.board (λ p. none)) 3 (one_word 7)).planned endless; chip = opened 1 (λ p. none) }

abbrev pub l₃ : Log
l₃ = log_after 2 (write_call (eight_ary 1) S 1 (view_of w₂.board (λ p. none)) 3 (one_word 7)).planned l₁

s₁ : Step eight_ary S w₀ [] (format 1) (done 0) w₁ l₁
unfolding format_check format_writes blank_lines blank_log after_writes log_after
s₁ = (9, endless, refl, refl, refl, refl)

s₂ : Step eight_ary S w₁ l₁ (bring_up 1 2) (done 0) w₂ l₁
unfolding bring_up_check register_valid format_writes blank_lines blank_log after_writes log_after every map_count sum_to recover restore bind sum_of
s₂ = (0, endless, refl, refl, refl, refl)

s₃ : Step eight_ary S w₂ l₁ (write 3 (one_word 7)) (done 1) w₃ l₃
unfolding format_writes blank_lines blank_log after_writes log_after write_call commit counter_of counter_at sum_of sum_to commits_in
s₃ = (2, endless, refl, refl, refl, refl)

pub a_history : Reached eight_ary S w₃ l₃ × (counter_in l₃ 3 ≡ 1)
unfolding format_writes blank_lines blank_log after_writes log_after write_call commit counter_of counter_at counter_in
a_history = (next (next (next (start w₀ refl refl) (format 1) (done 0) w₁ l₁ tt s₁) (bring_up 1 2) (done 0) w₂ l₁ tt s₂) (write 3 (one_word 7)) (done 1) w₃ l₃ tt s₃, refl)
