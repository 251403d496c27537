-- The worked cases: by computing, but for the two checks of a blank node's line under any suite.
use Rattle.std.proofs.Common.{◌≡◌, ℕ, ◌+◌, true, cond, [], ◌++◌, sym, refl, ap, ◌∙◌, subst, arith}
use mathlib.Core.Option.{none}
use Rattle.std.proofs.lemmas.Bool.{and_from}
use Rattle.std.proofs.lemmas.List.{get_or-drop}
use Rattle.suite.specs.Scheme.{Body, Line, Scheme, tag_of, right}
use Rattle.machine.specs.Layout.{Shape, eight_ary, update, sum_to, every, first}
use Rattle.machine.specs.Store.{line_at, commits_in}
use Rattle.machine.specs.Faults.{fault, ok, err, bind, corrupt}
use Rattle.machine.specs.Plans.{View, Run, slot_counters, dirty_count, sum_of, node_valid, counter_at, counter_of, commit_under, commit_at, commit, evict_now, evict_at, evict, evict_until, write_call, read_call, restore_node, restore, recover}
use Rattle.machine.specs.Words.{row, words_of, map_word}
use Rattle.machine.specs.Cases.{WorkedCases, new_view, write_2, commits_of, after_13, after_20}
use Rattle.machine.proofs.Lines.{line_right}
use Rattle.machine.proofs.Example.{w₃, l₃, a_history}

module _ (S : Scheme) where
  abbrev T : Shape
  T = eight_ary 2

  -- A blank node's line passes its check under counter 0.
  blank_valid : (m : ℕ → Line) (p : ℕ) → m p ≡ line_at T S p 0 (λ i. 0) → (line_at T S p 0 (λ i. 0)).words ≡ (λ i. 0) → node_valid T S m p 0 ≡ true
  unfolding node_valid every
  blank_valid m p e f = and_from _ _ (subst (λ x. right S p 0 x ≡ true) (sym e) (line_right T S p 0 (λ i. 0))) (rw (e, f) refl)

  module _ (b : Body) where
    abbrev v₀ : View
    v₀ = new_view S

    abbrev r₁ : Run
    r₁ = commit_under T S v₀.memory v₀.register v₀.table 13 b 1

    counter_13 : counter_of T S v₀ 13 ≡ ok 0
    unfolding counter_of counter_at line_at
    counter_13 = ap (λ t. cond t (ok 0) (err (fault corrupt 65))) (blank_valid v₀.memory 65 refl refl)

    first_write : after_13 S b ≡ commit_at T S v₀ v₀.table 13 b (counter_of T S v₀ 13)
    unfolding write_call commit evict_until dirty_count sum_to
    first_write = refl

    is₁ : after_13 S b ≡ r₁
    is₁ = first_write ∙ ap (commit_at T S v₀ v₀.table 13 b) counter_13

    module _ (d : Body) where
      abbrev v₁ : View
      v₁ = r₁.view

      -- Leaf 65 is evicted.
      abbrev r₂ : Run
      r₂ = commit_under T S v₁.memory v₁.register (update v₁.table 65 none) 65 (slot_counters (v₁.table 65)) 1

      abbrev v₂ : View
      v₂ = r₂.view

      abbrev joined : Run → Run
      joined r = record { planned = (r₂.planned ++ []) ++ r.planned; view = r.view; ends = r.ends }

      counter_20 : counter_of T S v₂ 20 ≡ ok 0
      unfolding counter_of counter_at line_at
      counter_20 = ap (λ t. cond t (ok 0) (err (fault corrupt 66))) (blank_valid v₂.memory 66 refl refl)

      second_write : write_2 S v₁ 20 d ≡ joined (commit_at T S v₂ v₂.table 20 d (counter_of T S v₂ 20))
      unfolding write_call commit evict_until evict evict_at evict_now dirty_count sum_to first counter_of counter_at
      second_write = refl

      is₂ : write_2 S v₁ 20 d ≡ joined (commit_under T S v₂.memory v₂.register v₂.table 20 d 1)
      is₂ = second_write ∙ ap (λ c. joined (commit_at T S v₂ v₂.table 20 d c)) counter_20

      -- What holds of the two runs as computed holds of the two writes.
      of_both : (P : Run → Run → Type 0) → P r₁ (joined (commit_under T S v₂.memory v₂.register v₂.table 20 d 1)) → P (after_13 S b) (after_20 S b d)
      of_both P x = subst (λ r. P r (write_2 S r.view 20 d)) (sym is₁) (subst (P r₁) (sym is₂) x)

pub worked_cases : WorkedCases
unfolding tag_of right line_at commits_in sum_to every first bind dirty_count sum_of node_valid counter_at counter_of commit evict_now evict_at evict evict_until write_call read_call restore_node restore recover words_of map_word
worked_cases =
    record {
      lines = (refl, refl, refl, refl);
      parents = (refl, refl, refl);
      indices = (refl, refl, refl);
      dirty_bit = λ ws. rw (get_or-drop 22 ws 1 0) refl;
      restores = (refl, refl, refl, refl);
      tags = λ S a ws e. omega (arith, e);
      commits = λ S b d. of_both S b d (λ r s. commits_of r + commits_of s ≡ 3) refl;
      finished = λ S b d. of_both S b d (λ r s. (r.ends ≡ none) × (s.ends ≡ none)) (refl, refl);
      root = λ S b d. of_both S b d (λ r s. s.view.register.roots 1 ≡ 1) refl;
      map = λ S b d. of_both S b d (λ r s. row (words_of s.view.register) 22 ≡ 4) refl;
      sum = λ S b d. of_both S b d (λ r s. s.view.register.dirty_sum ≡ 1) refl;
      history = (w₃, l₃, a_history.0, a_history.1);
      replayed_read = refl;
      replayed_bring_up = (refl, refl);
    }
