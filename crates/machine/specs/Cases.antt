-- Worked cases on the definitions.
use Rattle.std.specs.Prelude.{◌≡◌, ℕ, ◌+◌, ◌/◌, ◌%◌, ◌^◌, List, length, ◌==◌}
use Rattle.std.proofs.Math.Option.{none}
use Rattle.suite.specs.Scheme.{Body, Scheme, tag_of}
use Rattle.machine.specs.Layout.{eight_ary, restored, lines_of, update}
use Rattle.machine.specs.Store.{line_at, Log, commits_in}
use Rattle.machine.specs.Faults.{fault, err, corrupt, sum_mismatch}
use Rattle.machine.specs.Plans.{View, Run, new_register, write_call, read_call, recover}
use Rattle.machine.specs.History.{World, counter_in, Reached}
use Rattle.machine.specs.Words.{row, dirty_of, words_of}

-- A board of two levels just formatted and brought up.
abbrev pub new_view : Scheme → View
new_view S = record { memory = λ a. line_at (eight_ary 2) S a 0 (λ i. 0); register = new_register S 2; table = λ p. none }

-- A write on a board of two levels with one slot.
abbrev pub write_2 : Scheme → View → ℕ → Body → Run
write_2 S v a b = write_call (eight_ary 2) S 1 v a b

-- The commits of a run whose writes are all done.
abbrev pub commits_of : Run → ℕ
commits_of r = commits_in (length r.planned) r.planned

-- After a write of 13 and a write of 20.
abbrev pub after_13 : Scheme → Body → Run
after_13 S b = write_2 S (new_view S) 13 b

abbrev pub after_20 : Scheme → Body → Body → Run
after_20 S b d = write_2 S (after_13 S b).view 20 d

-- A suite whose mac is always 0, and whose pad is zeros.
abbrev pub zero_suite : Scheme
zero_suite = record { number = 2; mac = λ a ws c. 0; pad = λ a c i. 0 }

-- A body whose first word is n.
abbrev pub one_word : ℕ → Body
one_word n = update (λ i. 0) 0 n

-- Line 13 is written twice, then 14.
abbrev pub before_replay : View
before_replay = (write_2 zero_suite (write_2 zero_suite (after_13 zero_suite (one_word 7)).view 13 (one_word 9)).view 14 (one_word 1)).view

-- And the first line of 13 is put back.
abbrev pub after_replay : View
after_replay =
    record {
      memory = update before_replay.memory 13 ((after_13 zero_suite (one_word 7)).view.memory 13);
      register = before_replay.register;
      table = before_replay.table;
    }

pub record WorkedCases : Type 0 where
  -- lines for one to four levels
  pub lines : (lines_of 1 ≡ 8) × (lines_of 2 ≡ 72) × (lines_of 3 ≡ 584) × (lines_of 4 ≡ 4680)
  -- at three levels, the way up from line 500
  pub parents : ((eight_ary 3).parent 500 ≡ 574) × ((eight_ary 3).parent 574 ≡ 583) × ((eight_ary 3).parent 583 ≡ (eight_ary 3).lines)
  pub indices : ((eight_ary 3).index 500 ≡ 4) × ((eight_ary 3).index 574 ≡ 6) × ((eight_ary 3).index 583 ≡ 7)
  -- node 583 is bit 7 of word 23
  pub dirty_bit : (ws : List ℕ) → dirty_of 3 ws 583 ≡ (row ws 23 / 2 ^ 7 % 2 == 1)
  pub restores : (restored 1020 3 ≡ 1027) × (restored 1027 3 ≡ 1027) × (restored 1027 2 ≡ 2050) × (restored 0 1023 ≡ 1023)
  pub tags : (S : Scheme) (a : ℕ) (ws : Body) → S.mac a ws 2050 ≡ 5 → tag_of S a ws 2050 ≡ 5122
  -- two levels, one slot, any suite: writing 13, then 20, makes three commits
  pub commits : (S : Scheme) (b d : Body) → commits_of (after_13 S b) + commits_of (after_20 S b d) ≡ 3
  pub finished : (S : Scheme) (b d : Body) → ((after_13 S b).ends ≡ none) × ((after_20 S b d).ends ≡ none)
  pub root : (S : Scheme) (b d : Body) → (after_20 S b d).view.register.roots 1 ≡ 1
  pub map : (S : Scheme) (b d : Body) → row (words_of (after_20 S b d).view.register) 22 ≡ 4
  pub sum : (S : Scheme) (b d : Body) → (after_20 S b d).view.register.dirty_sum ≡ 1
  -- there is a history in which line 3 was committed once since format
  pub history : (w : World) × (l : Log) × Reached eight_ary zero_suite w l × (counter_in l 3 ≡ 1)
  -- a replayed line is refused by a read, and by a bring-up through the dirty sum
  pub replayed_read : read_call (eight_ary 2) zero_suite after_replay 13 ≡ err (fault corrupt 13)
  pub replayed_bring_up : (before_replay.register.dirty_sum ≡ 3) × (recover (eight_ary 2) zero_suite after_replay.memory after_replay.register ≡ err (fault sum_mismatch 0))
