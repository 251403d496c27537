-- Reads, from what the code found.
use Rattle.std.proofs.Common.{◌≡◌, ℕ, ◌^◌, ◌<◌, ◌≤◌, Bool, true, false, cond, List, get_or, Some, None, Option as Maybe, sym, refl, ap, ◌∙◌}
use Rattle.std.specs.Option.{ok_or}
use Rattle.std.proofs.lemmas.Bool.{lt-ltb, le-ltb}
use mathlib.Core.Option.{some, none}
use Rattle.machine.proofs.Basics.{none≢some, some_inj}
use Rattle.suite.specs.Words.{open_data, Answers}
use Rattle.suite.specs.Scheme.{Body, Scheme, right, mix}
use Rattle.board.specs.Meaning.{Meaning}
use Rattle.machine.specs.Layout.{eight_ary}
use Rattle.machine.specs.Words.{row, memory_in, line_in, no_line}
use Rattle.machine.specs.Faults.{fault, Outcome, ok, err, not_data, corrupt}
use Rattle.machine.specs.Plans.{View, Table, counter_of, read_under, read_call}
use Rattle.controller.specs.Views.{view_in, body_in}
use Rattle.controller.specs.declared.types.TreeFault.TheVariants.{Corrupt}
use Rattle.board.specs.declared.types.Line.{Line}

module _ (h : ℕ) (m : Meaning) (S : Scheme) (t : Table) (a : ℕ) where
  abbrev v : View
  v = view_in m t

  pub read_beyond : 8 ^ h ≤ a → err (fault not_data a) ≡ read_call (eight_ary h) S v a
  unfolding read_call
  read_beyond k = sym (ap (λ b. cond b (read_under (eight_ary h) S v a (counter_of (eight_ary h) S v a)) (err (fault not_data a))) (le-ltb a (8 ^ h) k))

  module _ (k : a < 8 ^ h) (z : Outcome ℕ) (c : z ≡ counter_of (eight_ary h) S v a) where
    pub read_within : read_under (eight_ary h) S v a z ≡ read_call (eight_ary h) S v a
    unfolding read_call
    read_within = ap (read_under (eight_ary h) S v a) c ∙ sym (ap (λ b. cond b (read_under (eight_ary h) S v a (counter_of (eight_ary h) S v a)) (err (fault not_data a))) (lt-ltb a (8 ^ h) k))

  module _ (k : a < 8 ^ h) (c : ℕ) (e : ok c ≡ counter_of (eight_ary h) S v a) (l : Line) (g : l ≡ get_or m.lines a no_line) where
    found : (b : Bool) → right S a c (line_in l) ≡ b → cond b (ok (mix (row l.body) (S.pad a c))) (err (fault corrupt a)) ≡ read_call (eight_ary h) S v a
    unfolding memory_in
    found b s = ap (λ x. cond b (ok (mix (row x.body) (S.pad a c))) (err (fault corrupt a))) g ∙ ap (λ d. cond d (ok (mix (memory_in m.lines a).words (S.pad a c))) (err (fault corrupt a))) (sym s ∙ ap (λ x. right S a c (line_in x)) g) ∙ read_within k (ok c) e

    -- The line was opened.
    read_opened : (f : Body) → open_data S a c (line_in l) ≡ some f → ok f ≡ read_call (eight_ary h) S v a
    read_opened f p = go (right S a c (line_in l)) refl p
      where
        go : (b : Bool) → right S a c (line_in l) ≡ b → cond b (some (mix (row l.body) (S.pad a c))) none ≡ some f → ok f ≡ read_call (eight_ary h) S v a
        go true q p = ap ok (sym (some_inj p)) ∙ found true q
        go false q p = absurd (none≢some p)

    -- It was not.
    read_corrupt : open_data S a c (line_in l) ≡ none → err (fault corrupt a) ≡ read_call (eight_ary h) S v a
    read_corrupt p = go (right S a c (line_in l)) refl p
      where
        go : (b : Bool) → right S a c (line_in l) ≡ b → cond b (some (mix (row l.body) (S.pad a c))) none ≡ none → err (fault corrupt a) ≡ read_call (eight_ary h) S v a
        go true q p = absurd (none≢some (sym p))
        go false q p = found false q

    -- Either way.
    pub read_answers : (o : Maybe (List ℕ)) → Answers (open_data S a c (line_in l)) o → body_in (ok_or o (Corrupt a)) ≡ read_call (eight_ary h) S v a
    read_answers (Some ws) z = read_opened (row ws) z
    read_answers None z = read_corrupt z
