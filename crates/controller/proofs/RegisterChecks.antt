-- The checks of bring-up, one by one.
use Rattle.std.proofs.Common.{◌≡◌, ℕ, ◌+◌, ◌-◌, ◌^◌, ◌<◌, ◌≤◌, Bool, true, false, cond, not, ◌&&◌, ◌||◌, eqb, leb, ◌⊎◌, List, length, sym, refl, ap, ◌∙◌, subst, inl, inr, arith}
use mathlib.Core.Bool.{false≢true}
use mathlib.Core.Option.{Option, some, none}
use Rattle.std.proofs.lemmas.Bool.{le-leb, lt-leb, le-ltb, eq-eqb, ne_eqb, and_parts, and_from, and_left, and_right, leb-true, eqb-true}
use Rattle.board.specs.Meaning.{Meaning}
use Rattle.machine.specs.Layout.{eight_ary, lines_of, sum_to}
use Rattle.machine.specs.Store.{Register}
use Rattle.machine.specs.Words.{bit, register_in, state_in}
use Rattle.machine.specs.Faults.{Fault, fault, bad_size, too_few_lines, invalid_register, other_suite, too_many_dirty}
use Rattle.machine.specs.Plans.{map_count}
use Rattle.machine.specs.History.{journal_in, roots_valid, map_valid, register_valid, bring_up_check}
use Rattle.machine.proofs.Basics.{sum_same, sum_zero, every_at, none≢some}
use Rattle.machine.proofs.EightAry.{eight_trees}
use Rattle.tree.specs.DirtyMap.{bits_set}
use Rattle.tree.specs.SlotTable.{map_in}
use Rattle.tree.proofs.Bits.{sum_append}
use Rattle.machine.proofs.EightAry.{lines_near}
use Rattle.controller.specs.BringUps.{Passed}
use Rattle.controller.proofs.RestoreSteps.{sum_skip, map_clear_below, map_bit, levels_in}

not_on : (x y : Bool) → x ≡ false → (x || not y) ≡ true → y ≡ false
not_on x false e h = refl
not_on x true e h = absurd (false≢true (sym (ap (λ b. b || false) e) ∙ h))

-- As many nodes are dirty as bits of the map are set.
module _ (h : ℕ) (g : Register) (ms : List ℕ) (is : g.dirty ≡ map_in h ms) where
  pub counted : 1 ≤ h → h ≤ 4 → map_valid (eight_ary h) g.dirty ≡ true → bits_set ms ≡ map_count (eight_ary h) g
  unfolding bits_set map_count
  counted lo hi e =
      sum_skip 640 (lines_of h - 8 ^ h) (λ j. cond (bit ms j) 1 0) (omega (arith, lines_near h lo hi)) (λ j a b. ap (λ x. cond x 1 0) (clear j a b))
      ∙ sum_same (lines_of h - 8 ^ h) (λ j. cond (bit ms j) 1 0) (λ j. cond (g.dirty (8 ^ h + j)) 1 0) (λ j k. ap (λ x. cond x 1 0) (sym (map_bit h g ms is j)))
      ∙ (let z = sum_zero (8 ^ h) (λ p. cond (g.dirty p) 1 0) (λ p k. ap (λ x. cond x 1 0) (map_clear_below h g ms is p k)) in omega (arith, z, sum_append (8 ^ h) (lines_of h - 8 ^ h) (λ p. cond (g.dirty p) 1 0)))
      ∙ ap (λ n. sum_to n (λ p. cond (g.dirty p) 1 0)) all
    where
      all : 8 ^ h + (lines_of h - 8 ^ h) ≡ lines_of h
      all = omega (arith, (eight_trees h lo hi).data_in)

      clear : (j : ℕ) → lines_of h - 8 ^ h ≤ j → j < 640 → bit ms j ≡ false
      clear j a b = sym (map_bit h g ms is j) ∙ not_on _ (g.dirty (8 ^ h + j)) (le-ltb (8 ^ h + j) (lines_of h) (omega (arith, all))) (every_at 640 _ e j b)

whole_parts : (a b c d e : Bool) → (a && b && c && d && e) ≡ true → (a ≡ true) × (b ≡ true) × (d ≡ true) × (e ≡ true)
whole_parts true true true true true h = (refl, refl, refl, refl)
whole_parts true true true true false h = absurd (false≢true h)
whole_parts true true true false e h = absurd (false≢true h)
whole_parts true true false d e h = absurd (false≢true h)
whole_parts true false c d e h = absurd (false≢true h)
whole_parts false b c d e h = absurd (false≢true h)

-- What is known of a register that is valid.
pub valid_parts : (g : Register) → register_valid eight_ary g ≡ true → (g.formatted ≡ 1) × (1 ≤ g.levels) × (g.levels ≤ 4) × (map_valid (eight_ary g.levels) g.dirty ≡ true) × (journal_in (eight_ary g.levels) g.journal ≡ true)
unfolding register_valid
valid_parts g h =
    let p = whole_parts (eqb g.formatted 1) (leb 1 g.levels && leb g.levels 4) (roots_valid (eight_ary g.levels) g.roots) (map_valid (eight_ary g.levels) g.dirty) (journal_in (eight_ary g.levels) g.journal) h in
    let b = and_parts (leb 1 g.levels) (leb g.levels 4) p.1 in
    (eqb-true g.formatted 1 p.0, leb-true 1 g.levels b.0, leb-true g.levels 4 b.1, p.2, p.3)

abbrev ladder : Bool → Bool → Bool → Bool → Bool → Option Fault
ladder a b c d e =
    cond a (cond b (cond c (cond d (cond e none (some (fault too_many_dirty 0))) (some (fault other_suite 0))) (some (fault too_few_lines 0))) (some (fault invalid_register 0))) (some (fault bad_size 0))

rung : (a b c d e a' b' c' d' e' : Bool) → a ≡ a' → b ≡ b' → c ≡ c' → d ≡ d' → e ≡ e' → ladder a b c d e ≡ ladder a' b' c' d' e'
rung a b c d e a' b' c' d' e' p q r s t = λ i. ladder (p i) (q i) (r i) (s i) (t i)

ladder_none : (a b c d e : Bool) → ladder a b c d e ≡ none → (b ≡ true) × (d ≡ true)
ladder_none true true true true e h = (refl, refl)
ladder_none true true true false e h = absurd (none≢some (sym h))
ladder_none true true false d e h = absurd (none≢some (sym h))
ladder_none true false c d e h = absurd (none≢some (sym h))
ladder_none false b c d e h = absurd (none≢some (sym h))

module _ (num cap : ℕ) (m : Meaning) where
  abbrev R : Register
  R = register_in m.register

  abbrev asked : Option Fault
  asked = bring_up_check eight_ary cap num (state_in m)

  abbrev A : Bool
  A = leb 1 cap && leb cap 64

  abbrev B : Bool
  B = register_valid eight_ary R

  abbrev C : Bool
  C = leb (lines_of R.levels) (length m.lines)

  abbrev D : Bool
  D = eqb num R.suite

  abbrev E : Bool
  E = leb (map_count (eight_ary R.levels) R) cap

  is : asked ≡ ladder A B C D E
  unfolding bring_up_check
  is = refl

  -- A board that passed is formatted, and its register has the number.
  pub passed_number : asked ≡ none → (R.formatted ≡ 1) × (num ≡ R.suite)
  passed_number e = let p = ladder_none A B C D E (sym is ∙ e) in ((valid_parts R p.0).0, eqb-true num R.suite p.1)

  pub refuse_slots : (cap < 1) ⊎ (64 < cap) → asked ≡ some (fault bad_size 0)
  refuse_slots h = is ∙ rung A B C D E false B C D E (go h) refl refl refl refl
    where
      go : (cap < 1) ⊎ (64 < cap) → A ≡ false
      go (inl x) = and_left _ _ (lt-leb 1 cap x)
      go (inr x) = and_right _ _ (lt-leb cap 64 x)

  module _ (lo : 1 ≤ cap) (hi : cap ≤ 64) where
    a : A ≡ true
    a = and_from _ _ (le-leb 1 cap lo) (le-leb cap 64 hi)

    pub refuse_invalid : B ≡ false → asked ≡ some (fault invalid_register 0)
    refuse_invalid b = is ∙ rung A B C D E true false C D E a b refl refl refl

    module _ (b : register_valid eight_ary (register_in m.register) ≡ true) (h : ℕ) (own : h ≡ (register_in m.register).levels) where
      pub refuse_short : length m.lines < lines_of h → asked ≡ some (fault too_few_lines 0)
      refuse_short c = is ∙ rung A B C D E true true false D E a b (lt-leb _ _ (subst (λ n. length m.lines < lines_of n) own c)) refl refl

      module _ (c : lines_of h ≤ length m.lines) where
        c' : C ≡ true
        c' = le-leb _ _ (subst (λ n. lines_of n ≤ length m.lines) own c)

        pub refuse_suite : (num ≡ (register_in m.register).suite → ⊥) → asked ≡ some (fault other_suite 0)
        refuse_suite d = is ∙ rung A B C D E true true true false E a b c' (ne_eqb _ _ d) refl

        module _ (d : num ≡ (register_in m.register).suite) (ms : List ℕ) (map : (register_in m.register).dirty ≡ map_in h ms) where
          parts : (R.formatted ≡ 1) × (1 ≤ h) × (h ≤ 4) × (map_valid (eight_ary h) R.dirty ≡ true) × (journal_in (eight_ary h) R.journal ≡ true)
          parts = subst (λ n. (R.formatted ≡ 1) × (1 ≤ n) × (n ≤ 4) × (map_valid (eight_ary n) R.dirty ≡ true) × (journal_in (eight_ary n) R.journal ≡ true)) (sym own) (valid_parts R b)

          same : bits_set ms ≡ map_count (eight_ary h) R
          same = counted h R ms map parts.1 parts.2 parts.3

          e' : (x : Bool) → leb (map_count (eight_ary h) R) cap ≡ x → E ≡ x
          e' x f = subst (λ n. leb (map_count (eight_ary n) R) cap ≡ x) own f

          pub refuse_many : cap < bits_set ms → asked ≡ some (fault too_many_dirty 0)
          refuse_many e = is ∙ rung A B C D E true true true true false a b c' (eq-eqb _ _ d) (e' false (lt-leb _ _ (subst (λ n. cap < n) same e)))

          pub pass : bits_set ms ≤ cap → (asked ≡ none) × Passed h cap m
          pass e =
              let few : map_count (eight_ary h) R ≤ cap = subst (λ n. n ≤ cap) same e in (
                is ∙ rung A B C D E true true true true true a b c' (eq-eqb _ _ d) (e' true (le-leb _ _ few)),
                record {
                  some_slots = lo;
                  few_slots = hi;
                  fits = record { low = parts.1; high = parts.2; enough = c; own = own ∙ levels_in m.register };
                  few_dirty = few;
                  journal = parts.4;
                },
              )
