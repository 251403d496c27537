-- The test of a register in the order of its parts.
use Rattle.std.proofs.Common.{◌≡◌, ℕ, ◌+◌, ◌-◌, ◌^◌, ◌<◌, ◌≤◌, Bool, true, false, not, ◌&&◌, ◌||◌, eqb, ltb, leb, ◌⊎◌, MatchBool, length, sym, refl, ap, ◌∙◌, inl, inr, arith}
use Rattle.std.specs.List.{AllWithin, HoldsAt, range_with_len}
use Rattle.std.proofs.lemmas.Bool.{le-leb, lt-ltb, le-ltb, cases_lt, lt-leb, eq-eqb, ne_eqb}
use Rattle.std.proofs.lemmas.List.FromFn.{length-range_with_len, get_or-range_with_len}
use Rattle.machine.specs.declared.types.Register.{Register as Fields}
use Rattle.machine.specs.Layout.{eight_ary, lines_of, every, all_within}
use Rattle.machine.specs.History.{journal_in, map_valid, register_valid}
use Rattle.machine.specs.Words.{row, bit}
use Rattle.machine.specs.Encoding.{journal_meant, register_meant}
use Rattle.machine.proofs.Basics.{every_same, every_from, every_fails}

-- What a test of each place from m on answered, where n places are tested.
pub every_past : (m n : ℕ) (p : ℕ → Bool) (r : Bool) → m ≤ n → MatchBool r (AllWithin (λ j. p j ≡ true) (range_with_len m (n - m)) 0 (length (range_with_len m (n - m)))) ((k : ℕ) × (k < length (range_with_len m (n - m))) × HoldsAt (λ j. p j ≡ false) (range_with_len m (n - m)) k) → r ≡ every n (λ j. ltb j m || p j)
every_past m n p true l h = sym (every_from n (λ j. ltb j m || p j) (λ j k. at j k (cases_lt j m)))
  where
    at : (j : ℕ) → j < n → (j < m) ⊎ (m ≤ j) → (ltb j m || p j) ≡ true
    at j k (inl y) = ap (λ b. b || p j) (lt-ltb j m y)
    at j k (inr y) =
        let e : m + (j - m) ≡ j = omega arith in
        let d : j - m < n - m = omega arith in
        ap (λ b. b || p j) (le-ltb j m y) ∙ ap p (sym (get_or-range_with_len m (n - m) (j - m) 0 d ∙ e)) ∙ h (j - m) 0 (omega arith) (omega (arith, length-range_with_len m (n - m)))
every_past m n p false l h =
    let d : h.0 < n - m = omega (arith, h.1, length-range_with_len m (n - m)) in
    let t = h.2 0 in
    sym (every_fails n (λ j. ltb j m || p j) (m + h.0) (omega (arith, d)) (ap (λ b. b || p (m + h.0)) (le-ltb (m + h.0) m (omega arith)) ∙ ap p (sym (get_or-range_with_len m (n - m) h.0 0 d)) ∙ t))

module _ (f : Fields) where
  abbrev roots_part : Bool
  roots_part = all_within (row f.roots)

  abbrev map_part : ℕ → Bool
  map_part n = every 640 (λ j. ltb j n || not (bit f.dirty j))

  abbrev journal_part : Bool
  journal_part = journal_in (eight_ary f.levels) (journal_meant f.journal)

  abbrev valid : Bool → Bool → Bool → Bool → Bool → Bool
  valid a b c d e = a && b && c && d && e

  -- The dirty map's part speaks of the nodes by their number.
  map_is : (n : ℕ) → n + 8 ^ f.levels ≡ lines_of f.levels → map_valid (eight_ary f.levels) (λ p. leb (8 ^ f.levels) p && bit f.dirty (p - 8 ^ f.levels)) ≡ map_part n
  map_is n e = every_same 640 _ _ (λ j _. at j (cases_lt j n))
    where
      N : ℕ
      N = 8 ^ f.levels

      same : (j : ℕ) → (leb N (N + j) && bit f.dirty (N + j - N)) ≡ bit f.dirty j
      same j = ap (λ b. b && bit f.dirty (N + j - N)) (le-leb N (N + j) (omega arith)) ∙ (let z : N + j - N ≡ j = omega arith in ap (bit f.dirty) z)

      at : (j : ℕ) → (j < n) ⊎ (n ≤ j) → (ltb (N + j) (lines_of f.levels) || not (leb N (N + j) && bit f.dirty (N + j - N))) ≡ (ltb j n || not (bit f.dirty j))
      at j (inl k) = ap (λ b. b || not (leb N (N + j) && bit f.dirty (N + j - N))) (lt-ltb (N + j) (lines_of f.levels) (omega (arith, e))) ∙ sym (ap (λ b. b || not (bit f.dirty j)) (lt-ltb j n k))
      at j (inr k) =
          ap (λ b. b || not (leb N (N + j) && bit f.dirty (N + j - N))) (le-ltb (N + j) (lines_of f.levels) (omega (arith, e))) ∙ ap not (same j) ∙ sym (ap (λ b. b || not (bit f.dirty j)) (le-ltb j n k))

  abbrev first_part : Bool
  first_part = eqb f.formatted 1

  abbrev levels_part : Bool
  levels_part = leb 1 f.levels && leb f.levels 4

  abbrev own_map : Bool
  own_map = map_valid (eight_ary f.levels) (λ p. leb (8 ^ f.levels) p && bit f.dirty (p - 8 ^ f.levels))

  abbrev Verdict : Bool → Type 0
  Verdict b = register_valid eight_ary (register_meant f) ≡ b

  in_parts : Verdict (valid first_part levels_part roots_part own_map journal_part)
  unfolding register_valid register_meant all_within
  in_parts = refl

  false_2 : (a c d e : Bool) → valid a false c d e ≡ false
  false_2 true c d e = refl
  false_2 false c d e = refl

  false_3 : (a b d e : Bool) → valid a b false d e ≡ false
  false_3 true true d e = refl
  false_3 true false d e = refl
  false_3 false b d e = refl

  false_4 : (a b c e : Bool) → valid a b c false e ≡ false
  false_4 true true true e = refl
  false_4 true true false e = refl
  false_4 true false c e = refl
  false_4 false b c e = refl

  pub not_formatted : (f.formatted ≡ 1 → ⊥) → Verdict false
  not_formatted h = in_parts ∙ ap (λ a. valid a levels_part roots_part own_map journal_part) (ne_eqb f.formatted 1 h)

  -- Of any number of levels but 1 to 4 there is no board.
  pub no_levels : (1 ≤ f.levels → 4 < f.levels) → Verdict false
  no_levels h = in_parts ∙ ap (λ b. valid first_part b roots_part own_map journal_part) (out (cases_lt f.levels 1)) ∙ false_2 first_part roots_part own_map journal_part
    where
      out : (f.levels < 1) ⊎ (1 ≤ f.levels) → levels_part ≡ false
      out (inl k) = rw (lt-leb 1 f.levels k)
      out (inr k) = rw (le-leb 1 f.levels k, lt-leb f.levels 4 (h k))

  pub bad_roots : roots_part ≡ false → Verdict false
  bad_roots h = in_parts ∙ ap (λ c. valid first_part levels_part c own_map journal_part) h ∙ false_3 first_part levels_part own_map journal_part

  module _ (n : ℕ) (e : n + 8 ^ f.levels ≡ lines_of f.levels) where
    pub bad_map : map_part n ≡ false → Verdict false
    bad_map h = in_parts ∙ ap (λ d. valid first_part levels_part roots_part d journal_part) (map_is n e ∙ h) ∙ false_4 first_part levels_part roots_part journal_part

    -- Where all other parts pass, the journal decides.
    pub the_rest : f.formatted ≡ 1 → 1 ≤ f.levels → f.levels ≤ 4 → roots_part ≡ true → map_part n ≡ true → Verdict journal_part
    the_rest a l h r m = in_parts ∙ rw (eq-eqb f.formatted 1 a, le-leb 1 f.levels l, le-leb f.levels 4 h, r, map_is n e, m)
