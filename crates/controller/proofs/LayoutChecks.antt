-- The check before the steps of a call, as the code makes it.
use Rattle.machine.specs.declared.types.Register.{Register as Fields}
use Rattle.machine.specs.Store.{Register}
use Rattle.machine.specs.Encoding.{register_meant}
use Rattle.std.proofs.Common.{List, ◌≡◌, ℕ, ◌<◌, ◌≤◌, Bool, true, false, cond, ◌&&◌, ◌||◌, eqb, leb, ◌⊎◌, length, None, Err, Option as Maybe, Result, ok_or, sym, refl, ap, ◌∙◌, subst, inl, inr, arith}
use mathlib.Core.Option.{Option, some, none}
use Rattle.std.proofs.lemmas.Bool.{le-leb, lt-leb, ne_eqb, cases_lt}
use Rattle.board.specs.Meaning.{Meaning}
use Rattle.machine.specs.Layout.{lines_of}
use Rattle.machine.specs.Words.{register_in, row}
use Rattle.machine.specs.Faults.{Fault, fault, too_few_lines, invalid_register}
use Rattle.machine.specs.declared.layout.Layout.{Layout}
use Rattle.controller.specs.Views.{Fits}
use Rattle.controller.specs.Worlds.{call_check}
use Rattle.controller.proofs.Keeping.{check_ok}

-- The fault of a layout that was not made.
pub no_layout : {E : Type 0} (o : Maybe Layout) (e f : E) → o ≡ None → Err f ≡ ok_or o e → f ≡ e
no_layout {E = E} o e f q p = let r : ◌≡◌ {A = Result Layout E} (Err f) (Err e) = p ∙ ap (λ (o : Maybe Layout). ok_or o e) q in cc

-- The levels that a register's words say, by its fields.
pub levels_word : (r : Fields) (ws : List ℕ) → register_meant r ≡ register_in ws → r.levels ≡ row ws 1
unfolding register_meant register_in
levels_word r ws e = ap (λ (g : Register). g.levels) e

module _ (m : Meaning) (lv n : ℕ) where
  abbrev w : ℕ
  w = row m.register 1

  -- What follows once the levels are right.
  abbrev inner : Option Fault
  inner = cond (leb (lines_of w) (length m.lines)) (cond (eqb n 0 || eqb w lv) none (some (fault invalid_register 0))) (some (fault too_few_lines 0))

  -- No levels from 1 to 4.
  pub check_levels : (1 ≤ row m.register 1 → 4 < row m.register 1) → call_check m lv n ≡ some (fault invalid_register 0)
  unfolding call_check
  check_levels f = go (cases_lt 0 w)
    where
      and : (b : Bool) → cond (b && false) inner (some (fault invalid_register 0)) ≡ some (fault invalid_register 0)
      and true = refl
      and false = refl

      go : (0 < w) ⊎ (w ≤ 0) → cond (leb 1 w && leb w 4) inner (some (fault invalid_register 0)) ≡ some (fault invalid_register 0)
      go (inl k) = ap (λ b. cond (leb 1 w && b) inner (some (fault invalid_register 0))) (lt-leb w 4 (f (omega arith))) ∙ and (leb 1 w)
      go (inr k) = ap (λ b. cond (b && leb w 4) inner (some (fault invalid_register 0))) (lt-leb 1 w (omega arith))

  module _ (l : Layout) (e : l.levels ≡ row m.register 1) where
    low : 1 ≤ w
    low = subst (λ x. 1 ≤ x) e l.low

    high : w ≤ 4
    high = subst (λ x. x ≤ 4) e l.high

    inside : call_check m lv n ≡ inner
    unfolding call_check
    inside = λ i. cond (le-leb 1 w low i && le-leb w 4 high i) inner (some (fault invalid_register 0))

    -- Too few lines.
    pub check_few : length m.lines < lines_of l.levels → call_check m lv n ≡ some (fault too_few_lines 0)
    check_few k = inside ∙ ap (λ b. cond b (cond (eqb n 0 || eqb w lv) none (some (fault invalid_register 0))) (some (fault too_few_lines 0))) (lt-leb (lines_of w) (length m.lines) (subst (λ x. length m.lines < lines_of x) e k))

    module _ (k : lines_of l.levels ≤ length m.lines) where
      enough : lines_of w ≤ length m.lines
      enough = subst (λ x. lines_of x ≤ length m.lines) e k

      -- Slots in use of other levels.
      pub check_other : (n ≡ 0 → ⊥) → (l.levels ≡ lv → ⊥) → call_check m lv n ≡ some (fault invalid_register 0)
      check_other a b =
          inside
          ∙ (λ i. cond (le-leb (lines_of w) (length m.lines) enough i) (cond (ne_eqb n 0 a i || ne_eqb w lv (λ x. b (e ∙ x)) i) none (some (fault invalid_register 0))) (some (fault too_few_lines 0)))

      -- The layout is found.
      pub check_found : (0 < n → l.levels ≡ lv) → (call_check m lv n ≡ none) × Fits l.levels m × (0 < n → l.levels ≡ lv)
      check_found f = (check_ok m lv n low high enough (λ x. sym e ∙ f x), record { low = l.low; high = l.high; enough = k; own = e }, f)
