-- Two writes in a row, cut by power anywhere.
use Rattle.std.proofs.Common.{◌≡◌, ℕ, ◌+◌, ◌<◌, cond, eqb, ◌⊎◌, List, [], ◌∷◌, length, get_or, set, Ok, Err, sym, refl, ap, ◌∙◌, subst, inl, inr, arith}
use mathlib.Core.Path.{fun_ext}
use mathlib.Core.Option.{some, none}
use Rattle.std.proofs.lemmas.Bool.{eq-eqb, ne_eqb, cases_eq}
use Rattle.std.proofs.lemmas.List.{get_or-set_same, get_or-set_other, length-set}
use Rattle.suite.specs.Scheme.{Line as SameCommit}
use Rattle.board.specs.Meaning.{Meaning, Spent, Power, endless, writes}
use Rattle.board.specs.Calls.{RegisterWritten, LineWritten}
use Rattle.machine.specs.Layout.{update}
use Rattle.machine.specs.Store.{Register, Log, write_register, write_line, Cut, after_writes, place_of, commits_in}
use Rattle.machine.specs.Words.{memory_in, register_in, line_in, no_line, state_in}
use Rattle.machine.specs.Faults.{fault, power_lost}
use Rattle.machine.specs.Plans.{Table, Run}
use Rattle.controller.specs.Runs.{Went}
use Rattle.machine.proofs.Basics.{none≢some}
use Rattle.board.specs.declared.types.Line.{Line}
use Rattle.board.specs.declared.types.BoardFault.TheVariants.{PowerLost}

pub mem_set : (ls : List Line) (a : ℕ) (l : Line) → a < length ls → memory_in (set ls a l) ≡ update (memory_in ls) a (line_in l)
unfolding memory_in
mem_set ls a l h = fun_ext (λ k. go k (cases_eq k a))
  where
    go : (k : ℕ) → (k ≡ a) ⊎ (k ≡ a → ⊥) → line_in (get_or (set ls a l) k no_line) ≡ cond (eqb k a) (line_in l) (line_in (get_or ls k no_line))
    go k (inl e) = rw (eq-eqb k a e) (ap (λ j. line_in (get_or (set ls a l) j no_line)) e ∙ ap line_in (get_or-set_same ls a l no_line h))
    go k (inr e) = rw (ne_eqb k a e) (ap line_in (get_or-set_other ls a k l no_line e))

cut_none : (p : Power) → p ≡ writes 0 → Cut p 2 0 p
cut_none p e = subst (λ (x : Power). Cut x 2 0 x) (sym e) (omega arith, omega arith, (λ _. refl), λ _. refl)

cut_one : (p q : Power) → Spent p q → q ≡ writes 0 → Cut p 2 1 q
cut_one endless endless s e = absurd (apart e)
  where
    code : Power → Type 0
    code endless = Unit {0}
    code (writes n) = ⊥

    apart : endless ≡ writes 0 → ⊥
    apart x = subst code x tt
cut_one endless (writes q) s e = absurd (apart (sym s))
  where
    code : Power → Type 0
    code endless = Unit {0}
    code (writes n) = ⊥

    apart : endless ≡ writes q → ⊥
    apart x = subst code x tt
cut_one (writes p) endless s e = absurd s
cut_one (writes p) (writes q) s e = let z : q ≡ 0 = ap num e in (omega arith, omega arith, (λ _. z), λ x. absurd (omega arith))
  where
    num : Power → ℕ
    num endless = 0
    num (writes n) = n

cut_two : (p q r : Power) → Spent p q → Spent q r → Cut p 2 2 r
cut_two endless q r s u = go q r s u
  where
    code : Power → Type 0
    code endless = Unit {0}
    code (writes n) = ⊥

    go : (q r : Power) → q ≡ endless → Spent q r → Cut (endless) 2 2 r
    go endless endless s u = refl
    go endless (writes n) s u = absurd (subst code (sym u) tt)
    go (writes k) r s u = absurd (subst code (sym s) tt)
cut_two (writes p) endless r s u = absurd s
cut_two (writes p) (writes q) endless s u = absurd u
cut_two (writes p) (writes q) (writes r) s u = (omega arith, omega arith, (λ x. absurd (omega arith)), λ x. absurd (omega arith))

module _ (m : Meaning) (a : ℕ) (es : Log) (ws : List ℕ) (R : Register) (l : Line) (L : SameCommit) (t : Table) (p : register_in ws ≡ R) (q : line_in l ≡ L) where
  abbrev pub two : Run
  two = record { planned = write_register a es R ∷ write_line a L ∷ []; view = record { memory = update (memory_in m.lines) a L; register = R; table = t }; ends = none }

  pub two_lost : (m' : Meaning) (t' : Table) → RegisterWritten m ws (Err PowerLost) m' → (n : ℕ) → Went two m (some (fault power_lost a)) m' t' n n
  unfolding after_writes place_of commits_in
  two_lost m' t' r n =
      record {
        done = 0;
        cut = subst (λ (x : Meaning). Cut m.power 2 0 x.power) (sym r.1) (cut_none m.power r.0);
        left_is = ap state_in r.1 ∙ ap (λ (x : Meaning). record { memory = memory_in m.lines; size = length m.lines; register = register_in m.register; power = x.power }) (sym r.1);
        says = refl;
        whole = λ e. absurd (omega arith);
        counted = omega arith;
        still = λ _. ap (λ (x : Meaning). x.register) r.1;
        lost = λ x f g. omega arith;
      }

  pub two_half : (m₁ m' : Meaning) (t' : Table) → RegisterWritten m ws (Ok tt) m₁ → LineWritten m₁ a l (Err PowerLost) m' → (n : ℕ) → Went two m (some (fault power_lost a)) m' t' n (n + 1)
  unfolding after_writes place_of commits_in
  two_half m₁ m' t' r s n =
      record {
        done = 1;
        cut = subst (λ (x : Meaning). Cut m.power 2 1 x.power) (sym s.2) (cut_one m.power m₁.power r.2 s.1);
        left_is = ap state_in s.2 ∙ (λ i. record { memory = memory_in (r.0 i); size = length (r.0 i); register = (ap register_in r.1 ∙ p) i; power = (sym s.2 i).power });
        says = refl;
        whole = λ e. absurd (omega arith);
        counted = omega arith;
        still = λ e. absurd (omega arith);
        lost = λ x f g. omega arith;
      }

  pub two_done : (m₁ m' : Meaning) → RegisterWritten m ws (Ok tt) m₁ → LineWritten m₁ a l (Ok tt) m' → (n : ℕ) → Went two m none m' t n (n + 1)
  unfolding after_writes place_of commits_in
  two_done m₁ m' r s n =
      let memory : memory_in m'.lines ≡ update (memory_in m.lines) a L = ap memory_in s.1 ∙ mem_set m₁.lines a l s.0 ∙ (λ i. update (memory_in (r.0 i)) a (q i)) in
      let register : register_in m'.register ≡ R = ap register_in (s.2 ∙ r.1) ∙ p in
      let size : length m'.lines ≡ length m.lines = ap length s.1 ∙ length-set m₁.lines a l ∙ ap length r.0 in
      record {
        done = 2;
        cut = cut_two m.power m₁.power m'.power r.2 s.3;
        left_is = λ i. record { memory = memory i; size = size i; register = register i; power = m'.power };
        says = refl;
        whole = λ e i. record { memory = memory i; register = register i; table = t };
        counted = refl;
        still = λ e. absurd (omega arith);
        lost = λ x f g. absurd (none≢some f);
      }
