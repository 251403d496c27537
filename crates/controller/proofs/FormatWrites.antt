-- Formatting a board, write by write.
use Rattle.std.proofs.Common.{◌≡◌, ℕ, zero, suc, ◌+◌, ◌-◌, ◌/◌, ◌%◌, ◌^◌, ◌<◌, ◌≤◌, Bool, true, false, cond, ◌&&◌, eqb, ltb, leb, ◌⊎◌, List, [], ◌∷◌, ◌++◌, length, get_or, drop, replicate, Ok, Err, Result, sym, refl, ap, ◌∙◌, subst, inl, inr, arith}
use mathlib.Core.Path.{fun_ext}
use mathlib.Core.Option.{Option, some, none}
use Rattle.std.proofs.lemmas.Bool.{lt-ltb, le-ltb, le-leb, lt-leb, eq-eqb, ne_eqb, cases_lt, cases_eq}
use native.Mathlib.Nat.{zero-div}
use Rattle.std.proofs.lemmas.List.{length-append, length-set}
use Rattle.suite.specs.Scheme.{Body, Scheme, Line as SameCommit}
use Rattle.board.specs.Meaning.{Meaning, Spent, Power as Power, endless as endless, writes}
use Rattle.board.specs.Calls.{RegisterWritten, LineWritten}
use Rattle.machine.specs.Layout.{eight_ary, lines_of, update}
use Rattle.machine.specs.Store.{BoardState, Register, Log, line_at, Write, write_register, write_line, Cut, after_writes, place_of, log_after}
use Rattle.machine.specs.Words.{row, bit, line_in, memory_in, register_in, state_in}
use Rattle.machine.specs.Faults.{Fault as Why, fault, bad_size, too_few_lines, already_formatted, power_lost}
use Rattle.machine.specs.Plans.{blank_lines, blank_log, new_register, format_writes}
use Rattle.machine.specs.History.{cold, after, power_lost_at, ending, done, refused, format_check}
use Rattle.controller.specs.Views.{tree_fault, controller_says, with_line}
use Rattle.controller.specs.Runs.{Wrote, ended}
use Rattle.controller.specs.Registers.{new_words}
use Rattle.controller.specs.Worlds.{report_by, Formats, FormatsAs, RegisterMade}
use Rattle.machine.proofs.Basics.{none≢some}
use Rattle.machine.proofs.Cuts.{after_writes_front, after_writes_back, cut_le}
use Rattle.controller.proofs.Chains.{place_front, place_back, after_writes_alike, cut_join, cut_stop}
use Rattle.controller.proofs.TwoWrites.{mem_set}
use Rattle.controller.proofs.CommitWrites.{Err_inj, Ok≢Err}
use Rattle.board.specs.declared.types.Line.{Line}
use Rattle.board.specs.declared.types.BoardFault.{BoardFault}
use Rattle.board.specs.declared.types.BoardFault.TheVariants.{Absent, PowerLost}
use Rattle.controller.specs.declared.types.LineFault.{LineFault}
use Rattle.controller.specs.declared.types.TreeFault.{TreeFault}
use Rattle.controller.specs.declared.types.TreeFault.TheVariants.{Board as OfBoard}
use Rattle.controller.specs.declared.types.Fault.{Fault}

module _ (ws ws₁ : List Write) (m m₁ : Meaning) where
  long : length (ws ++ ws₁) ≡ length ws + length ws₁
  long = length-append ws ws₁

  all_done : (k : ℕ) → k ≤ length ws → none ≡ cond (ltb k (length ws)) (some (power_lost_at k ws)) none → k ≡ length ws
  all_done k h e = go (cases_lt k (length ws))
    where
      go : (k < length ws) ⊎ (length ws ≤ k) → k ≡ length ws
      go (inl x) = absurd (none≢some (e ∙ ap (λ b. cond b (some (power_lost_at k ws)) none) (lt-ltb k (length ws) x)))
      go (inr x) = omega arith

  pub wrote_then : (m₂ : Meaning) (o : Option Why) → Wrote ws m none m₁ → Wrote ws₁ m₁ o m₂ → Wrote (ws ++ ws₁) m o m₂
  wrote_then m₂ o x y =
      record {
        done = length ws + y.done;
        cut = subst (λ n. Cut m.power n (length ws + y.done) m₂.power) (sym long) (cut_join m.power m₁.power m₂.power (length ws) y.done (length ws₁) (subst (λ k. Cut m.power (length ws) k m₁.power) full x.cut) y.cut);
        left_is = y.left_is ∙ (λ i. record { memory = (alike.0 ∙ ap (λ (b : BoardState). b.memory) (sym back)) i; size = (first i).size; register = (alike.1 ∙ ap (λ (b : BoardState). b.register) (sym back)) i; power = m₂.power });
        says = y.says ∙ ends (cases_lt y.done (length ws₁));
      }
    where
      full : x.done ≡ length ws
      full = all_done x.done (cut_le m.power m₁.power (length ws) x.done x.cut) x.says

      first : state_in m₁ ≡ after (state_in m) (length ws) ws m₁.power
      first = x.left_is ∙ ap (λ k. after (state_in m) k ws m₁.power) full

      alike : ((after_writes y.done ws₁ (state_in m₁)).memory ≡ (after_writes y.done ws₁ (after_writes (length ws) ws (state_in m))).memory) × ((after_writes y.done ws₁ (state_in m₁)).register ≡ (after_writes y.done ws₁ (after_writes (length ws) ws (state_in m))).register)
      alike = after_writes_alike y.done ws₁ (state_in m₁) (after_writes (length ws) ws (state_in m)) (ap (λ (b : BoardState). b.memory) first) (ap (λ (b : BoardState). b.register) first)

      back : after_writes (length ws + y.done) (ws ++ ws₁) (state_in m) ≡ after_writes y.done ws₁ (after_writes (length ws) ws (state_in m))
      back = after_writes_back ws ws₁ y.done (state_in m)

      ends : (y.done < length ws₁) ⊎ (length ws₁ ≤ y.done) → cond (ltb y.done (length ws₁)) (some (power_lost_at y.done ws₁)) none ≡ cond (ltb (length ws + y.done) (length (ws ++ ws₁))) (some (power_lost_at (length ws + y.done) (ws ++ ws₁))) none
      ends (inl h) =
          ap (λ b. cond b (some (power_lost_at y.done ws₁)) none) (lt-ltb _ _ h)
          ∙ sym (ap (λ b. cond b (some (power_lost_at (length ws + y.done) (ws ++ ws₁))) none) (lt-ltb (length ws + y.done) (length (ws ++ ws₁)) (omega (arith, long))) ∙ ap (λ a. some (fault power_lost a)) (place_back ws ws₁ y.done))
      ends (inr h) =
          ap (λ b. cond b (some (power_lost_at y.done ws₁)) none) (le-ltb _ _ h)
          ∙ sym (ap (λ b. cond b (some (power_lost_at (length ws + y.done) (ws ++ ws₁))) none) (le-ltb (length ws + y.done) (length (ws ++ ws₁)) (omega (arith, long))))

  pub wrote_stop : (x : Why) → Wrote ws m (some x) m₁ → Wrote (ws ++ ws₁) m (some x) m₁
  wrote_stop x y = at (cases_lt y.done (length ws))
    where
      at : (y.done < length ws) ⊎ (length ws ≤ y.done) → Wrote (ws ++ ws₁) m (some x) m₁
      at (inr h) = absurd (none≢some (sym (y.says ∙ ap (λ b. cond b (some (power_lost_at y.done ws)) none) (le-ltb y.done (length ws) h))))
      at (inl h) =
          record {
            done = y.done;
            cut = subst (λ n. Cut m.power n y.done m₁.power) (sym long) (cut_stop m.power m₁.power (length ws) y.done (length ws₁) h y.cut);
            left_is = y.left_is ∙ ap (λ (b : BoardState). record { memory = b.memory; size = (state_in m).size; register = b.register; power = m₁.power }) (sym (after_writes_front ws ws₁ y.done (state_in m) (omega arith)));
            says = y.says ∙ ap (λ b. cond b (some (power_lost_at y.done ws)) none) (lt-ltb y.done (length ws) h)
                ∙ sym (ap (λ b. cond b (some (power_lost_at y.done (ws ++ ws₁))) none) (lt-ltb y.done (length (ws ++ ws₁)) (omega (arith, long))) ∙ ap (λ a. some (fault power_lost a)) (place_front ws ws₁ y.done h));
          }

pub wrote_none : (m : Meaning) → Wrote [] m none m
unfolding after_writes
wrote_none m = record { done = 0; cut = still m.power; left_is = refl; says = refl }
  where
    still : (p : Power) → Cut p 0 0 p
    still endless = refl
    still (writes n) = (omega arith, omega arith, (λ h. absurd (omega arith)), λ _. refl)

-- One write.
cut_zero : (p : Power) → p ≡ writes 0 → Cut p 1 0 p
cut_zero p e = subst (λ (x : Power). Cut x 1 0 x) (sym e) (omega arith, omega arith, (λ _. refl), λ _. refl)

cut_one : (p q : Power) → Spent p q → Cut p 1 1 q
cut_one endless q s = subst (λ (x : Power). Cut (endless) 1 1 x) (sym s) refl
cut_one (writes p) endless s = absurd s
cut_one (writes p) (writes q) s = (omega arith, omega arith, (λ x. absurd (omega arith)), λ x. absurd (omega arith))

module _ (m : Meaning) (a : ℕ) (l : Line) (L : SameCommit) (q : line_in l ≡ L) (m' : Meaning) where
  pub line_lost : a < length m.lines → (r : Result (Unit {0}) BoardFault) (f : LineFault) → LineWritten m a l r m' → Err f ≡ with_line r a → Wrote (write_line a L ∷ []) m (some (tree_fault (OfBoard f))) m'
  unfolding after_writes place_of
  line_lost k (Ok u) f y e = absurd (Ok≢Err (sym e))
  line_lost k (Err Absent) f y e = absurd (omega (arith, y.0))
  line_lost k (Err PowerLost) f y e =
      subst (λ (x : LineFault). Wrote (write_line a L ∷ []) m (some (tree_fault (OfBoard x))) m') (sym (Err_inj e))
      (record {
        done = 0;
        cut = subst (λ (x : Meaning). Cut m.power 1 0 x.power) (sym y.2) (cut_zero m.power y.1);
        left_is = ap state_in y.2 ∙ ap (λ (x : Meaning). record { memory = memory_in m.lines; size = length m.lines; register = register_in m.register; power = x.power }) (sym y.2);
        says = refl;
      })

  pub line_done : (r : Result (Unit {0}) BoardFault) → LineWritten m a l r m' → Ok tt ≡ with_line r a → Wrote (write_line a L ∷ []) m none m' × (length m'.lines ≡ length m.lines)
  unfolding after_writes
  line_done (Err f) y e = absurd (Ok≢Err e)
  line_done (Ok u) y e =
      let memory : memory_in m'.lines ≡ update (memory_in m.lines) a L = ap memory_in y.1 ∙ mem_set m.lines a l y.0 ∙ ap (update (memory_in m.lines) a) q in
      let size : length m'.lines ≡ length m.lines = ap length y.1 ∙ length-set m.lines a l in (
        record {
          done = 1;
          cut = cut_one m.power m'.power y.3;
          left_is = λ i. record { memory = memory i; size = size i; register = register_in (y.2 i); power = m'.power };
          says = refl;
        },
        size,
      )

module _ (m : Meaning) (es : Log) (ws : List ℕ) (R : Register) (q : register_in ws ≡ R) (m' : Meaning) where
  pub register_lost : (r : Result (Unit {0}) BoardFault) (f : LineFault) → RegisterWritten m ws r m' → Err f ≡ with_line r 0 → Wrote (write_register 0 es R ∷ []) m (some (tree_fault (OfBoard f))) m'
  unfolding after_writes place_of
  register_lost (Ok u) f y e = absurd (Ok≢Err (sym e))
  register_lost (Err Absent) f y e = absurd y
  register_lost (Err PowerLost) f y e =
      subst (λ (x : LineFault). Wrote (write_register 0 es R ∷ []) m (some (tree_fault (OfBoard x))) m') (sym (Err_inj e))
      (record {
        done = 0;
        cut = subst (λ (x : Meaning). Cut m.power 1 0 x.power) (sym y.1) (cut_zero m.power y.0);
        left_is = ap state_in y.1 ∙ ap (λ (x : Meaning). record { memory = memory_in m.lines; size = length m.lines; register = register_in m.register; power = x.power }) (sym y.1);
        says = refl;
      })

  pub register_done : (r : Result (Unit {0}) BoardFault) → RegisterWritten m ws r m' → Ok tt ≡ with_line r 0 → Wrote (write_register 0 es R ∷ []) m none m'
  unfolding after_writes
  register_done (Err f) y e = absurd (Ok≢Err e)
  register_done (Ok u) y e =
      record {
        done = 1;
        cut = cut_one m.power m'.power y.2;
        left_is = λ i. record { memory = memory_in (y.0 i); size = length (y.0 i); register = (ap register_in y.1 ∙ q) i; power = m'.power };
        says = refl;
      }

module _ (h : ℕ) (S : Scheme) where
  abbrev zero_line : ℕ → SameCommit
  zero_line i = line_at (eight_ary h) S i 0 (λ k. 0)

  pub blank_none : (m : Meaning) → Wrote (blank_lines (eight_ary h) S 0) m none m
  unfolding blank_lines
  blank_none m = wrote_none m

  pub blank_more : (i : ℕ) (m m₁ m₂ : Meaning) (o : Option Why) → Wrote (blank_lines (eight_ary h) S i) m none m₁ → Wrote (write_line i (zero_line i) ∷ []) m₁ o m₂ → Wrote (blank_lines (eight_ary h) S (i + 1)) m o m₂
  unfolding blank_lines
  blank_more i m m₁ m₂ o x y =
      let plus : suc i ≡ i + 1 = omega arith in
      subst (λ k. Wrote (blank_lines (eight_ary h) S k) m o m₂) plus (wrote_then (blank_lines (eight_ary h) S i) (write_line i (zero_line i) ∷ []) m m₁ m₂ o x y)

  pub blank_stop : (n i : ℕ) (m m₁ : Meaning) (x : Why) → i ≤ n → Wrote (blank_lines (eight_ary h) S i) m (some x) m₁ → Wrote (blank_lines (eight_ary h) S n) m (some x) m₁
  unfolding blank_lines
  blank_stop zero i m m₁ x k y = let e : i ≡ 0 = omega arith in subst (λ j. Wrote (blank_lines (eight_ary h) S j) m (some x) m₁) e y
  blank_stop (suc n) i m m₁ x k y = go (cases_eq i (suc n)) (λ j. blank_stop n i m m₁ x j y)
    where
      go : (i ≡ suc n) ⊎ (i ≡ suc n → ⊥) → (i ≤ n → Wrote (blank_lines (eight_ary h) S n) m (some x) m₁) → Wrote (blank_lines (eight_ary h) S n ++ (write_line n (zero_line n) ∷ [])) m (some x) m₁
      go (inl e) ih = subst (λ j. Wrote (blank_lines (eight_ary h) S j) m (some x) m₁) e y
      go (inr e) ih = wrote_stop (blank_lines (eight_ary h) S n) (write_line n (zero_line n) ∷ []) m m₁ x (ih (omega (arith, e)))

  pub format_then : (m m₁ m₂ : Meaning) (o : Option Why) → Wrote (blank_lines (eight_ary h) S (lines_of h)) m none m₁ → Wrote (write_register 0 (blank_log (lines_of h)) (new_register S h) ∷ []) m₁ o m₂ → Wrote (format_writes (eight_ary h) S h) m o m₂
  unfolding format_writes
  format_then m m₁ m₂ o x y = wrote_then (blank_lines (eight_ary h) S (lines_of h)) _ m m₁ m₂ o x y

  pub format_stop : (m m₁ : Meaning) (x : Why) → Wrote (blank_lines (eight_ary h) S (lines_of h)) m (some x) m₁ → Wrote (format_writes (eight_ary h) S h) m (some x) m₁
  unfolding format_writes
  format_stop m m₁ x y = wrote_stop (blank_lines (eight_ary h) S (lines_of h)) _ m m₁ x y

-- Words that are all zero.
abbrev none_at : ℕ → ℕ → ℕ
none_at n i = get_or (replicate n 0) i 0

pub no_words : (n i : ℕ) → none_at n i ≡ 0
no_words zero i = refl
no_words (suc n) zero = refl
no_words (suc n) (suc i) = no_words n i

abbrev nought : Body
nought i = 0

pub row_zeros : nought ≡ row (replicate 8 0)
row_zeros = fun_ext (λ i. sym (no_words 8 i))

pub register_new : (h : ℕ) (S : Scheme) (ws : List ℕ) → ws ≡ new_words h S.number → register_in ws ≡ new_register S h
unfolding register_in
register_new h S ws e = ap register_in e ∙ (λ i. record { formatted = 1; levels = h; suite = S.number; roots = sym row_zeros i; dirty_sum = 0; journal = none; dirty = fun_ext off i })
  where
    bit_off : (p : ℕ) → bit (drop 22 (new_words h S.number)) p ≡ false
    bit_off p = ap (λ x. eqb (x / 2 ^ (p % 64) % 2) 1) (no_words 10 (p / 64)) ∙ tail (2 ^ (p % 64))
      where
        tail : (y : ℕ) → eqb (0 / y % 2) 1 ≡ false
        tail y = ap (λ x. eqb (x % 2) 1) (zero-div y)

    off : (p : ℕ) → (leb (8 ^ h) p && bit (drop 22 (new_words h S.number)) (p - 8 ^ h)) ≡ false
    off p = ap (λ b. leb (8 ^ h) p && b) (bit_off (p - 8 ^ h)) ∙ both (leb (8 ^ h) p)
      where
        both : (b : Bool) → (b && false) ≡ false
        both true = refl
        both false = refl

-- Formatting as an event.
module _ (S : Scheme) (m : Meaning) (h : ℕ) where
  pub format_refused : (x : Why) → format_check eight_ary h (state_in m) ≡ some x → Formats S h m (refused x 0) m
  format_refused x e = subst (λ (o : Option Why). FormatsAs S h o m (refused x 0) m) (sym e) (refl, refl)

  either : (h < 1) ⊎ (4 < h) → format_check eight_ary h (state_in m) ≡ some (fault bad_size 0)
  unfolding format_check
  either (inl k) = ap (λ b. cond (b && leb h 4) (cond (leb (lines_of h) (length m.lines)) (cond (eqb (state_in m).register.formatted 0) none (some (fault already_formatted 0))) (some (fault too_few_lines 0))) (some (fault bad_size 0))) (lt-leb 1 h k)
  either (inr k) = ap (λ b. cond (leb 1 h && b) (cond (leb (lines_of h) (length m.lines)) (cond (eqb (state_in m).register.formatted 0) none (some (fault already_formatted 0))) (some (fault too_few_lines 0))) (some (fault bad_size 0))) (lt-leb h 4 k) ∙ both (leb 1 h)
    where
      both : (b : Bool) → cond (b && false) (cond (leb (lines_of h) (length m.lines)) (cond (eqb (state_in m).register.formatted 0) none (some (fault already_formatted 0))) (some (fault too_few_lines 0))) (some (fault bad_size 0)) ≡ some (fault bad_size 0)
      both true = refl
      both false = refl

  pub outside : (1 ≤ h → 4 < h) → format_check eight_ary h (state_in m) ≡ some (fault bad_size 0)
  outside f = go (cases_lt 0 h)
    where
      go : (0 < h) ⊎ (h ≤ 0) → format_check eight_ary h (state_in m) ≡ some (fault bad_size 0)
      go (inl k) = either (inr (f (omega arith)))
      go (inr k) = either (inl (omega arith))

  module _ (low : 1 ≤ h) (high : h ≤ 4) where
    inside : format_check eight_ary h (state_in m) ≡ cond (leb (lines_of h) (length m.lines)) (cond (eqb (state_in m).register.formatted 0) none (some (fault already_formatted 0))) (some (fault too_few_lines 0))
    unfolding format_check
    inside = λ i. cond (le-leb 1 h low i && le-leb h 4 high i) (cond (leb (lines_of h) (length m.lines)) (cond (eqb (state_in m).register.formatted 0) none (some (fault already_formatted 0))) (some (fault too_few_lines 0))) (some (fault bad_size 0))

    pub too_few : length m.lines < lines_of h → format_check eight_ary h (state_in m) ≡ some (fault too_few_lines 0)
    too_few k = inside ∙ ap (λ b. cond b (cond (eqb (state_in m).register.formatted 0) none (some (fault already_formatted 0))) (some (fault too_few_lines 0))) (lt-leb (lines_of h) (length m.lines) k)

    module _ (k : lines_of h ≤ length m.lines) where
      fitting : format_check eight_ary h (state_in m) ≡ cond (eqb (state_in m).register.formatted 0) none (some (fault already_formatted 0))
      fitting = inside ∙ ap (λ b. cond b (cond (eqb (state_in m).register.formatted 0) none (some (fault already_formatted 0))) (some (fault too_few_lines 0))) (le-leb (lines_of h) (length m.lines) k)

      pub twice : (row m.register 0 ≡ 0 → ⊥) → format_check eight_ary h (state_in m) ≡ some (fault already_formatted 0)
      unfolding register_in
      twice n = fitting ∙ ap (λ b. cond b none (some (fault already_formatted 0))) (ne_eqb (row m.register 0) 0 n)

      pub format_does : row m.register 0 ≡ 0 → (m' : Meaning) (y : Result (Unit {0}) TreeFault) (z : Result (Unit {0}) Fault) → z ≡ controller_says y → Wrote (format_writes (eight_ary h) S h) m (ended y) m' → Formats S h m (report_by z 0) m'
      unfolding register_in
      format_does n m' y z zi P =
          subst (λ (x : Result (Unit {0}) Fault). Formats S h m (report_by x 0) m') (sym zi)
          (subst (λ (o : Option Why). FormatsAs S h o m (report_by (controller_says y) 0) m') (sym (fitting ∙ ap (λ b. cond b none (some (fault already_formatted 0))) (eq-eqb (row m.register 0) 0 n)))
          (λ l. (log_after P.done (format_writes (eight_ary h) S h) l, (P.done, m'.power, P.cut, says y P.says, (λ i. record { board = P.left_is i; chip = cold }), refl))))
        where
          go : (b : Bool) (d : Why) → ending (cond b (some d) none) 0 ≡ cond b (refused d 0) (done 0)
          go true d = refl
          go false d = refl

          says : (y : Result (Unit {0}) TreeFault) → ended y ≡ cond (ltb P.done (length (format_writes (eight_ary h) S h))) (some (power_lost_at P.done (format_writes (eight_ary h) S h))) none → report_by (controller_says y) 0 ≡ cond (ltb P.done (length (format_writes (eight_ary h) S h))) (refused (power_lost_at P.done (format_writes (eight_ary h) S h)) 0) (done 0)
          says (Ok u) e = ap (λ o. ending o 0) e ∙ go (ltb P.done (length (format_writes (eight_ary h) S h))) (power_lost_at P.done (format_writes (eight_ary h) S h))
          says (Err f) e = ap (λ o. ending o 0) e ∙ go (ltb P.done (length (format_writes (eight_ary h) S h))) (power_lost_at P.done (format_writes (eight_ary h) S h))

-- The register after format, as the controller answers.
pub register_says : (h num : ℕ) (ws : List ℕ) (y : Result (Unit {0}) TreeFault) (z : Result (Unit {0}) Fault) → z ≡ controller_says y → (ws' : List ℕ) → RegisterMade h num ws y ws' → RegisterMade h num ws z ws'
register_says h num ws (Ok u) z e ws' p = subst (λ (x : Result (Unit {0}) Fault). RegisterMade h num ws x ws') (sym e) p
register_says h num ws (Err f) z e ws' p = subst (λ (x : Result (Unit {0}) Fault). RegisterMade h num ws x ws') (sym e) p

-- A line write leaves the register.
pub line_kept : (m : Meaning) (a : ℕ) (l : Line) (m' : Meaning) (r : Result (Unit {0}) BoardFault) → LineWritten m a l r m' → m'.register ≡ m.register
line_kept m a l m' (Ok u) y = y.2
line_kept m a l m' (Err Absent) y = ap (λ (x : Meaning). x.register) y.1
line_kept m a l m' (Err PowerLost) y = ap (λ (x : Meaning). x.register) y.2

-- A refused register write leaves it, a done one replaces it.
pub register_kept : (m : Meaning) (ws : List ℕ) (m' : Meaning) (r : Result (Unit {0}) BoardFault) (f : LineFault) → RegisterWritten m ws r m' → Err f ≡ with_line r 0 → m'.register ≡ m.register
register_kept m ws m' (Ok u) f y e = absurd (Ok≢Err (sym e))
register_kept m ws m' (Err Absent) f y e = absurd y
register_kept m ws m' (Err PowerLost) f y e = ap (λ (x : Meaning). x.register) y.1

pub register_put : (m : Meaning) (ws : List ℕ) (m' : Meaning) (r : Result (Unit {0}) BoardFault) → RegisterWritten m ws r m' → Ok tt ≡ with_line r 0 → m'.register ≡ ws
register_put m ws m' (Ok u) y e = y.1
register_put m ws m' (Err f) y e = absurd (Ok≢Err e)
