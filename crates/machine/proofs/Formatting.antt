-- Formatting: what a cut leaves, and what a formatted board holds.
use Rattle.std.proofs.Common.{◌≡◌, ℕ, zero, suc, ◌+◌, ◌<◌, ◌≤◌, Bool, true, false, cond, ◌&&◌, eqb, ltb, leb, ◌⊎◌, List, [], ◌∷◌, ◌++◌, length, sym, refl, ap, ◌∙◌, subst, inl, inr, arith}
use mathlib.Core.Bool.{false≢true}
use mathlib.Core.Option.{Option, some, none}
use Rattle.std.proofs.lemmas.Bool.{ltb-true, ltb-false, cases_lt, leb-true, eqb-true, and_parts}
use Rattle.std.proofs.lemmas.List.{length-append, append-nil}
use Rattle.suite.specs.Scheme.{Body, Line, Scheme}
use Rattle.board.specs.Meaning.{Power}
use Rattle.machine.specs.Layout.{Shape, TreeLaws, update}
use Rattle.machine.specs.Store.{line_at, Log, Write, write_register, write_line, BoardState, after_write, after_writes, log_after, Cut}
use Rattle.machine.specs.Faults.{Fault, fault, bad_size, too_few_lines, already_formatted}
use Rattle.machine.specs.Plans.{blank_lines, blank_log, new_register, format_writes}
use Rattle.machine.specs.History.{done, body_in, counter_in, World, cold, Answer, refused, power_lost_at, after, InLog, format_check, Formatted}
use Rattle.machine.specs.Laws.{Stands, NoReuse}
use Rattle.machine.specs.CommitLaws.{pending_in, JournalLaw}
use Rattle.machine.proofs.Pending.{pending_own, pending_other}
use Rattle.machine.proofs.Invariant.{Durable}
use Rattle.machine.proofs.Basics.{update_same, update_other, sum_zero, none≢some, upto}
use Rattle.machine.proofs.BoardHolds.{BoardHolds}
use Rattle.machine.proofs.Cuts.{after_writes_front, log_front, after_writes_back, log_back, cut_le, done≢refused}

-- Lines alone are written.
abbrev Plain : List Write → Type 0
Plain [] = Unit {0}
Plain (write_register x es r ∷ ws) = ⊥
Plain (write_line a L ∷ ws) = Plain ws

plain_register : (ws : List Write) → Plain ws → (k : ℕ) (b : BoardState) → (after_writes k ws b).register ≡ b.register
unfolding after_writes
plain_register [] p k b = refl
plain_register (write_register x es r ∷ ws) p k b = absurd p
plain_register (write_line a L ∷ ws) p zero b = refl
plain_register (write_line a L ∷ ws) p (suc k) b = plain_register ws p k (after_write b (write_line a L))

plain_log : (ws : List Write) → Plain ws → (k : ℕ) (l : Log) → log_after k ws l ≡ l
unfolding log_after
plain_log [] p k l = refl
plain_log (write_register x es r ∷ ws) p k l = absurd p
plain_log (write_line a L ∷ ws) p zero l = refl
plain_log (write_line a L ∷ ws) p (suc k) l = plain_log ws p k l

plain_join : (ws : List Write) (a : ℕ) (L : Line) → Plain ws → Plain (ws ++ (write_line a L ∷ []))
plain_join [] a L p = tt
plain_join (write_register x es r ∷ ws) a L p = p
plain_join (write_line b M ∷ ws) a L p = plain_join ws a L p

module _ (T : Shape) (S : Scheme) where
  zeros : Body
  zeros = λ i. 0

  blank_plain : (n : ℕ) → Plain (blank_lines T S n)
  unfolding blank_lines
  blank_plain zero = tt
  blank_plain (suc n) = plain_join (blank_lines T S n) n _ (blank_plain n)

  pub blank_length : (n : ℕ) → length (blank_lines T S n) ≡ n
  unfolding blank_lines
  blank_length zero = refl
  blank_length (suc n) = omega (arith, length-append (blank_lines T S n) (write_line n (line_at T S n 0 (λ i. 0)) ∷ []), blank_length n)

  blank_mem : (n : ℕ) (b : BoardState) (a : ℕ) → a < n → (after_writes (length (blank_lines T S n)) (blank_lines T S n) b).memory a ≡ line_at T S a 0 (λ i. 0)
  unfolding blank_lines after_writes
  blank_mem zero b a h = absurd (omega arith)
  blank_mem (suc n) b a h = ap (λ z. z.memory a) whole ∙ upto (λ a. update (after_writes (length (blank_lines T S n)) (blank_lines T S n) b).memory n (line_at T S n 0 (λ i. 0)) a ≡ line_at T S a 0 (λ i. 0)) n a h (update_same (after_writes (length (blank_lines T S n)) (blank_lines T S n) b).memory n _ n refl) (λ i. update_other (after_writes (length (blank_lines T S n)) (blank_lines T S n) b).memory n _ a (λ e. omega arith) ∙ blank_mem n b a i)
    where
      one : List Write
      one = write_line n (line_at T S n 0 (λ i. 0)) ∷ []

      whole : after_writes (length (blank_lines T S n ++ one)) (blank_lines T S n ++ one) b ≡ after_write (after_writes (length (blank_lines T S n)) (blank_lines T S n) b) (write_line n (line_at T S n 0 (λ i. 0)))
      whole = ap (λ z. after_writes z (blank_lines T S n ++ one) b) (length-append (blank_lines T S n) one) ∙ after_writes_back (blank_lines T S n) one 1 b

  fresh_was : (n a : ℕ) → a < n → InLog (blank_log n) a 0 (λ i. 0)
  unfolding blank_log
  fresh_was zero a h = absurd (omega arith)
  fresh_was (suc n) a h = upto (λ a. InLog (blank_log (suc n)) a 0 (λ i. 0)) n a h (inl (refl, refl, refl)) (λ i. inr (fresh_was n a i))

  was_fresh : (n a c : ℕ) (b : Body) → InLog (blank_log n) a c b → (a < n) × (c ≡ 0) × (b ≡ λ i. 0)
  unfolding blank_log
  was_fresh zero a c b w = absurd w
  was_fresh (suc n) a c b (inl w) = (omega (arith, w.0), sym w.1, sym w.2)
  was_fresh (suc n) a c b (inr w) = let (h, e, f) = was_fresh n a c b w in (omega (arith, h), e, f)

  fresh_counter : (n a : ℕ) → counter_in (blank_log n) a ≡ 0
  unfolding blank_log counter_in
  fresh_counter zero a = refl
  fresh_counter (suc n) a = go (eqb n a) (fresh_counter n a)
    where
      go : (b : Bool) → counter_in (blank_log n) a ≡ 0 → cond b 0 (counter_in (blank_log n) a) ≡ 0
      go true e = refl
      go false e = e

  fresh_body : (n a : ℕ) → body_in (blank_log n) a ≡ λ i. 0
  unfolding blank_log body_in
  fresh_body zero a = refl
  fresh_body (suc n) a = go (eqb n a) (fresh_body n a)
    where
      go : (b : Bool) → (body_in (blank_log n) a ≡ λ i. 0) → cond b (λ i. 0) (body_in (blank_log n) a) ≡ λ i. 0
      go true e = refl
      go false e = e

  pub fresh_once : (n : ℕ) → NoReuse (blank_log n)
  unfolding blank_log
  fresh_once zero = tt
  fresh_once (suc n) = (λ b w. absurd (omega (arith, (was_fresh n n 0 b w).0)), fresh_once n)

  fresh_pending : TreeLaws T → (n p : ℕ) → n ≤ T.lines → p < n → pending_in T (blank_log n) p ≡ 0
  unfolding blank_log
  fresh_pending L zero p h k = absurd (omega arith)
  fresh_pending L (suc n) p h k = go (cases_lt p n) (fresh_pending L n p (omega arith))
    where
      go : (p < n) ⊎ (n ≤ p) → (p < n → pending_in T (blank_log n) p ≡ 0) → pending_in T (record { at = n; counter = 0; body = λ i. 0 } ∷ blank_log n) p ≡ 0
      go (inl y) ih = pending_other T (blank_log n) (record { at = n; counter = 0; body = λ i. 0 }) p (λ e. omega arith) (λ e. omega (arith, e, L.parent_above n (omega arith))) ∙ ih y
      go (inr y) ih = pending_own T (blank_log n) (record { at = n; counter = 0; body = λ i. 0 }) p (omega arith)

  pub fresh_length : (n : ℕ) → length (blank_log n) ≡ n
  unfolding blank_log
  fresh_length zero = refl
  fresh_length (suc n) = ap suc (fresh_length n)

  fresh_newest : (n : ℕ) → 1 ≤ n → n ≡ T.lines → JournalLaw S T (blank_log n) none
  unfolding blank_log
  fresh_newest zero h e = absurd (omega arith)
  fresh_newest (suc n) h e = ap suc (fresh_length n) ∙ e

  pub fresh_durable : TreeLaws T → 1 ≤ T.lines → (h : ℕ) → Durable T S (blank_log T.lines) (new_register S h)
  fresh_durable L pos h =
      record {
        known = λ a c b w. let (i, e, f) = was_fresh T.lines a c b w in (i, omega (arith, e));
        one = λ a c b d w x. (was_fresh T.lines a c b w).2 ∙ sym (was_fresh T.lines a c d x).2;
        latest = λ a i. rw (fresh_counter T.lines a, fresh_body T.lines a) (fresh_was T.lines a i);
        older = λ p c b n w i j. let e : b i ≡ 0 = ap (λ z. z i) (was_fresh T.lines p c b w).2 in omega (arith, e);
        level = λ p n k m i j. ap (λ z. z i) (fresh_body T.lines p) ∙ sym (fresh_counter T.lines (T.child p i));
        dirty_few = λ p n k m. absurd (false≢true m);
        roots = λ i j. sym (fresh_counter T.lines (T.child T.lines i));
        dirty_sum = sym (sum_zero T.lines (λ p. 0) (λ i j. refl));
        small = λ a i. omega (arith, fresh_counter T.lines a);
        journaled = λ n e. absurd (none≢some e);
        inner = λ p m. absurd (false≢true m);
        since = λ p n k. fresh_pending L T.lines p (omega arith) k ∙ sym (sum_zero (T.arity p) _ (λ i j. omega (arith, fresh_counter T.lines (T.child p i))));
        moved = λ p m. absurd (false≢true m);
        flat = λ p k. fresh_pending L T.lines p (omega arith) (omega (arith, L.data_in));
        blank_lines = λ p n k i j. ap (λ z. z i) (fresh_body T.lines p);
        newest = fresh_newest T.lines pos refl;
      }

-- What a check of format says.
pub format_may : (shapes : ℕ → Shape) (S : Scheme) (h : ℕ) (b : BoardState) → format_check shapes h b ≡ none → (1 ≤ h) × (h ≤ 4) × ((shapes h).lines ≤ b.size) × (b.register.formatted ≡ 0)
unfolding format_check
format_may shapes S h b e = one (leb 1 h && leb h 4) refl e
  where
    May : Type 0
    May = (1 ≤ h) × (h ≤ 4) × ((shapes h).lines ≤ b.size) × (b.register.formatted ≡ 0)

    three : (leb 1 h && leb h 4) ≡ true → leb (shapes h).lines b.size ≡ true → (d : Bool) → eqb b.register.formatted 0 ≡ d → cond d none (some (fault already_formatted 0)) ≡ none → May
    three f g true i e = (leb-true _ _ (and_parts _ _ f).0, leb-true _ _ (and_parts _ _ f).1, leb-true _ _ g, eqb-true _ _ i)
    three f g false i e = absurd (none≢some (sym e))

    two : (leb 1 h && leb h 4) ≡ true → (d : Bool) → leb (shapes h).lines b.size ≡ d → cond d (cond (eqb b.register.formatted 0) none (some (fault already_formatted 0))) (some (fault too_few_lines 0)) ≡ none → May
    two f true g e = three f g (eqb b.register.formatted 0) refl e
    two f false g e = absurd (none≢some (sym e))

    one : (d : Bool) → (leb 1 h && leb h 4) ≡ d → cond d (cond (leb (shapes h).lines b.size) (cond (eqb b.register.formatted 0) none (some (fault already_formatted 0))) (some (fault too_few_lines 0))) (some (fault bad_size 0)) ≡ none → May
    one true f e = two f (leb (shapes h).lines b.size) refl e
    one false f e = absurd (none≢some (sym e))

module _ (shapes : ℕ → Shape) (S : Scheme) (h : ℕ) (b : BoardState) where
  abbrev T : Shape
  T = shapes h

  abbrev ws : List Write
  ws = format_writes T S h

  abbrev last_write : List Write
  last_write = write_register 0 (blank_log T.lines) (new_register S h) ∷ []

  pub format_length : length ws ≡ suc T.lines
  unfolding format_writes
  format_length = omega (arith, length-append (blank_lines T S T.lines) last_write, blank_length T S T.lines)

  -- A format cut short leaves the register and the log.
  pub cut_short : (k : ℕ) → k < length ws → (l : Log) → ((after_writes k ws b).register ≡ b.register) × (log_after k ws l ≡ l)
  unfolding format_writes
  cut_short k i l =
      let j : k ≤ length (blank_lines T S T.lines) = omega (arith, i, length-append (blank_lines T S T.lines) last_write) in (
        ap (λ z. z.register) (after_writes_front (blank_lines T S T.lines) last_write k b j) ∙ plain_register (blank_lines T S T.lines) (blank_plain T S T.lines) k b,
        log_front (blank_lines T S T.lines) last_write k l j ∙ plain_log (blank_lines T S T.lines) (blank_plain T S T.lines) k l,
      )

  -- A whole one writes both.
  pub all_done : (k : ℕ) → k ≡ length ws → ((after_writes k ws b).register ≡ new_register S h) × (log_after k ws [] ≡ blank_log T.lines) × ((a : ℕ) → a < T.lines → (after_writes k ws b).memory a ≡ line_at T S a 0 (λ i. 0))
  unfolding format_writes after_writes log_after
  all_done k i =
      let e : k ≡ length (blank_lines T S T.lines) + 1 = omega (arith, i, length-append (blank_lines T S T.lines) last_write) in
      let p : after_writes k ws b ≡ after_write (after_writes (length (blank_lines T S T.lines)) (blank_lines T S T.lines) b) (write_register 0 (blank_log T.lines) (new_register S h)) = ap (λ z. after_writes z ws b) e ∙ after_writes_back (blank_lines T S T.lines) last_write 1 b in (
        ap (λ z. z.register) p,
        ap (λ z. log_after z ws []) e ∙ log_back (blank_lines T S T.lines) last_write 1 [] ∙ ap (λ z. blank_log T.lines ++ z) (plain_log (blank_lines T S T.lines) (blank_plain T S T.lines) (length (blank_lines T S T.lines)) []) ∙ append-nil (blank_log T.lines),
        λ a j. ap (λ z. z.memory a) p ∙ blank_mem T S T.lines b a j,
      )

  fresh_stands : (m : ℕ → Line) (a : ℕ) → m a ≡ line_at T S a 0 (λ i. 0) → Stands T S (blank_log T.lines) m a
  fresh_stands m a e = rw (fresh_counter T S T.lines a, fresh_body T S T.lines a) e

-- Formatting keeps what holds, and its law.
module _ (shapes : ℕ → Shape) (S : Scheme) (laws : (h : ℕ) → 1 ≤ h → h ≤ 4 → TreeLaws (shapes h)) (h : ℕ) (w : World) (l : Log) (H : BoardHolds shapes S w.board l) (O : NoReuse l) where
  b : BoardState
  b = w.board

  -- Every line was committed with zeros under counter 0, and stands.
  abbrev Zeros : Answer → World → Log → Type 0
  Zeros x w' l' = x ≡ done 0 → (a : ℕ) → a < (shapes h).lines → (counter_in l' a ≡ 0) × (body_in l' a ≡ λ i. 0) × Stands (shapes h) S l' w'.board.memory a

  abbrev Result : Answer → World → Log → Type 0
  Result x w' l' = (w'.chip ≡ cold) × BoardHolds shapes S w'.board l' × NoReuse l' × Zeros x w' l'

  -- A fault before any write.
  early : (r : Fault) → format_check shapes h w.board ≡ some r → Result (refused r 0) (record { board = w.board; chip = cold }) l
  early r e = (
    refl,
    H,
    O,
    λ f. absurd (done≢refused (sym f)),
  )

  module _ (may : format_check shapes h w.board ≡ none) (k : ℕ) (p : Power) (c : Cut w.board.power (length (format_writes (shapes h) S h)) k p) where
    empty : l ≡ []
    empty = go H
      where
        go : BoardHolds shapes S w.board l → l ≡ []
        go (inl z) = z.1
        go (inr z) = absurd (omega (arith, z.0.formatted, (format_may shapes S h w.board may).3))

    le : k ≤ length (format_writes (shapes h) S h)
    le = cut_le w.board.power p (length (format_writes (shapes h) S h)) k c

    cut_off : k < length (format_writes (shapes h) S h) → Result (refused (power_lost_at k (format_writes (shapes h) S h)) 0) (record { board = after w.board k (format_writes (shapes h) S h) p; chip = cold }) (log_after k (format_writes (shapes h) S h) l)
    cut_off i =
        let (g, e) = cut_short shapes S h w.board k i l in (
          refl,
          inl (ap (λ z. z.formatted) g ∙ (format_may shapes S h w.board may).3, e ∙ empty),
          subst NoReuse (sym e) O,
          λ f. absurd (done≢refused (sym f)),
        )

    whole : k ≡ length (format_writes (shapes h) S h) → Result (done 0) (record { board = after w.board k (format_writes (shapes h) S h) p; chip = cold }) (log_after k (format_writes (shapes h) S h) l)
    whole i =
        let (g, e, m) = all_done shapes S h w.board k i in
        let f : log_after k (format_writes (shapes h) S h) l ≡ blank_log (shapes h).lines = ap (log_after k (format_writes (shapes h) S h)) empty ∙ e in
        let (lo, hi, register_valid, un) = format_may shapes S h w.board may in
        let st : (a : ℕ) → a < (shapes h).lines → Stands (shapes h) S (blank_log (shapes h).lines) (after_writes k (format_writes (shapes h) S h) w.board).memory a = λ a j. fresh_stands shapes S h w.board (after_writes k (format_writes (shapes h) S h) w.board).memory a (m a j) in (
          refl,
          inr (
            rw g (record { formatted = refl; low = lo; high = hi; fitting = register_valid; own = refl }),
            rw (g, f) (record { durable = fresh_durable (shapes h) S (laws h lo hi) (laws h lo hi).some_lines h; fine = λ q j _. inl (st q j) }),
          ),
          subst NoReuse (sym f) (fresh_once (shapes h) S (shapes h).lines),
          λ z a j. rw f (fresh_counter (shapes h) S (shapes h).lines a, fresh_body (shapes h) S (shapes h).lines a, st a j),
        )

  pub format_holds : (x : Answer) (w' : World) (l' : Log) → Formatted shapes S h w.board (format_check shapes h w.board) l x w' l' → Result x w' l'
  format_holds x w' l' s = go (format_check shapes h w.board) refl s
    where
      go : (o : Option Fault) → format_check shapes h w.board ≡ o → Formatted shapes S h w.board o l x w' l' → Result x w' l'
      go (some r) e (ex, ew, el) = rw (ex, ew, el) (early r e)
      go none e (k, p, c, ex, ew, el) = rw (ex, ew, el) (at (ltb k (length (format_writes (shapes h) S h))) refl)
        where
          at : (d : Bool) → ltb k (length (format_writes (shapes h) S h)) ≡ d → Result (cond d (refused (power_lost_at k (format_writes (shapes h) S h)) 0) (done 0)) (record { board = after w.board k (format_writes (shapes h) S h) p; chip = cold }) (log_after k (format_writes (shapes h) S h) l)
          at true f = cut_off e k p c (ltb-true _ _ f)
          at false f = whole e k p c (omega (arith, ltb-false _ _ f, le e k p c))
