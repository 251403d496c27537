-- Formatting in the order of its checks, and what it leaves.
use Rattle.std.proofs.Common.{◌≡◌, ℕ, zero, suc, ◌+◌, ◌<◌, ◌≤◌, Bool, true, false, cond, ◌&&◌, ltb, leb, ◌⊎◌, List, [], ◌∷◌, ◌++◌, length, sym, refl, ap, ◌∙◌, subst, inl, inr, arith}
use mathlib.Core.Option.{Option, some, none}
use Rattle.std.proofs.lemmas.Bool.{ltb-true, ltb-false, lt-ltb, le-ltb, cases_lt, le-leb, lt-leb, eq-eqb, ne_eqb, and_from}
use Rattle.suite.specs.Scheme.{Line, Scheme}
use Rattle.board.specs.Meaning.{Power, writes}
use Rattle.machine.specs.Layout.{TreeLaws, Shape, update}
use Rattle.machine.specs.Store.{line_at, Log, Write, write_register, write_line, BoardState, after_write, after_writes, log_after, place_of, Cut}
use Rattle.machine.specs.Faults.{Fault, fault, bad_size, too_few_lines, already_formatted, power_lost}
use Rattle.machine.specs.Plans.{new_register, blank_lines, blank_log, format_writes}
use Rattle.machine.specs.History.{World, cold, Answer, done, refused, power_lost_at, after, format_check, Formatted}
use Rattle.machine.specs.Laws.{Unchanged, NoReuse}
use Rattle.machine.specs.Promises.{FormatLaw}
use Rattle.machine.proofs.Basics.{update_same, update_other, upto}
use Rattle.machine.proofs.BoardHolds.{BoardHolds}
use Rattle.machine.proofs.Cuts.{after_writes_front, after_writes_back, cut_le, cut_lost, refused_inj, done≢refused}
use Rattle.machine.proofs.Formatting.{format_holds, blank_length, fresh_length, format_length, cut_short, all_done, format_may}

place_front : (ws us : List Write) (k : ℕ) → k < length ws → place_of k (ws ++ us) ≡ place_of k ws
unfolding place_of
place_front [] us k h = absurd (omega arith)
place_front (write_register x es r ∷ ws) us zero h = refl
place_front (write_line a L ∷ ws) us zero h = refl
place_front (w ∷ ws) us (suc k) h = place_front ws us k (omega arith)

place_back : (ws us : List Write) (k : ℕ) → place_of (length ws + k) (ws ++ us) ≡ place_of k us
unfolding place_of
place_back [] us k = let e : 0 + k ≡ k = omega arith in ap (λ n. place_of n us) e
place_back (w ∷ ws) us k = let e : suc (length ws) + k ≡ suc (length ws + k) = omega arith in ap (λ n. place_of n (w ∷ (ws ++ us))) e ∙ place_back ws us k

module _ (T : Shape) (S : Scheme) where
  one : ℕ → List Write
  one n = write_line n (line_at T S n 0 (λ i. 0)) ∷ []

  blank_place : (n k : ℕ) → k < n → place_of k (blank_lines T S n) ≡ k
  unfolding blank_lines place_of
  blank_place zero k h = absurd (omega arith)
  blank_place (suc n) k h = go (cases_lt k n) (blank_place n k)
    where
      go : (k < n) ⊎ (n ≤ k) → (k < n → place_of k (blank_lines T S n) ≡ k) → place_of k (blank_lines T S n ++ (write_line n (line_at T S n 0 (λ i. 0)) ∷ [])) ≡ k
      go (inl y) ih = place_front (blank_lines T S n) _ k (omega (arith, blank_length T S n)) ∙ ih y
      go (inr y) ih =
          let e : k ≡ length (blank_lines T S n) + 0 = omega (arith, blank_length T S n) in
          let f : n ≡ k = omega arith in
          ap (λ z. place_of z (blank_lines T S n ++ (write_line n (line_at T S n 0 (λ i. 0)) ∷ []))) e ∙ place_back (blank_lines T S n) (write_line n (line_at T S n 0 (λ i. 0)) ∷ []) 0 ∙ f

  abbrev CutMem : ℕ → (ℕ → Line) → (ℕ → Line) → Type 0
  CutMem k m m' = ((q : ℕ) → q < k → m' q ≡ line_at T S q 0 (λ i. 0)) × ((q : ℕ) → k ≤ q → m' q ≡ m q)

  -- The lines written by a format cut after k of them.
  blank_cut : (n k : ℕ) (b : BoardState) → k ≤ n → CutMem k b.memory (after_writes k (blank_lines T S n) b).memory
  unfolding blank_lines after_writes
  blank_cut zero k b h = (λ q i. absurd (omega arith), λ q i. refl)
  blank_cut (suc n) k b h = go (cases_lt n k) (λ j. blank_cut n j b)
    where
      ones : List Write
      ones = write_line n (line_at T S n 0 (λ i. 0)) ∷ []

      go : (n < k) ⊎ (k ≤ n) → ((j : ℕ) → j ≤ n → CutMem j b.memory (after_writes j (blank_lines T S n) b).memory) → CutMem k b.memory (after_writes k (blank_lines T S n ++ (write_line n (line_at T S n 0 (λ i. 0)) ∷ [])) b).memory
      go (inr y) ih = subst (λ z. CutMem k b.memory z.memory) (sym (after_writes_front (blank_lines T S n) ones k b (omega (arith, blank_length T S n)))) (ih k y)
      go (inl y) ih =
          let e : k ≡ length (blank_lines T S n) + 1 = omega (arith, blank_length T S n) in
          let z : after_writes k (blank_lines T S n ++ ones) b ≡ after_write (after_writes (length (blank_lines T S n)) (blank_lines T S n) b) (write_line n (line_at T S n 0 (λ i. 0))) = ap (λ j. after_writes j (blank_lines T S n ++ ones) b) e ∙ after_writes_back (blank_lines T S n) ones 1 b in
          let (x, u) = subst (λ j. CutMem n b.memory (after_writes j (blank_lines T S n) b).memory) (sym (blank_length T S n)) (ih n (omega arith)) in
          subst (λ z. CutMem k b.memory z.memory) (sym z) (
            λ q i. upto (λ q. update (after_writes (length (blank_lines T S n)) (blank_lines T S n) b).memory n (line_at T S n 0 (λ i. 0)) q ≡ line_at T S q 0 (λ i. 0)) n q (omega arith) (update_same (after_writes (length (blank_lines T S n)) (blank_lines T S n) b).memory n _ n refl) (λ j. update_other (after_writes (length (blank_lines T S n)) (blank_lines T S n) b).memory n _ q (λ f. omega arith) ∙ x q j),
            λ q i. update_other (after_writes (length (blank_lines T S n)) (blank_lines T S n) b).memory n _ q (λ f. omega arith) ∙ u q (omega arith),
          )

  abbrev last_write : ℕ → List Write
  last_write h = write_register 0 (blank_log T.lines) (new_register S h) ∷ []

  format_place : (h k : ℕ) → k ≤ T.lines → place_of k (format_writes T S h) ≡ cond (ltb k T.lines) k 0
  unfolding format_writes place_of
  format_place h k i = go (cases_lt k T.lines)
    where
      go : (k < T.lines) ⊎ (T.lines ≤ k) → place_of k (blank_lines T S T.lines ++ last_write h) ≡ cond (ltb k T.lines) k 0
      go (inl y) = place_front (blank_lines T S T.lines) (last_write h) k (omega (arith, blank_length T S T.lines)) ∙ blank_place T.lines k y ∙ sym (ap (λ b. cond b k 0) (lt-ltb k T.lines y))
      go (inr y) =
          let e : k ≡ length (blank_lines T S T.lines) + 0 = omega (arith, blank_length T S T.lines) in
          ap (λ z. place_of z (blank_lines T S T.lines ++ last_write h)) e ∙ place_back (blank_lines T S T.lines) (last_write h) 0 ∙ sym (ap (λ b. cond b k 0) (le-ltb k T.lines y))

  format_cut : (h k : ℕ) (b : BoardState) → k ≤ T.lines → CutMem k b.memory (after_writes k (format_writes T S h) b).memory
  unfolding format_writes
  format_cut h k b i = subst (λ z. CutMem k b.memory z.memory) (sym (after_writes_front (blank_lines T S T.lines) (last_write h) k b (omega (arith, blank_length T S T.lines)))) (blank_cut T.lines k b i)

  format_over : (h k : ℕ) (b : BoardState) → k ≡ suc T.lines → (q : ℕ) → T.lines ≤ q → (after_writes k (format_writes T S h) b).memory q ≡ b.memory q
  unfolding format_writes after_writes
  format_over h k b e q i =
      let f : k ≡ length (blank_lines T S T.lines) + 1 = omega (arith, blank_length T S T.lines) in
      ap (λ z. (after_writes z (blank_lines T S T.lines ++ last_write h) b).memory q) f ∙ ap (λ z. z.memory q) (after_writes_back (blank_lines T S T.lines) (last_write h) 1 b)
      ∙ ap (λ z. (after_writes z (blank_lines T S T.lines) b).memory q) (blank_length T S T.lines) ∙ (blank_cut T.lines T.lines b (omega arith)).1 q i

module _ (shapes : ℕ → Shape) (S : Scheme) (h : ℕ) (w : World) (l : Log) (H : BoardHolds shapes S w.board l) (O : NoReuse l) (laws : (h : ℕ) → 1 ≤ h → h ≤ 4 → TreeLaws (shapes h)) (x : Answer) (w' : World) (l' : Log) (B : Formatted shapes S h w.board (format_check shapes h w.board) l x w' l') where
  abbrev ws : List Write
  ws = format_writes (shapes h) S h

  asked : {o : Option Fault} → format_check shapes h w.board ≡ o → Formatted shapes S h w.board o l x w' l'
  asked e = subst (λ o. Formatted shapes S h w.board o l x w' l') e B

  early : (r : Fault) → format_check shapes h w.board ≡ some r → (x ≡ refused r 0) × Unchanged w cold l w' l'
  early r e = let b = asked e in (b.0, (ap (λ z. z.board) b.1, ap (λ z. z.chip) b.1, b.2))

  answers : (x ≡ done 0) ⊎ ((r : Fault) × (x ≡ refused r 0))
  answers = go (format_check shapes h w.board) B
    where
      cut : (r : Fault) (d : Bool) → (cond d (refused r 0) (done 0) ≡ done 0) ⊎ ((y : Fault) × (cond d (refused r 0) (done 0) ≡ refused y 0))
      cut r true = inr (r, refl)
      cut r false = inl refl

      go : (o : Option Fault) → Formatted shapes S h w.board o l x w' l' → (x ≡ done 0) ⊎ ((r : Fault) × (x ≡ refused r 0))
      go (some r) (ex, ew, el) = inr (r, ex)
      go none (k, p, c, ex, ew, el) = rw ex (cut (power_lost_at k ws) (ltb k (length ws)))

  goes_cold : (w'.chip ≡ cold) × (w'.board.size ≡ w.board.size)
  goes_cold = go (format_check shapes h w.board) B
    where
      go : (o : Option Fault) → Formatted shapes S h w.board o l x w' l' → (w'.chip ≡ cold) × (w'.board.size ≡ w.board.size)
      go (some r) (ex, ew, el) = (ap (λ z. z.chip) ew, ap (λ z. z.board.size) ew)
      go none (k, p, c, ex, ew, el) = (ap (λ z. z.chip) ew, ap (λ z. z.board.size) ew)

  levels_err : (h < 1) ⊎ (4 < h) → (leb 1 h && leb h 4) ≡ false
  levels_err (inl i) = ap (λ b. b && leb h 4) (lt-leb 1 h i)
  levels_err (inr i) = go (leb 1 h) (lt-leb h 4 i)
    where
      go : (b : Bool) → leb h 4 ≡ false → (b && leb h 4) ≡ false
      go true e = e
      go false e = refl

  levels_ok : 1 ≤ h → h ≤ 4 → (leb 1 h && leb h 4) ≡ true
  levels_ok i j = and_from _ _ (le-leb 1 h i) (le-leb h 4 j)

  abbrev LostPower : Fault → Type 0
  LostPower r =
      (k : ℕ) × (k ≤ (shapes h).lines) × (r ≡ fault power_lost (cond (ltb k (shapes h).lines) k 0)) × (w'.board.power ≡ writes 0) × (w'.board.register ≡ w.board.register) × (l' ≡ l)
      × ((q : ℕ) → q < k → w'.board.memory q ≡ line_at (shapes h) S q 0 (λ i. 0)) × ((q : ℕ) → k ≤ q → w'.board.memory q ≡ w.board.memory q)

  goes_lost : format_check shapes h w.board ≡ none → (r : Fault) → x ≡ refused r 0 → LostPower r
  goes_lost e r f = go (asked e)
    where
      cut : (k : ℕ) (p : Power) (d : Bool) → ltb k (length ws) ≡ d → Cut w.board.power (length ws) k p → x ≡ cond d (refused (power_lost_at k ws) 0) (done 0) → w' ≡ record { board = after w.board k ws p; chip = cold } → l' ≡ log_after k ws l → LostPower r
      cut k p false g c ex ew el = absurd (done≢refused (sym ex ∙ f))
      cut k p true g c ex ew el =
          let i = ltb-true _ _ g in
          let j : k ≤ (shapes h).lines = omega (arith, i, format_length shapes S h w.board) in
          let (u, v) = cut_short shapes S h w.board k i l in
          let (y, z) = format_cut (shapes h) S h k w.board j in (
            k,
            j,
            sym (refused_inj (sym ex ∙ f)).0 ∙ ap (fault power_lost) (format_place (shapes h) S h k j),
            ap (λ z. z.board.power) ew ∙ cut_lost w.board.power p (length ws) k c i,
            ap (λ z. z.board.register) ew ∙ u,
            el ∙ v,
            λ q a. ap (λ z. z.board.memory q) ew ∙ y q a,
            λ q a. ap (λ z. z.board.memory q) ew ∙ z q a,
          )

      go : Formatted shapes S h w.board none l x w' l' → LostPower r
      go (k, p, c, ex, ew, el) = cut k p (ltb k (length ws)) refl c ex ew el

  abbrev Blank : Type 0
  Blank =
      (w'.board.register ≡ new_register S h) × (length l' ≡ (shapes h).lines) × ((q : ℕ) → (shapes h).lines ≤ q → w'.board.memory q ≡ w.board.memory q)

  blank_left : x ≡ done 0 → Blank
  blank_left f = go (format_check shapes h w.board) refl B
    where
      empty : format_check shapes h w.board ≡ none → l ≡ []
      empty e = at H
        where
          at : BoardHolds shapes S w.board l → l ≡ []
          at (inl z) = z.1
          at (inr z) = absurd (omega (arith, z.0.formatted, (format_may shapes S h w.board e).3))

      cut : format_check shapes h w.board ≡ none → (k : ℕ) (p : Power) (d : Bool) → ltb k (length ws) ≡ d → Cut w.board.power (length ws) k p → x ≡ cond d (refused (power_lost_at k ws) 0) (done 0) → w' ≡ record { board = after w.board k ws p; chip = cold } → l' ≡ log_after k ws l → Blank
      cut e k p true g c ex ew el = absurd (done≢refused (sym f ∙ ex))
      cut e k p false g c ex ew el =
          let i : k ≡ length ws = omega (arith, ltb-false _ _ g, cut_le w.board.power p (length ws) k c) in
          let (u, v, m) = all_done shapes S h w.board k i in (
            ap (λ z. z.board.register) ew ∙ u,
            ap length (el ∙ ap (log_after k ws) (empty e) ∙ v) ∙ fresh_length (shapes h) S (shapes h).lines,
            λ q a. ap (λ z. z.board.memory q) ew ∙ format_over (shapes h) S h k w.board (i ∙ format_length shapes S h w.board) q a,
          )

      go : (o : Option Fault) → format_check shapes h w.board ≡ o → Formatted shapes S h w.board o l x w' l' → Blank
      go (some r) e (ex, ew, el) = absurd (done≢refused (sym f ∙ ex))
      go none e (k, p, c, ex, ew, el) = cut e k p (ltb k (length ws)) refl c ex ew el

  pub format_law : FormatLaw S (shapes h) h w l x w' l'
  unfolding format_check
  format_law =
      record {
        answers = answers;
        leaves = goes_cold;
        bad_levels = λ i. early (fault bad_size 0) (rw (levels_err i));
        too_few = λ i j f. early (fault too_few_lines 0) (rw (levels_ok i j, lt-leb (shapes h).lines w.board.size f));
        twice = λ i j f n. early (fault already_formatted 0) (rw (levels_ok i j, le-leb (shapes h).lines w.board.size f, ne_eqb w.board.register.formatted 0 n));
        powerless = λ i j f n. goes_lost (rw (levels_ok i j, le-leb (shapes h).lines w.board.size f, eq-eqb w.board.register.formatted 0 n));
        committed = λ f. ((blank_left f).1, (format_holds shapes S laws h w l H O x w' l' B).3 f, (blank_left f).2);
        blank =
            λ f.
            let r = (blank_left f).0 in
            (ap (λ z. z.formatted) r, ap (λ z. z.levels) r, ap (λ z. z.suite) r, λ i. ap (λ z. z.roots i) r, ap (λ z. z.dirty_sum) r, ap (λ z. z.journal) r, λ p. ap (λ z. z.dirty p) r);
      }
