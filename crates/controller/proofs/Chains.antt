-- One run after another.
use Rattle.std.proofs.Common.{◌≡◌, ℕ, zero, suc, ◌+◌, ◌<◌, ◌≤◌, cond, eqb, ◌⊎◌, List, [], ◌∷◌, ◌++◌, length, sym, refl, ap, ◌∙◌, subst, inl, inr, arith}
use mathlib.Core.Option.{Option, some, none}
use Rattle.std.proofs.lemmas.Bool.{lt-ltb, le-ltb, cases_lt}
use Rattle.std.proofs.lemmas.List.{length-append}
use Rattle.board.specs.Meaning.{Meaning, Power, endless, writes}
use Rattle.machine.specs.Store.{Write, write_register, write_line, BoardState, after_write, after_writes, place_of, Cut, commits_in}
use Rattle.machine.specs.Words.{state_in}
use Rattle.machine.specs.Faults.{Fault as Why, fault, power_lost}
use Rattle.machine.specs.Plans.{Table, View, Run, chain, and_then}
use Rattle.machine.specs.History.{after, power_lost_at}
use Rattle.machine.specs.declared.layout.Layout.{Layout}
use Rattle.controller.specs.declared.chip.Chip.{Chip}
use Rattle.controller.specs.Views.{view_in}
use Rattle.controller.specs.Runs.{ends_after, Went}
use Rattle.controller.specs.Registers.{Rest}
use Rattle.machine.proofs.Basics.{none≢some, some_inj}
use Rattle.machine.proofs.Cuts.{after_writes_front, after_writes_back, cut_le}

pub place_front : (ws ws₁ : List Write) (k : ℕ) → k < length ws → place_of k (ws ++ ws₁) ≡ place_of k ws
unfolding place_of
place_front [] ws₁ k h = absurd (omega arith)
place_front (write_register x es r ∷ ws) ws₁ zero h = refl
place_front (write_line a L ∷ ws) ws₁ zero h = refl
place_front (write_register x es r ∷ ws) ws₁ (suc k) h = place_front ws ws₁ k (omega arith)
place_front (write_line a L ∷ ws) ws₁ (suc k) h = place_front ws ws₁ k (omega arith)

pub place_back : (ws ws₁ : List Write) (k : ℕ) → place_of (length ws + k) (ws ++ ws₁) ≡ place_of k ws₁
unfolding place_of
place_back [] ws₁ k = let e : 0 + k ≡ k = omega arith in ap (λ n. place_of n ws₁) e
place_back (write_register x es r ∷ ws) ws₁ k = let e : suc (length ws) + k ≡ suc (length ws + k) = omega arith in ap (λ n. place_of n (write_register x es r ∷ (ws ++ ws₁))) e ∙ place_back ws ws₁ k
place_back (write_line a L ∷ ws) ws₁ k = let e : suc (length ws) + k ≡ suc (length ws + k) = omega arith in ap (λ n. place_of n (write_line a L ∷ (ws ++ ws₁))) e ∙ place_back ws ws₁ k

commits_front : (ws ws₁ : List Write) (k : ℕ) → k ≤ length ws → commits_in k (ws ++ ws₁) ≡ commits_in k ws
unfolding commits_in
commits_front [] [] zero h = refl
commits_front [] (w ∷ ws₁) zero h = refl
commits_front [] ws₁ (suc k) h = absurd (omega arith)
commits_front (write_register x es r ∷ ws) ws₁ zero h = refl
commits_front (write_line a L ∷ ws) ws₁ zero h = refl
commits_front (write_register x es r ∷ ws) ws₁ (suc k) h = ap suc (commits_front ws ws₁ k (omega arith))
commits_front (write_line a L ∷ ws) ws₁ (suc k) h = commits_front ws ws₁ k (omega arith)

commits_back : (ws ws₁ : List Write) (k : ℕ) → commits_in (length ws + k) (ws ++ ws₁) ≡ commits_in (length ws) ws + commits_in k ws₁
unfolding commits_in
commits_back [] ws₁ k = let e : 0 + k ≡ k = omega arith in let z : commits_in k ws₁ ≡ 0 + commits_in k ws₁ = omega arith in ap (λ n. commits_in n ws₁) e ∙ z
commits_back (write_register x es r ∷ ws) ws₁ k = let e : suc (length ws) + k ≡ suc (length ws + k) = omega arith in ap (λ n. commits_in n (write_register x es r ∷ (ws ++ ws₁))) e ∙ ap suc (commits_back ws ws₁ k) ∙ plus (commits_in (length ws) ws) (commits_in k ws₁)
  where
    plus : (x y : ℕ) → suc (x + y) ≡ suc x + y
    plus x y = omega arith
commits_back (write_line a L ∷ ws) ws₁ k = let e : suc (length ws) + k ≡ suc (length ws + k) = omega arith in ap (λ n. commits_in n (write_line a L ∷ (ws ++ ws₁))) e ∙ commits_back ws ws₁ k

-- What writes leave does not depend on power or size.
pub after_writes_alike : (k : ℕ) (ws : List Write) (b d : BoardState) → b.memory ≡ d.memory → b.register ≡ d.register → ((after_writes k ws b).memory ≡ (after_writes k ws d).memory) × ((after_writes k ws b).register ≡ (after_writes k ws d).register)
unfolding after_writes
after_writes_alike k [] b d e f = (e, f)
after_writes_alike zero (w ∷ ws) b d e f = (e, f)
after_writes_alike (suc k) (write_register x es r ∷ ws) b d e f = after_writes_alike k ws (after_write b (write_register x es r)) (after_write d (write_register x es r)) e refl
after_writes_alike (suc k) (write_line a L ∷ ws) b d e f = after_writes_alike k ws (after_write b (write_line a L)) (after_write d (write_line a L)) (ap (λ m q. cond (eqb q a) L (m q)) e) f

pub cut_join : (p q s : Power) (w k n : ℕ) → Cut p w w q → Cut q n k s → Cut p (w + n) (w + k) s
cut_join endless endless endless w k n x y = ap (λ j. w + j) y
cut_join endless endless (writes s) w k n x y = absurd y
cut_join endless (writes q) s w k n x y = absurd x
cut_join (writes p) endless s w k n x y = absurd x
cut_join (writes p) (writes q) endless w k n x y = absurd y
cut_join (writes p) (writes q) (writes s) w k n x y =
    let (a, b, c, d) = x in
    let (a₁, b₁, c₁, d₁) = y in
    (omega arith, omega arith, (λ h. c₁ (omega arith)), λ h. d₁ (omega arith) ∙ d (omega arith))

pub cut_stop : (p q : Power) (w k n : ℕ) → k < w → Cut p w k q → Cut p (w + n) k q
cut_stop endless endless w k n h x = absurd (omega arith)
cut_stop endless (writes q) w k n h x = absurd x
cut_stop (writes p) endless w k n h x = absurd x
cut_stop (writes p) (writes q) w k n h x = let (a, b, c, d) = x in (omega arith, b, (λ _. c h), d)

-- An outcome, read back.
pub said_none : (r : Run) (k : ℕ) → k ≤ length r.planned → none ≡ ends_after r k → (k ≡ length r.planned) × (r.ends ≡ none)
said_none r k h e = go (cases_lt k (length r.planned))
  where
    go : (k < length r.planned) ⊎ (length r.planned ≤ k) → (k ≡ length r.planned) × (r.ends ≡ none)
    go (inl x) = absurd (none≢some (e ∙ ap (λ b. cond b (some (power_lost_at k r.planned)) r.ends) (lt-ltb k (length r.planned) x)))
    go (inr x) = (omega arith, sym (e ∙ ap (λ b. cond b (some (power_lost_at k r.planned)) r.ends) (le-ltb k (length r.planned) x)))

module _ (r : Run) (f : View → Run) (m m₁ : Meaning) (t₁ : Table) (n n₁ : ℕ) where
  abbrev joined : Run → Run
  joined s = record { planned = r.planned ++ s.planned; view = s.view; ends = s.ends }

  pub went_then : (m₂ : Meaning) (t₂ : Table) (o : Option Why) (n₂ : ℕ) → Went r m none m₁ t₁ n n₁ → Went (f (view_in m₁ t₁)) m₁ o m₂ t₂ n₁ n₂ → Went (and_then r f) m o m₂ t₂ n n₂
  went_then m₂ t₂ o n₂ x y = subst (λ (z : Run). Went z m o m₂ t₂ n n₂) (sym is) both
    where
      s : Run
      s = f (view_in m₁ t₁)

      full : (x.done ≡ length r.planned) × (r.ends ≡ none)
      full = said_none r x.done (cut_le m.power m₁.power (length r.planned) x.done x.cut) x.says

      is : and_then r f ≡ joined (f (view_in m₁ t₁))
      is = ap (λ e. chain r e f) full.1 ∙ ap (λ v. joined (f v)) (sym (x.whole full.0))

      long : length (r.planned ++ (f (view_in m₁ t₁)).planned) ≡ length r.planned + length (f (view_in m₁ t₁)).planned
      long = length-append r.planned (f (view_in m₁ t₁)).planned

      first : state_in m₁ ≡ after (state_in m) (length r.planned) r.planned m₁.power
      first = x.left_is ∙ ap (λ k. after (state_in m) k r.planned m₁.power) full.0

      alike : ((after_writes y.done (f (view_in m₁ t₁)).planned (state_in m₁)).memory ≡ (after_writes y.done (f (view_in m₁ t₁)).planned (after_writes (length r.planned) r.planned (state_in m))).memory) × ((after_writes y.done (f (view_in m₁ t₁)).planned (state_in m₁)).register ≡ (after_writes y.done (f (view_in m₁ t₁)).planned (after_writes (length r.planned) r.planned (state_in m))).register)
      alike = after_writes_alike y.done (f (view_in m₁ t₁)).planned (state_in m₁) (after_writes (length r.planned) r.planned (state_in m)) (ap (λ (b : BoardState). b.memory) first) (ap (λ (b : BoardState). b.register) first)

      back : after_writes (length r.planned + y.done) (r.planned ++ (f (view_in m₁ t₁)).planned) (state_in m) ≡ after_writes y.done (f (view_in m₁ t₁)).planned (after_writes (length r.planned) r.planned (state_in m))
      back = after_writes_back r.planned (f (view_in m₁ t₁)).planned y.done (state_in m)

      ends : (y.done < length (f (view_in m₁ t₁)).planned) ⊎ (length (f (view_in m₁ t₁)).planned ≤ y.done) → o ≡ ends_after (joined (f (view_in m₁ t₁))) (length r.planned + y.done)
      ends (inl h) =
          y.says ∙ ap (λ b. cond b (some (power_lost_at y.done (f (view_in m₁ t₁)).planned)) (f (view_in m₁ t₁)).ends) (lt-ltb _ _ h)
          ∙ sym (ap (λ b. cond b (some (power_lost_at (length r.planned + y.done) (r.planned ++ (f (view_in m₁ t₁)).planned))) (f (view_in m₁ t₁)).ends) (lt-ltb (length r.planned + y.done) (length (r.planned ++ (f (view_in m₁ t₁)).planned)) (omega (arith, long))) ∙ ap (λ a. some (fault power_lost a)) (place_back r.planned (f (view_in m₁ t₁)).planned y.done))
      ends (inr h) =
          y.says ∙ ap (λ b. cond b (some (power_lost_at y.done (f (view_in m₁ t₁)).planned)) (f (view_in m₁ t₁)).ends) (le-ltb _ _ h)
          ∙ sym (ap (λ b. cond b (some (power_lost_at (length r.planned + y.done) (r.planned ++ (f (view_in m₁ t₁)).planned))) (f (view_in m₁ t₁)).ends) (le-ltb (length r.planned + y.done) (length (r.planned ++ (f (view_in m₁ t₁)).planned)) (omega (arith, long))))

      none_of : commits_in (length r.planned + y.done) (r.planned ++ (f (view_in m₁ t₁)).planned) ≡ 0 → commits_in (length r.planned) r.planned ≡ 0
      none_of e = omega (arith, e, commits_back r.planned (f (view_in m₁ t₁)).planned y.done)

      both : Went (joined (f (view_in m₁ t₁))) m o m₂ t₂ n n₂
      both =
          record {
            done = length r.planned + y.done;
            cut = subst (λ n. Cut m.power n (length r.planned + y.done) m₂.power) (sym long) (cut_join m.power m₁.power m₂.power (length r.planned) y.done (length (f (view_in m₁ t₁)).planned) (subst (λ k. Cut m.power (length r.planned) k m₁.power) full.0 x.cut) y.cut);
            left_is = y.left_is ∙ (λ i. record { memory = (alike.0 ∙ ap (λ (b : BoardState). b.memory) (sym back)) i; size = (first i).size; register = (alike.1 ∙ ap (λ (b : BoardState). b.register) (sym back)) i; power = m₂.power });
            says = ends (cases_lt y.done (length (f (view_in m₁ t₁)).planned));
            whole = λ e. y.whole (omega (arith, long));
            counted = omega (arith, x.counted ∙ ap (λ k. n + commits_in k r.planned) full.0, y.counted, commits_back r.planned (f (view_in m₁ t₁)).planned y.done);
            still = λ e. y.still (omega (arith, e, commits_back r.planned (f (view_in m₁ t₁)).planned y.done)) ∙ x.still (ap (λ k. commits_in k r.planned) full.0 ∙ none_of e);
            lost = λ z e c. omega (arith, long, y.lost z e c);
          }

  pub went_stop : (x : Why) → Went r m (some x) m₁ t₁ n n₁ → Went (and_then r f) m (some x) m₁ t₁ n n₁
  went_stop x y = go r.ends refl
    where
      go : (e : Option Why) → r.ends ≡ e → Went (chain r e f) m (some x) m₁ t₁ n n₁
      go (some z) p = y
      go none p = at (cases_lt y.done (length r.planned))
        where
          long : length (r.planned ++ (f r.view).planned) ≡ length r.planned + length (f r.view).planned
          long = length-append r.planned (f r.view).planned

          at : (y.done < length r.planned) ⊎ (length r.planned ≤ y.done) → Went (joined (f r.view)) m (some x) m₁ t₁ n n₁
          at (inr h) = absurd (none≢some (sym (y.says ∙ ap (λ b. cond b (some (power_lost_at y.done r.planned)) r.ends) (le-ltb y.done (length r.planned) h) ∙ p)))
          at (inl h) =
              record {
                done = y.done;
                cut = subst (λ n. Cut m.power n y.done m₁.power) (sym long) (cut_stop m.power m₁.power (length r.planned) y.done (length (f r.view).planned) h y.cut);
                left_is = y.left_is ∙ ap (λ (b : BoardState). record { memory = b.memory; size = (state_in m).size; register = b.register; power = m₁.power }) (sym (after_writes_front r.planned (f r.view).planned y.done (state_in m) (omega arith)));
                says = y.says ∙ ap (λ b. cond b (some (power_lost_at y.done r.planned)) r.ends) (lt-ltb y.done (length r.planned) h)
                    ∙ sym (ap (λ b. cond b (some (power_lost_at y.done (r.planned ++ (f r.view).planned))) (f r.view).ends) (lt-ltb y.done (length (r.planned ++ (f r.view).planned)) (omega (arith, long))) ∙ ap (λ a. some (fault power_lost a)) (place_front r.planned (f r.view).planned y.done h));
                whole = λ e. absurd (omega (arith, long));
                counted = y.counted ∙ ap (λ k. n + k) (sym (commits_front r.planned (f r.view).planned y.done (omega arith)));
                still = λ e. y.still (sym (commits_front r.planned (f r.view).planned y.done (omega arith)) ∙ e);
                lost = λ z e c. omega (arith, long);
              }

-- A run of two steps, from what came of each, or of the first alone.
module _ {r : Run} {m m₁ : Meaning} {t₁ : Table} {n n₁ : ℕ} {w : Run} (f : View → Run) (e : and_then r f ≡ w) where
  pub went_both : {m₂ : Meaning} {t₂ : Table} {o : Option Why} {n₂ : ℕ} → Went r m none m₁ t₁ n n₁ → Went (f (view_in m₁ t₁)) m₁ o m₂ t₂ n₁ n₂ → Went w m o m₂ t₂ n n₂
  went_both {m₂} {t₂} {o} {n₂} x y = subst (λ (z : Run). Went z m o m₂ t₂ n n₂) e (went_then r f m m₁ t₁ n n₁ m₂ t₂ o n₂ x y)

  pub went_first : {x : Why} → Went r m (some x) m₁ t₁ n n₁ → Went w m (some x) m₁ t₁ n n₁
  went_first {x} y = subst (λ (z : Run). Went z m (some x) m₁ t₁ n n₁) e (went_stop r f m m₁ t₁ n n₁ x y)

-- What is said of the suite and the layout that a step left as they were.
module _ {A : Type 0} {s s' : A} {c c' : Chip} (d : Rest s c s' c') (P : A → Layout → Type 0) where
  pub of_before : P s' c'.slots.layout → P s c.slots.layout
  of_before x = subst (λ a. P a c.slots.layout) d.suite (subst (λ (y : Layout). P s' y) d.layout x)

  pub of_after : P s c.slots.layout → P s' c'.slots.layout
  of_after x = subst (λ a. P a c'.slots.layout) (sym d.suite) (subst (λ (y : Layout). P s y) (sym d.layout) x)

-- What a run done whole leaves.
pub went_view : (r : Run) (m m' : Meaning) (t' : Table) (n n' : ℕ) → Went r m none m' t' n n' → view_in m' t' ≡ r.view
went_view r m m' t' n n' x = x.whole (said_none r x.done (cut_le m.power m'.power (length r.planned) x.done x.cut) x.says).0

-- Refused for another reason than power, all writes were done.
pub kept_whole : (r : Run) (m m' : Meaning) (t' : Table) (x : Why) (n n' : ℕ) (W : Went r m (some x) m' t' n n') → (x.cause ≡ power_lost → ⊥) → length r.planned ≤ W.done
kept_whole r m m' t' x n n' W h = go (cases_lt W.done (length r.planned))
  where
    go : (W.done < length r.planned) ⊎ (length r.planned ≤ W.done) → length r.planned ≤ W.done
    go (inr k) = k
    go (inl k) = absurd (h (ap (λ (z : Why). z.cause) (some_inj (W.says ∙ ap (λ b. cond b (some (power_lost_at W.done r.planned)) r.ends) (lt-ltb W.done (length r.planned) k)))))
