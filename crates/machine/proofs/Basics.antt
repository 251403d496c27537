-- Small laws: a function changed at one place, sums, tests, answers.
use Rattle.std.proofs.Common.{◌≡◌, ℕ, zero, suc, ◌+◌, ◌<◌, ◌≤◌, Bool, true, false, cond, ◌⊎◌, List, length, get_or, MatchBool, sym, refl, ap, ◌∙◌, subst, inl, inr, arith}
use mathlib.Core.Option.{Option, some, none}
use Rattle.std.proofs.lemmas.Bool.{eq-eqb, ne_eqb, and_parts, and_from, cases_lt, both_ways}
use Rattle.std.specs.List.{AllWithin, HoldsAt}
use Rattle.machine.specs.Layout.{update, sum_to, every, first, or_last}
use Rattle.machine.specs.Faults.{Cause, Fault, fault, Outcome, ok, err, bind}

pub update_same : {A : Type 0} (f : ℕ → A) (a : ℕ) (x : A) (q : ℕ) → q ≡ a → update f a x q ≡ x
update_same f a x q e = rw (eq-eqb q a e)

pub update_other : {A : Type 0} (f : ℕ → A) (a : ℕ) (x : A) (q : ℕ) → (q ≡ a → ⊥) → update f a x q ≡ f q
update_other f a x q e = rw (ne_eqb q a e)

-- A number below n + 1 is n or below n.
pub upto : (P : ℕ → Type 0) (n i : ℕ) → i < suc n → P n → (i < n → P i) → P i
upto P n i k x f = at (cases_lt i n)
  where
    at : (i < n) ⊎ (n ≤ i) → P i
    at (inl y) = f y
    at (inr y) = subst P (omega arith) x

pub sum_same : (n : ℕ) (f g : ℕ → ℕ) → ((i : ℕ) → i < n → f i ≡ g i) → sum_to n f ≡ sum_to n g
unfolding sum_to
sum_same zero f g h = refl
sum_same (suc n) f g h = rw (sum_same n f g (λ i k. h i (omega arith)), h n (omega arith))

pub sum_le : (n : ℕ) (f g : ℕ → ℕ) → ((i : ℕ) → i < n → f i ≤ g i) → sum_to n f ≤ sum_to n g
unfolding sum_to
sum_le zero f g h = omega arith
sum_le (suc n) f g h = omega (arith, sum_le n f g (λ i k. h i (omega arith)), h n (omega arith))

-- Where no term is above its fellow and the sums agree, the terms agree.
pub sum_pinned : (n : ℕ) (f g : ℕ → ℕ) → ((i : ℕ) → i < n → f i ≤ g i) → sum_to n f ≡ sum_to n g → (i : ℕ) → i < n → f i ≡ g i
unfolding sum_to
sum_pinned zero f g h e i k = omega arith
sum_pinned (suc n) f g h e i k = upto (λ j. f j ≡ g j) n i k (omega (arith, rest, last)) (sum_pinned n f g below (omega (arith, rest, last)) i)
  where
    below : (j : ℕ) → j < n → f j ≤ g j
    below j k = h j (omega arith)

    last : f n ≤ g n
    last = h n (omega arith)

    rest : sum_to n f ≤ sum_to n g
    rest = sum_le n f g below

pub term_le : (n : ℕ) (f : ℕ → ℕ) (i : ℕ) → i < n → f i ≤ sum_to n f
unfolding sum_to
term_le zero f i k = omega arith
term_le (suc n) f i k = upto (λ j. f j ≤ sum_to n f + f n) n i k (omega arith) (λ y. omega (arith, term_le n f i y))

pub every_at : (n : ℕ) (f : ℕ → Bool) → every n f ≡ true → (i : ℕ) → i < n → f i ≡ true
unfolding every
every_at zero f e i k = absurd (omega arith)
every_at (suc n) f e i k = upto (λ j. f j ≡ true) n i k (and_parts (every n f) (f n) e).1 (every_at n f (and_parts (every n f) (f n) e).0 i)

pub every_from : (n : ℕ) (f : ℕ → Bool) → ((i : ℕ) → i < n → f i ≡ true) → every n f ≡ true
unfolding every
every_from zero f h = refl
every_from (suc n) f h = and_from (every n f) (f n) (every_from n f (λ i k. h i (omega arith))) (h n (omega arith))

pub none≢some : {A : Type 0} {x : A} → none ≡ some x → ⊥
none≢some e = cc

pub some_inj : {A : Type 0} {x y : A} → some x ≡ some y → x ≡ y
some_inj e = cc

pub ok_inj : {A : Type 0} {x y : A} → ok x ≡ ok y → x ≡ y
ok_inj e = cc

pub err_inj : {A : Type 0} {x y : Fault} → ◌≡◌ {A = Outcome A} (err x) (err y) → x ≡ y
err_inj e = cc

-- The cause in an equation of faults.
pub same_cause : {c d : Cause} {p q : ℕ} → fault c p ≡ fault d q → c ≡ d
same_cause e = ap (λ r. r.cause) e

pub err≢ok : {A : Type 0} {x : A} {r : Fault} → err r ≡ ok x → ⊥
err≢ok e = cc

-- An accepted answer of two steps had both accepted.
pub bind_ok : {A B : Type 0} (x : Outcome A) (f : A → Outcome B) {y : B} → bind x f ≡ ok y → (z : A) × (x ≡ ok z) × (f z ≡ ok y)
unfolding bind
bind_ok (ok z) f e = (z, refl, e)
bind_ok (err r) f e = absurd (err≢ok e)

pub cond_ok : {A : Type 0} (b : Bool) (u : Outcome A) (r : Fault) {y : A} → cond b u (err r) ≡ ok y → (b ≡ true) × (u ≡ ok y)
cond_ok true u r e = (refl, e)
cond_ok false u r e = absurd (err≢ok e)

-- The lowest place of a test, or none.
pub first_none : (n : ℕ) (f : ℕ → Bool) → first n f ≡ none → (i : ℕ) → i < n → f i ≡ false
unfolding first
first_none zero f e i k = absurd (omega arith)
first_none (suc n) f e i k = go (first n f) refl (f n) refl e (first_none n f)
  where
    go : (o : Option ℕ) → first n f ≡ o → (b : Bool) → f n ≡ b → or_last n o b ≡ none → (first n f ≡ none → (i : ℕ) → i < n → f i ≡ false) → f i ≡ false
    go (some x) p b q r ih = absurd (none≢some (sym r))
    go none p true q r ih = absurd (none≢some (sym r))
    go none p false q r ih = upto (λ j. f j ≡ false) n i k q (ih p i)

pub none_first : (n : ℕ) (f : ℕ → Bool) → ((i : ℕ) → i < n → f i ≡ false) → first n f ≡ none
unfolding first
none_first zero f h = refl
none_first (suc n) f h = rw (none_first n f (λ i k. h i (omega arith)), h n (omega arith))

pub first_some : (n : ℕ) (f : ℕ → Bool) (x : ℕ) → first n f ≡ some x → (x < n) × (f x ≡ true) × ((i : ℕ) → i < x → f i ≡ false)
unfolding first
first_some zero f x e = absurd (none≢some e)
first_some (suc n) f x e = go (first n f) refl (f n) refl e (first_some n f x)
  where
    go :
        (o : Option ℕ) → first n f ≡ o → (b : Bool) → f n ≡ b → or_last n o b ≡ some x → (first n f ≡ some x → (x < n) × (f x ≡ true) × ((i : ℕ) → i < x → f i ≡ false))
        → (x < suc n) × (f x ≡ true) × ((i : ℕ) → i < x → f i ≡ false)
    go (some y) p b q r ih = let h = ih (p ∙ r) in (omega (arith, h.0), h.1, h.2)
    go none p true q r ih =
        let y : n ≡ x = some_inj r in
        (omega arith, subst (λ j. f j ≡ true) y q, λ i k. first_none n f p i (omega arith))
    go none p false q r ih = absurd (none≢some r)

-- One term one larger, the others the same.
pub sum_bump : (n : ℕ) (f g : ℕ → ℕ) (j : ℕ) → j < n → g j ≡ suc (f j) → ((i : ℕ) → i < n → (i ≡ j → ⊥) → g i ≡ f i) → sum_to n g ≡ suc (sum_to n f)
unfolding sum_to
sum_bump zero f g j k e h = absurd (omega arith)
sum_bump (suc n) f g j k e h = go (cases_lt j n) (λ y. sum_bump n f g j y e (λ i z. h i (omega arith)))
  where
    go : (j < n) ⊎ (n ≤ j) → (j < n → sum_to n g ≡ suc (sum_to n f)) → sum_to n g + g n ≡ suc (sum_to n f + f n)
    go (inl y) ih = omega (arith, ih y, h n (omega arith) (λ z. omega arith))
    go (inr y) ih =
        let z : j ≡ n = omega arith in
        omega (arith, subst (λ m. g m ≡ suc (f m)) z e, sum_same n g f (λ i w. h i (omega arith) (λ x. omega arith)))

pub sum_zero : (n : ℕ) (f : ℕ → ℕ) → ((i : ℕ) → i < n → f i ≡ 0) → sum_to n f ≡ 0
unfolding sum_to
sum_zero zero f h = refl
sum_zero (suc n) f h = omega (arith, sum_zero n f (λ i k. h i (omega arith)), h n (omega arith))

-- A test that fails at one place does not pass everywhere.
pub every_fails : (n : ℕ) (f : ℕ → Bool) (i : ℕ) → i < n → f i ≡ false → every n f ≡ false
every_fails n f i h e = go (every n f) refl
  where
    go : (b : Bool) → every n f ≡ b → b ≡ false
    go true u = absurd (both_ways (f i) e (every_at n f u i h))
    go false u = refl

-- What a test of each element of a list answered, by places.
pub every_listed : {A : Type 0} (n : ℕ) (p : A → Bool) (xs : List A) (d : A) (r : Bool) → length xs ≡ n → MatchBool r (AllWithin (λ x. p x ≡ true) xs 0 (length xs)) ((k : ℕ) × (k < length xs) × HoldsAt (λ x. p x ≡ false) xs k) → r ≡ every n (λ i. p (get_or xs i d))
every_listed n p xs d true e h = sym (every_from n (λ i. p (get_or xs i d)) (λ i k. h i d (omega arith) (omega (arith, e))))
every_listed n p xs d false e h = sym (every_fails n (λ i. p (get_or xs i d)) h.0 (omega (arith, e, h.1)) (h.2 d))

pub every_same : (n : ℕ) (f g : ℕ → Bool) → ((i : ℕ) → i < n → f i ≡ g i) → every n f ≡ every n g
unfolding every
every_same zero f g h = refl
every_same (suc n) f g h = rw (every_same n f g (λ i k. h i (omega arith)), h n (omega arith))
