-- Reading a number digit by digit.
use Rattle.std.proofs.Common.{◌≡◌, ℕ, ◌+◌, ◌^◌, ◌<◌, ◌≤◌, List, [], ◌∷◌, ◌++◌, length, get_or, drop, sym, refl, ap, ◌∙◌, subst, inl, inr, append-nil, arith}
use Rattle.std.proofs.lemmas.List.{at_drop_more, at_drop_all}
use Rattle.text.specs.Spelling.{Each, Digit, Decimal, Spaced, Numbers, then_digit, read_on}
use Rattle.text.specs.Taking.{Stops, Cut, Front}
use Rattle.text.proofs.Cuts.{same_cut, digits_lack}
use Rattle.text.proofs.Pieces.{Taken, taken_each, each_taken_all, taken_none, taken_same}

-- more digits make no number smaller
read_on_le : (n : ℕ) (ds : List ℕ) → n ≤ read_on n ds
read_on_le n [] = omega arith
read_on_le n (c ∷ cs) = omega (arith, read_on_le (then_digit n c) cs)

module _ (t : List ℕ) (i n : ℕ) (inside : i < length t) (so_far : read_on n (drop i t) ≡ read_on 0 t) where
  -- the value behind the digit at i
  pub read_more : read_on (then_digit n (get_or t i 0)) (drop (i + 1) t) ≡ read_on 0 t
  read_more = sym (at_drop_more (read_on n) t i 0 inside) ∙ so_far

  -- a byte that is no digit, or a value that does not fit, spoils the whole
  pub read_none : (Digit (get_or t i 0) → then_digit n (get_or t i 0) < 2 ^ 64 → ⊥) → (a : ℕ) → Decimal t a → ⊥
  read_none bad a d = bad (d.digits i inside) (omega (arith, read_on_le (then_digit n (get_or t i 0)) (drop (i + 1) t), read_more, d.value, d.fits))

pub read_all : (t : List ℕ) (i n : ℕ) → length t ≤ i → read_on n (drop i t) ≡ read_on 0 t → n ≡ read_on 0 t
read_all t i n past so_far = sym (at_drop_all (read_on n) t i past) ∙ so_far

no_digit : Digit 32 → ⊥
no_digit h = omega (arith, h.0)

-- one space and a number, up to the next space
module _ (t d w r : List ℕ) (e : t ≡ 32 ∷ d) (c : Cut 32 d w r) where
  pub spaced_here : (a : ℕ) → Decimal w a → Front Spaced (Stops 32) t a r
  spaced_here a n = record { front = 32 ∷ w; split = e ∙ ap (λ (x : List ℕ). 32 ∷ x) c.split; spells = (w, refl, n); follows = c.stops }

  pub spaced_none : ((a : ℕ) → Decimal w a → ⊥) → (a : ℕ) (rest : List ℕ) → Front Spaced (Stops 32) t a rest → ⊥
  spaced_none bad a rest f =
      let ds = f.spells.0 in
      let g : 32 ∷ d ≡ 32 ∷ (ds ++ rest) = sym e ∙ f.split ∙ ap (λ (x : List ℕ). x ++ rest) f.spells.1 in
      let k : d ≡ ds ++ rest = cc in
      let same = same_cut 32 w ds r rest (sym c.split ∙ k) c.lacks (digits_lack 32 ds a f.spells.2 no_digit) c.stops f.follows in
      bad a (subst (λ (x : List ℕ). Decimal x a) (sym same.0) f.spells.2)

pub spaced_same : (t : List ℕ) (a b : ℕ) (u v : List ℕ) → Front Spaced (Stops 32) t a u → Front Spaced (Stops 32) t b v → (a ≡ b) × (u ≡ v)
spaced_same t a b u v f g =
    let ds = f.spells.0 in
    let es = g.spells.0 in
    let k : 32 ∷ (ds ++ u) ≡ 32 ∷ (es ++ v) = sym (f.split ∙ ap (λ (x : List ℕ). x ++ u) f.spells.1) ∙ (g.split ∙ ap (λ (x : List ℕ). x ++ v) g.spells.1) in
    let j : ds ++ u ≡ es ++ v = cc in
    let same = same_cut 32 ds es u v j (digits_lack 32 ds a f.spells.2 no_digit) (digits_lack 32 es b g.spells.2 no_digit) f.follows g.follows in
    (f.spells.2.value ∙ ap (read_on 0) same.0 ∙ sym g.spells.2.value, same.1)

pub spaced_first : (p rest : List ℕ) (a : ℕ) → Spaced p a → Stops 32 (p ++ rest)
spaced_first p rest a s = inr (s.0 ++ rest, ap (λ (x : List ℕ). x ++ rest) s.1)

-- so many numbers and the end
module _ (n : ℕ) (t so_far u : List ℕ) (k : Taken Spaced (Stops 32) t so_far u) where
  pub numbers_none : length so_far < n → ((a : ℕ) (rest : List ℕ) → Front Spaced (Stops 32) u a rest → ⊥) → (ns : List ℕ) → Numbers n t ns → ⊥
  numbers_none h bad ns m = taken_none Spaced (Stops 32) spaced_same t so_far u ns [] k bad (each_taken_all Spaced (Stops 32) spaced_first t ns m.each (inl refl)) (omega (arith, m.many))

  pub numbers_more : length so_far ≡ n → (u ≡ [] → ⊥) → (ns : List ℕ) → Numbers n t ns → ⊥
  numbers_more h some ns m = some (taken_same Spaced (Stops 32) spaced_same t so_far u ns [] k (each_taken_all Spaced (Stops 32) spaced_first t ns m.each (inl refl)) (h ∙ sym m.many)).1

  pub numbers_here : length so_far ≡ n → u ≡ [] → Numbers n t so_far
  numbers_here h e =
      let q = taken_each Spaced (Stops 32) t so_far u k in
      record { many = h; each = subst (λ (x : List ℕ). Each Spaced x so_far) (sym (q.1 ∙ ap (λ (x : List ℕ). q.0 ++ x) e ∙ append-nil q.0)) q.2 }
