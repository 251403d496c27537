-- Reading a step: which text is none.
use Rattle.std.proofs.Common.{◌≡◌, ℕ, cond, eqb, ◌⊎◌, List, [], ◌∷◌, ◌++◌, get_or, Some, None, codes, Option, sym, refl, ap, ◌∙◌, subst, inl, inr, arith, lit<}
use Rattle.std.proofs.lemmas.List.{append_cancel_left}
use Rattle.std.proofs.lemmas.Bool.{cases_eq}
use Rattle.text.specs.Spelling.{Reads, Unambiguous, After, Decimal, Numbers}
use Rattle.text.proofs.Single.{decimal_once, numbers_once, after_once}
use Rattle.script.specs.Script.{Limit, One, letter_of, Arguments, Lettered, StepLine}
use Rattle.script.specs.declared.types.Step.{Step}
use Rattle.script.specs.declared.types.Step.TheVariants.{Read, Write, Flush, Restart, Recharge, Copy, Put}

-- numbers, as the code takes them from an array
pub one_word : (u ns : List ℕ) → Numbers 1 u ns → Numbers 1 u (get_or ns 0 0 ∷ [])
one_word u [] h = let z : ⊥ = omega (arith, h.many) in absurd z
one_word u (a ∷ []) h = h
one_word u (a ∷ b ∷ ns) h = let z : ⊥ = omega (arith, h.many) in absurd z

pub two_words : (u ns : List ℕ) → Numbers 2 u ns → Numbers 2 u (get_or ns 0 0 ∷ get_or ns 1 0 ∷ [])
two_words u [] h = let z : ⊥ = omega (arith, h.many) in absurd z
two_words u (a ∷ []) h = let z : ⊥ = omega (arith, h.many) in absurd z
two_words u (a ∷ b ∷ []) h = h
two_words u (a ∷ b ∷ c ∷ ns) h = let z : ⊥ = omega (arith, h.many) in absurd z

pub no_limit : (t : List ℕ) → (t ≡ codes "none" → ⊥) → ((n : ℕ) → Decimal t n → ⊥) → (l : Option ℕ) → Limit t l → ⊥
no_limit t other bad (Some n) h = bad n h
no_limit t other bad None h = other h

-- how many numbers stand behind a letter: 3 for what is no number
abbrev pub arity : ℕ → ℕ
arity c = cond (eqb c 114) 1 (cond (eqb c 119) 2 (cond (eqb c 115) 0 (cond (eqb c 100) 0 (cond (eqb c 107) 1 (cond (eqb c 109) 1 3)))))

module _ (c : ℕ) (u : List ℕ) where
  pub no_one : arity c ≡ 1 → ((a : ℕ) → One u a → ⊥) → (s : Step) → Lettered c u s → ⊥
  no_one n bad (Read a) h = bad a h.1
  no_one n bad (Write a b) h = omega (arith, ap arity h.0, n)
  no_one n bad Flush h = omega (arith, ap arity h.0, n)
  no_one n bad Restart h = omega (arith, ap arity h.0, n)
  no_one n bad (Recharge l) h = omega (arith, ap arity h.0, n)
  no_one n bad (Copy a) h = bad a h.1
  no_one n bad (Put a) h = bad a h.1

  pub no_two : arity c ≡ 2 → ((ns : List ℕ) → Numbers 2 u ns → ⊥) → (s : Step) → Lettered c u s → ⊥
  no_two n bad (Read a) h = omega (arith, ap arity h.0, n)
  no_two n bad (Write a b) h = bad _ h.1
  no_two n bad Flush h = omega (arith, ap arity h.0, n)
  no_two n bad Restart h = omega (arith, ap arity h.0, n)
  no_two n bad (Recharge l) h = omega (arith, ap arity h.0, n)
  no_two n bad (Copy a) h = omega (arith, ap arity h.0, n)
  no_two n bad (Put a) h = omega (arith, ap arity h.0, n)

-- a step's line, by what stands behind its prefix
pub no_letter : (t u : List ℕ) → t ≡ codes "step=" ++ u → ((p : ℕ × List ℕ) → u ≡ p.0 ∷ p.1 → ⊥) → (s : Step) → StepLine t s → ⊥
no_letter t u e bad s h = bad (letter_of s, h.0) (append_cancel_left (codes "step=") _ _ (sym e ∙ h.1))

pub step_read : (t u : List ℕ) (c : ℕ) (v : List ℕ) → t ≡ codes "step=" ++ u → u ≡ c ∷ v → (r : Option Step) → Reads (Lettered c) v r → Reads StepLine t r
step_read t u c v e f (Some s) h = (v, e ∙ ap (λ (x : List ℕ). codes "step=" ++ x) (f ∙ ap (λ x. x ∷ v) (sym h.0)), h.1)
step_read t u c v e f None h = λ s w.
    let g : c ∷ v ≡ letter_of s ∷ w.0 = sym f ∙ append_cancel_left (codes "step=") _ _ (sym e ∙ w.1) in
    let k : v ≡ w.0 = cc in
    let l : letter_of s ≡ c = cc in
    h s (l, subst (λ (x : List ℕ). Arguments x s) (sym k) w.2)

-- a step by its letter and its numbers
abbrev rebuilt : ℕ → List ℕ → Step
rebuilt c ns =
    cond (eqb c 114) (Read (get_or ns 0 0)) (cond (eqb c 119) (Write (get_or ns 0 0) (get_or ns 1 0)) (cond (eqb c 115) Flush (cond (eqb c 100) Restart (cond (eqb c 107) (Copy (get_or ns 0 0)) (Put (get_or ns 0 0))))))

none_there : (u : List ℕ) → u ≡ [] → Numbers 0 u []
none_there u e = record { many = refl; each = e }

module _ (u : List ℕ) where
  numbered : (s : Step) → (letter_of s ≡ 112 → ⊥) → Arguments u s → (ns : List ℕ) × (s ≡ rebuilt (letter_of s) ns) × Numbers (arity (letter_of s)) u ns
  numbered (Read a) n h = (a ∷ [], refl, h)
  numbered (Write a b) n h = (a ∷ b ∷ [], refl, h)
  numbered Flush n h = ([], refl, none_there u h)
  numbered Restart n h = ([], refl, none_there u h)
  numbered (Recharge l) n h = absurd (n refl)
  numbered (Copy a) n h = (a ∷ [], refl, h)
  numbered (Put a) n h = (a ∷ [], refl, h)

  limited : (s : Step) → letter_of s ≡ 112 → Arguments u s → (l : Option ℕ) × (s ≡ Recharge l) × After (codes " ") Limit u l
  limited (Read a) e h = let z : ⊥ = omega (arith, e) in absurd z
  limited (Write a b) e h = let z : ⊥ = omega (arith, e) in absurd z
  limited Flush e h = let z : ⊥ = omega (arith, e) in absurd z
  limited Restart e h = let z : ⊥ = omega (arith, e) in absurd z
  limited (Recharge l) e h = (l, refl, h)
  limited (Copy a) e h = let z : ⊥ = omega (arith, e) in absurd z
  limited (Put a) e h = let z : ⊥ = omega (arith, e) in absurd z

no_number : (t : List ℕ) (n : ℕ) → Decimal t n → t ≡ codes "none" → ⊥
no_number t n h e = let d = subst (λ (x : List ℕ). Decimal x n) e h in omega (arith, (d.digits 0 (lit< tt)).1)

limit_once : Unambiguous Limit
limit_once t (Some a) (Some b) h k = ap Some (decimal_once t a b h k)
limit_once t (Some a) None h k = absurd (no_number t a h k)
limit_once t None (Some b) h k = absurd (no_number t b k h)
limit_once t None None h k = refl

-- behind one letter, one step
arguments_once : (u : List ℕ) (r s : Step) → letter_of r ≡ letter_of s → (letter_of s ≡ 112) ⊎ (letter_of s ≡ 112 → ⊥) → Arguments u r → Arguments u s → r ≡ s
arguments_once u r s e (inl f) h k =
    let p = limited u r (e ∙ f) h in
    let q = limited u s f k in
    p.1 ∙ ap Recharge (after_once (codes " ") Limit limit_once u p.0 q.0 p.2 q.2) ∙ sym q.1
arguments_once u r s e (inr n) h k =
    let p = numbered u r (λ f. n (sym e ∙ f)) h in
    let q = numbered u s n k in
    let m = numbers_once (arity (letter_of s)) u p.0 q.0 (subst (λ c. Numbers (arity c) u p.0) e p.2) q.2 in
    p.1 ∙ (λ i. rebuilt (e i) (m i)) ∙ sym q.1

pub step_once : Unambiguous StepLine
step_once t r s h k =
    let f : letter_of r ∷ h.0 ≡ letter_of s ∷ k.0 = append_cancel_left (codes "step=") _ _ (sym h.1 ∙ k.1) in
    let l : letter_of r ≡ letter_of s = cc in
    let u : h.0 ≡ k.0 = cc in
    arguments_once k.0 r s l (cases_eq (letter_of s) 112) (subst (λ (x : List ℕ). Arguments x r) u h.2) k.2
