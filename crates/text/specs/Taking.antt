-- What one step of a reader takes from the front of a text.
use Rattle.std.specs.Option.{option_map}
use Rattle.std.specs.Borrow.{Bor}
use Rattle.std.specs.Prelude.{◌≡◌, ℕ, ◌<◌, ◌⊎◌, List, [], ◌∷◌, ◌++◌, length, Some, None, Option, ◌≢◌, slice_index}

-- A text whose front spells a value and whose rest may follow such a front.
pub record Front {A : Type 0} (Spells : List ℕ → A → Type 0) (Follows : List ℕ → Type 0) (t : List ℕ) (a : A) (rest : List ℕ) : Type 0 where
  pub front : List ℕ
  pub split : t ≡ front ++ rest
  pub spells : Spells front a
  pub follows : Follows rest

-- The value and the rest, where there is such a front.
abbrev pub Takes : {A : Type 0} → (List ℕ → A → Type 0) → (List ℕ → Type 0) → List ℕ → Option (A × List ℕ) → Type 0
Takes Spells Follows t (Some p) = Front Spells Follows t p.0 p.1
Takes {A} Spells Follows t None = (a : A) (rest : List ℕ) → Front Spells Follows t a rest → ⊥

-- Whatever follows.
abbrev pub Any : List ℕ → Type 0
Any t = Unit {0}

-- The end, or this byte.
abbrev pub Stops : ℕ → List ℕ → Type 0
Stops b t = (t ≡ []) ⊎ ((rest : List ℕ) × (t ≡ b ∷ rest))

-- No such byte.
abbrev pub Lacks : ℕ → List ℕ → Type 0
Lacks b t = (i : ℕ) → i < length t → slice_index t i ≢ b

-- A text cut before the first such byte, or at its end.
pub record Cut (b : ℕ) (t front rest : List ℕ) : Type 0 where
  pub split : t ≡ front ++ rest
  pub lacks : Lacks b front
  pub stops : Stops b rest

-- What the calls of a reader answer at a text, said of the texts behind its references.
abbrev pub steps_of : {A : Type 0} → (List ℕ → Option (A × Bor (List ℕ)) → Type 0) → List ℕ → Option (A × List ℕ) → Type 0
steps_of {A} Answers t o = (r : Option (A × Bor (List ℕ))) × Answers t r × (option_map (λ p. (p.0, p.1.now)) r ≡ o)

-- The values of steps one after another, and what they leave.
abbrev pub InTurn : {A : Type 0} → (List ℕ → Option (A × List ℕ) → Type 0) → List ℕ → List A → List ℕ → Type 0
InTurn Steps t [] rest = t ≡ rest
InTurn Steps t (a ∷ more) rest = (u : List ℕ) × Steps t (Some (a, u)) × InTurn Steps u more rest

-- A step gave each of these values, and this is left; or fewer steps gave values, and the next gave none.
abbrev pub Fills : {A : Type 0} → (List ℕ → Option (A × List ℕ) → Type 0) → List ℕ → List A → Option (List ℕ) → Type 0
Fills Steps t values (Some rest) = InTurn Steps t values rest
Fills {A} Steps t values None = (done : List A) × (u : List ℕ) × (length done < length values) × InTurn Steps t done u × Steps u None
