-- Pieces read one after another, each by a step that can go one way only.
use Rattle.std.specs.Option.{option_map}
use Rattle.std.proofs.Common.{Bor, None, ◌≡◌, ℕ, ◌<◌, ◌≤◌, List, [], ◌∷◌, ◌++◌, length, Some, Option, sym, refl, ap, ◌∙◌, subst, append_assoc, append-nil, arith, length-append}
use Rattle.text.specs.Spelling.{Each}
use Rattle.text.specs.Taking.{Front, InTurn, Takes, Fills, steps_of}

module _ {A : Type 0} (Spells : List ℕ → A → Type 0) (Follows : List ℕ → Type 0) where
  -- a text's steps: the values taken, and what is left
  abbrev pub Taken : List ℕ → List A → List ℕ → Type 0
  Taken t [] rest = t ≡ rest
  Taken t (a ∷ more) rest = (u : List ℕ) × Front Spells Follows t a u × Taken u more rest

  pub taken_more : (t : List ℕ) (ys : List A) (u : List ℕ) (a : A) (v : List ℕ) → Taken t ys u → Front Spells Follows u a v → Taken t (ys ++ (a ∷ [])) v
  taken_more t [] u a v k f = (v, subst (λ (x : List ℕ). Front Spells Follows x a v) (sym k) f, refl)
  taken_more t (y ∷ ys) u a v k f = (k.0, k.1, taken_more k.0 ys u a v k.2 f)

  pub taken_each : (t : List ℕ) (ys : List A) (u : List ℕ) → Taken t ys u → (p : List ℕ) × (t ≡ p ++ u) × Each Spells p ys
  taken_each t [] u k = ([], k, refl)
  taken_each t (y ∷ ys) u k =
      let f = k.1 in
      let q = taken_each k.0 ys u k.2 in
      (f.front ++ q.0, f.split ∙ ap (λ (x : List ℕ). f.front ++ x) q.1 ∙ sym (append_assoc f.front q.0 u), (f.front, q.0, refl, f.spells, q.2))

  -- what may follow may also begin with a piece
  module _ (first : (p rest : List ℕ) (a : A) → Spells p a → Follows (p ++ rest)) where
    each_follows : (t : List ℕ) (ys : List A) (u : List ℕ) → Each Spells t ys → Follows u → Follows (t ++ u)
    each_follows t [] u k h = subst (λ (x : List ℕ). Follows (x ++ u)) (sym k) h
    each_follows t (y ∷ ys) u k h = subst Follows (sym (ap (λ (x : List ℕ). x ++ u) k.2 ∙ append_assoc k.0 k.1 u)) (first k.0 (k.1 ++ u) y k.3)

    pub each_taken : (t : List ℕ) (ys : List A) (u : List ℕ) → Each Spells t ys → Follows u → Taken (t ++ u) ys u
    each_taken t [] u k h = ap (λ (x : List ℕ). x ++ u) k
    each_taken t (y ∷ ys) u k h =
        (k.1 ++ u, record { front = k.0; split = ap (λ (x : List ℕ). x ++ u) k.2 ∙ append_assoc k.0 k.1 u; spells = k.3; follows = each_follows k.1 ys u k.4 h }, each_taken k.1 ys u k.4 h)

    pub each_taken_all : (t : List ℕ) (ys : List A) → Each Spells t ys → Follows [] → Taken t ys []
    each_taken_all t ys k h = subst (λ (x : List ℕ). Taken x ys []) (append-nil t) (each_taken t ys [] k h)

  -- a step takes one value only
  module _ (unique : (t : List ℕ) (a b : A) (u v : List ℕ) → Front Spells Follows t a u → Front Spells Follows t b v → (a ≡ b) × (u ≡ v)) where
    pub taken_on : (t : List ℕ) (ys : List A) (u : List ℕ) (zs : List A) (v : List ℕ) → Taken t ys u → Taken t zs v → length ys ≤ length zs → (ws : List A) × (zs ≡ ys ++ ws) × Taken u ws v
    taken_on t [] u zs v j k h = (zs, refl, subst (λ (x : List ℕ). Taken x zs v) j k)
    taken_on t (y ∷ ys) u [] v j k h = let z : ⊥ = omega arith in absurd z
    taken_on t (y ∷ ys) u (z ∷ zs) v j k h =
        let e = unique t y z j.0 k.0 j.1 k.1 in
        let q = taken_on j.0 ys u zs v j.2 (subst (λ (x : List ℕ). Taken x zs v) (sym e.1) k.2) (omega arith) in
        (q.0, (λ i. sym e.0 i ∷ q.1 i), q.2)

    -- no step, no more values
    none_here : (u : List ℕ) (ws : List A) (v : List ℕ) → ((a : A) (x : List ℕ) → Front Spells Follows u a x → ⊥) → Taken u ws v → 0 < length ws → ⊥
    none_here u [] v stop k h = omega arith
    none_here u (w ∷ ws) v stop k h = stop w k.0 k.1

    pub taken_none : (t : List ℕ) (ys : List A) (u : List ℕ) (zs : List A) (v : List ℕ) → Taken t ys u → ((a : A) (x : List ℕ) → Front Spells Follows u a x → ⊥) → Taken t zs v → length ys < length zs → ⊥
    taken_none t ys u zs v j stop k h =
        let q = taken_on t ys u zs v j k (omega arith) in
        none_here u q.0 v stop q.2 (omega (arith, ap length q.1, length-append ys q.0))

    nothing_left : (ys : List A) (u : List ℕ) (zs ws : List A) (v : List ℕ) → zs ≡ ys ++ ws → length ys ≡ length zs → Taken u ws v → (ys ≡ zs) × (u ≡ v)
    nothing_left ys u zs [] v e h k = (sym (e ∙ append-nil ys), k)
    nothing_left ys u zs (w ∷ ws) v e h k = let z : ⊥ = omega (arith, ap length e, length-append ys (w ∷ ws)) in absurd z

    pub taken_same : (t : List ℕ) (ys : List A) (u : List ℕ) (zs : List A) (v : List ℕ) → Taken t ys u → Taken t zs v → length ys ≡ length zs → (ys ≡ zs) × (u ≡ v)
    taken_same t ys u zs v j k h =
        let q = taken_on t ys u zs v j k (omega arith) in
        nothing_left ys u zs q.0 v q.1 h q.2

module _ {A : Type 0} (Steps : List ℕ → Option (A × List ℕ) → Type 0) where
  -- one step more
  pub in_turn_more : (t : List ℕ) (ys : List A) (u : List ℕ) (a : A) (v : List ℕ) → InTurn Steps t ys u → Steps u (Some (a, v)) → InTurn Steps t (ys ++ (a ∷ [])) v
  in_turn_more t [] u a v k s = (v, subst (λ (x : List ℕ). Steps x (Some (a, v))) (sym k) s, refl)
  in_turn_more t (y ∷ ys) u a v k s = (k.0, k.1, in_turn_more k.0 ys u a v k.2 s)

-- a reader that takes a value as some text spells it, at all places or at too few
module _ {A : Type 0} (Answers : List ℕ → Option (A × Bor (List ℕ)) → Type 0) (Spells : List ℕ → A → Type 0) (Follows : List ℕ → Type 0) (takes : (t : List ℕ) (r : Option (A × Bor (List ℕ))) → Answers t r → Takes Spells Follows t (option_map (λ p. (p.0, p.1.now)) r)) where
  step_takes : (t : List ℕ) (o : Option (A × List ℕ)) → steps_of Answers t o → Takes Spells Follows t o
  step_takes t o s = subst (Takes Spells Follows t) s.2 (takes t s.0 s.1)

  pub filled : (t : List ℕ) (ys : List A) (u : List ℕ) → InTurn (steps_of Answers) t ys u → Taken Spells Follows t ys u
  filled t [] u k = k
  filled t (y ∷ ys) u k = (k.0, step_takes t (Some (y, k.0)) k.1, filled k.0 ys u k.2)

  pub unfilled : (t : List ℕ) (ys : List A) → Fills (steps_of Answers) t ys None → (done : List A) × (u : List ℕ) × (length done < length ys) × Taken Spells Follows t done u × ((a : A) (rest : List ℕ) → Front Spells Follows u a rest → ⊥)
  unfilled t ys k = (k.0, k.1, k.2, filled t k.0 k.1 k.3, step_takes k.1 None k.4)
