-- Hexadecimal bytes and keys.
use Rattle.std.proofs.Common.{◌≡◌, ℕ, ◌+◌, ◌-◌, ◌*◌, ◌<◌, ◌≤◌, ◌⊎◌, List, [], ◌∷◌, ◌++◌, length, get_or, take, drop, sym, refl, ap, ◌∙◌, subst, append-nil, arith}
use Rattle.std.proofs.lemmas.List.{take_rest}
use Rattle.text.specs.declared.types.KeyPair.{KeyPair}
use Rattle.text.specs.Spelling.{Hex, HexByte, Key, Keys}
use Rattle.text.specs.Taking.{Front, Any}
use Rattle.text.proofs.Pieces.{Taken, taken_each, each_taken, taken_none, taken_same}

hex_same : (c v w : ℕ) → Hex c v → Hex c w → v ≡ w
hex_same c v w p q = go p.code q.code
  where
    go : ((v < 10) × (c ≡ 48 + v)) ⊎ ((10 ≤ v) × ((c ≡ 87 + v) ⊎ (c ≡ 55 + v))) → ((w < 10) × (c ≡ 48 + w)) ⊎ ((10 ≤ w) × ((c ≡ 87 + w) ⊎ (c ≡ 55 + w))) → v ≡ w
    go h k = grind arith

pub byte_same : (t : List ℕ) (a b : ℕ) (u v : List ℕ) → Front HexByte Any t a u → Front HexByte Any t b v → (a ≡ b) × (u ≡ v)
byte_same t a b u v f g =
    let p = f.spells in
    let q = g.spells in
    let e : p.0 ∷ p.1 ∷ u ≡ q.0 ∷ q.1 ∷ v = sym (f.split ∙ ap (λ (x : List ℕ). x ++ u) p.4) ∙ (g.split ∙ ap (λ (x : List ℕ). x ++ v) q.4) in
    let ec : p.0 ≡ q.0 = cc in
    let ed : p.1 ≡ q.1 = cc in
    let h : p.2 ≡ q.2 = hex_same q.0 _ _ (subst (λ x. Hex x p.2) ec p.5) q.5 in
    let l : p.3 ≡ q.3 = hex_same q.1 _ _ (subst (λ x. Hex x p.3) ed p.6) q.6 in
    (omega (arith, p.7, q.7, h, l), cc)

-- the first two bytes
two_first : (t : List ℕ) → 2 ≤ length t → t ≡ get_or t 0 0 ∷ get_or t 1 0 ∷ take (length t - 2) (drop 2 t)
two_first [] h = let z : ⊥ = omega arith in absurd z
two_first (c ∷ []) h = let z : ⊥ = omega arith in absurd z
two_first (c ∷ d ∷ t) h = ap (λ (x : List ℕ). c ∷ d ∷ x) (sym (take_rest (c ∷ d ∷ t) 2))

module _ (t : List ℕ) (long : 2 ≤ length t) where
  pub byte_here : (h l : ℕ) → Hex (get_or t 0 0) h → Hex (get_or t 1 0) l → Front HexByte Any t (16 * h + l) (take (length t - 2) (drop 2 t))
  byte_here h l p q = record { front = get_or t 0 0 ∷ get_or t 1 0 ∷ []; split = two_first t long; spells = (get_or t 0 0, get_or t 1 0, h, l, refl, p, q, refl); follows = tt }

whole : (t : List ℕ) (a : ℕ) (rest : List ℕ) (f : Front HexByte Any t a rest) → t ≡ f.spells.0 ∷ f.spells.1 ∷ rest
whole t a rest f = f.split ∙ ap (λ (x : List ℕ). x ++ rest) f.spells.4

pub byte_short : (t : List ℕ) → length t < 2 → (a : ℕ) (rest : List ℕ) → Front HexByte Any t a rest → ⊥
byte_short t h a rest f = omega (arith, ap length (whole t a rest f))

pub byte_no_high : (t : List ℕ) → ((v : ℕ) → Hex (get_or t 0 0) v → ⊥) → (a : ℕ) (rest : List ℕ) → Front HexByte Any t a rest → ⊥
byte_no_high t bad a rest f = bad _ (subst (λ x. Hex x f.spells.2) (sym (ap (λ (x : List ℕ). get_or x 0 0) (whole t a rest f))) f.spells.5)

pub byte_no_low : (t : List ℕ) → ((v : ℕ) → Hex (get_or t 1 0) v → ⊥) → (a : ℕ) (rest : List ℕ) → Front HexByte Any t a rest → ⊥
byte_no_low t bad a rest f = bad _ (subst (λ x. Hex x f.spells.3) (sym (ap (λ (x : List ℕ). get_or x 1 0) (whole t a rest f))) f.spells.6)

-- sixteen bytes
key_taken : (t : List ℕ) (k : List ℕ) (rest : List ℕ) → Front Key Any t k rest → Taken HexByte Any t k rest
key_taken t k rest f = subst (λ (x : List ℕ). Taken HexByte Any x k rest) (sym f.split) (each_taken HexByte Any (λ _ _ _ _. tt) f.front k rest f.spells.each tt)

pub key_here : (t : List ℕ) (k : List ℕ) (rest : List ℕ) → length k ≡ 16 → Taken HexByte Any t k rest → Front Key Any t k rest
key_here t k rest n h = let e = taken_each HexByte Any t k rest h in record { front = e.0; split = e.1; spells = record { many = n; each = e.2 }; follows = tt }

pub key_none : (t : List ℕ) (so_far : List ℕ) (u : List ℕ) → length so_far < 16 → Taken HexByte Any t so_far u → ((a : ℕ) (rest : List ℕ) → Front HexByte Any u a rest → ⊥) → (k : List ℕ) (rest : List ℕ) → Front Key Any t k rest → ⊥
key_none t so_far u n h bad k rest f = taken_none HexByte Any byte_same t so_far u k rest h bad (key_taken t k rest f) (omega (arith, f.spells.many))

pub key_same : (t : List ℕ) (j k : List ℕ) (u v : List ℕ) → Front Key Any t j u → Front Key Any t k v → (j ≡ k) × (u ≡ v)
key_same t j k u v f g = taken_same HexByte Any byte_same t j u k v (key_taken t j u f) (key_taken t k v g) (f.spells.many ∙ sym g.spells.many)

-- two keys and the end
module _ (t : List ℕ) (k : KeyPair) (h : Keys t k) where
  pub mac_front : Front Key Any t k.mac h.1
  mac_front = record { front = h.0; split = h.2; spells = h.3; follows = tt }

  pub pad_front : (u : List ℕ) → h.1 ≡ u → Front Key Any u k.pad []
  pad_front u e = record { front = h.1; split = sym e ∙ sym (append-nil h.1); spells = h.4; follows = tt }

pub keys_no_pad : (t m u : List ℕ) → Front Key Any t m u → ((a : List ℕ) (rest : List ℕ) → Front Key Any u a rest → ⊥) → (k : KeyPair) → Keys t k → ⊥
keys_no_pad t m u f bad k h = bad k.pad [] (pad_front t k h u (sym (key_same t m k.mac u h.1 f (mac_front t k h)).1))

pub keys_more : (t m u p v : List ℕ) → Front Key Any t m u → Front Key Any u p v → (v ≡ [] → ⊥) → (k : KeyPair) → Keys t k → ⊥
keys_more t m u p v f g some k h = some (key_same u p k.pad v [] g (pad_front t k h u (sym (key_same t m k.mac u h.1 f (mac_front t k h)).1))).1

pub keys_here : (t m u p v : List ℕ) → Front Key Any t m u → Front Key Any u p v → v ≡ [] → Keys t (record { mac = m; pad = p })
keys_here t m u p v f g e = (f.front, u, f.split, f.spells, subst (λ (x : List ℕ). Key x p) (sym (g.split ∙ ap (λ (x : List ℕ). g.front ++ x) e ∙ append-nil g.front)) g.spells)
