-- The rounds and the round keys on columns, step by step as the loops take them.
use Rattle.std.proofs.Common.{◌≡◌, ℕ, zero, suc, ◌+◌, ◌<◌, ◌≤◌, List, [], map, length, get_or, sym, refl, ap, ap₂, ◌∙◌, subst, inl, inr, eq-or-lt_of_le, add-one, arith}
use Rattle.std.proofs.lemmas.List.{get_or-map, length-map}
use Rattle.std.proofs.lemmas.List.FromFn.{fill_by_all, get_or-map-range_with_len}
use denote.Param.Members.{Mut, Called}
use Rattle.std.specs.Array.{IsFromFnResultFrom, IsFromFnResult}
use Rattle.aes.specs.Field.{times}
use Rattle.aes.specs.Aes.{after, round, xor_blocks, rcon, round_key, round_keys, next_key}
use Rattle.aes.specs.Columns.{unpack}
use Rattle.aes.specs.declared.columns.Columns.{Columns}

pub rcon_more : (i : ℕ) → rcon (i + 1) ≡ times (rcon i) 2
unfolding rcon
rcon_more i = rw add-one refl

pub round_key_more : (key : List ℕ) (i : ℕ) → round_key key (i + 1) ≡ next_key (rcon i) (round_key key i)
unfolding round_key
round_key_more key i = ap (round_key key) (add-one i)

-- The round keys that a closure gives, where each call makes the next one from the last one and its constant.
keys_from : {F : Type 0} (g : Mut F (ℕ × Unit {0}) Columns) (last : F → Columns) (constant : F → ℕ) (step : (f : F) (i : ℕ) (y : Columns) (q : F) → Called g f (i, tt) y q → (unpack y ≡ next_key (constant f) (unpack (last f))) × (last q ≡ y) × (constant q ≡ times (constant f) 2)) (key : List ℕ) (ks : List Columns) (n : ℕ) (f : F) (i : ℕ) → unpack (last f) ≡ round_key key i → constant f ≡ rcon i → i + n ≤ length ks → IsFromFnResultFrom g f ks i n → (j : ℕ) → i ≤ j → j < i + n → get_or (map unpack ks) j [] ≡ round_key key (j + 1)
keys_from g last constant step key ks zero f i e k len h j le lt = absurd (omega arith)
keys_from g last constant step key ks (suc n) f i e k len (q, y, at, called, more) j le lt =
    let s = step f i y q called in
    let here : unpack y ≡ round_key key (i + 1) = s.0 ∙ ap₂ next_key k e ∙ sym (round_key_more key i) in
    let made : get_or (map unpack ks) i [] ≡ round_key key (i + 1) = get_or-map unpack ks i y [] (omega arith) ∙ ap unpack (at.1 y) ∙ here in
    let next : constant q ≡ rcon (i + 1) = s.2 ∙ ap (λ (c : ℕ). times c 2) k ∙ sym (rcon_more i) in
    elim (eq-or-lt_of_le le) as (λ _. get_or (map unpack ks) j [] ≡ round_key key (j + 1)) [
      | inl same ↦ subst (λ (m : ℕ). get_or (map unpack ks) m [] ≡ round_key key (m + 1)) same made
      | inr above ↦ keys_from g last constant step key ks n q (i + 1) (ap unpack s.1 ∙ here) next (omega arith) more j (omega arith) (omega arith)
    ]

pub keys_made : {F : Type 0} (g : Mut F (ℕ × Unit {0}) Columns) (last : F → Columns) (constant : F → ℕ) (step : (f : F) (i : ℕ) (y : Columns) (q : F) → Called g f (i, tt) y q → (unpack y ≡ next_key (constant f) (unpack (last f))) × (last q ≡ y) × (constant q ≡ times (constant f) 2)) (key : List ℕ) (ks : List Columns) (f : F) → unpack (last f) ≡ key → constant f ≡ 1 → IsFromFnResult g f ks 10 → map unpack ks ≡ round_keys key
unfolding round_keys round_key rcon
keys_made g last constant step key ks f e k h =
    fill_by_all (λ j. round_key key (j + 1)) (map unpack ks) 10 [] (simp length-map h.long)
    (λ j lt. keys_from g last constant step key ks 10 f 0 e k (omega (arith, h.long)) h.each j (omega arith) (omega arith))

-- Round key i + 1, where the expanded key has it.
pub key_at : (key : List ℕ) (ks : List Columns) (i : ℕ) (d : Columns) → length ks ≡ 10 → map unpack ks ≡ round_keys key → i < 10 → unpack (get_or ks i d) ≡ round_key key (i + 1)
unfolding round_keys
key_at key ks i d len e h =
    sym (get_or-map unpack ks i d [] (omega arith)) ∙ ap (λ (xs : List (List ℕ)). get_or xs i []) e ∙ get_or-map-range_with_len (λ j. round_key key (j + 1)) 0 10 i i [] h (omega arith)

-- No round yet.
pub after_none : (key block : List ℕ) (b k s : Columns) → unpack b ≡ block → unpack k ≡ key → unpack s ≡ xor_blocks (unpack b) (unpack k) → unpack s ≡ after key block 0
unfolding after round_key
after_none key block b k s e f g = cc

-- One round more.
pub after_more : (key block : List ℕ) (i : ℕ) (s k t : Columns) → unpack s ≡ after key block i → unpack k ≡ round_key key (i + 1) → unpack t ≡ round (unpack s) (unpack k) → unpack t ≡ after key block (i + 1)
unfolding after
after_more key block i s k t e f r =
    let step : after key block (i + 1) ≡ round (after key block i) (round_key key (i + 1)) = rw add-one refl in
    cc
