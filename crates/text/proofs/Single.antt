-- What numbers and keys are spelled by is theirs alone.
use Rattle.std.proofs.Common.{◌≡◌, ℕ, List, [], Some, None, Option, sym, refl, ap, ◌∙◌, subst, inl}
use Rattle.std.proofs.lemmas.List.{append_cancel_left}
use Rattle.text.specs.Spelling.{Reads, Unambiguous, After, Decimal, Spaced, Numbers, Keys}
use Rattle.text.specs.Taking.{Stops}
use Rattle.text.proofs.Pieces.{each_taken_all, taken_same}
use Rattle.text.proofs.Decimals.{spaced_same, spaced_first}
use Rattle.text.proofs.Hexes.{mac_front, pad_front, key_same}

pub decimal_once : Unambiguous Decimal
decimal_once t a b h k = h.value ∙ sym k.value

pub numbers_once : (n : ℕ) → Unambiguous (Numbers n)
numbers_once n t a b h k =
    (taken_same Spaced (Stops 32) spaced_same t a [] b [] (each_taken_all Spaced (Stops 32) spaced_first t a h.each (inl refl)) (each_taken_all Spaced (Stops 32) spaced_first t b k.each (inl refl)) (h.many ∙ sym k.many)).0

pub keys_once : Unambiguous Keys
keys_once t a b h k =
    let m = key_same t a.mac b.mac h.1 k.1 (mac_front t a h) (mac_front t b k) in
    let p = key_same k.1 a.pad b.pad [] [] (pad_front t a h k.1 m.1) (pad_front t b k k.1 refl) in
    λ i. record { mac = m.0 i; pad = p.0 i }

pub after_once : {A : Type 0} (p : List ℕ) (Spells : List ℕ → A → Type 0) → Unambiguous Spells → Unambiguous (After p Spells)
after_once p Spells once t a b h k = once k.0 a b (subst (λ (x : List ℕ). Spells x a) (append_cancel_left p h.0 k.0 (sym h.1 ∙ k.1)) h.2) k.2

-- so a reader has one answer
pub reads_once : {A : Type 0} (Spells : List ℕ → A → Type 0) → Unambiguous Spells → (t : List ℕ) (r s : Option A) → Reads Spells t r → Reads Spells t s → r ≡ s
reads_once Spells once t (Some a) (Some b) h k = ap Some (once t a b h k)
reads_once Spells once t (Some a) None h k = absurd (k a h)
reads_once Spells once t None (Some b) h k = absurd (h b k)
reads_once Spells once t None None h k = refl
