-- For each input the program prints one text.
use Rattle.std.proofs.Common.{◌≡◌, ℕ, ◌+◌, List, [], ◌∷◌, ◌++◌, length, Some, None, codes, Option, sym, refl, ap, ◌∙◌, subst, arith, MatchOption}
use mathlib.Core.Option.{some}
use Rattle.std.proofs.lemmas.List.{append_cancel_left, same_from_push, ext_get_or}
use Rattle.board.specs.declared.types.Line.{Line as BoardLine}
use Rattle.suite.specs.Scheme.{Line, Scheme}
use Rattle.suite.specs.Words.{row as words_in, line_in}
use Rattle.text.specs.Spelling.{Reads, Unambiguous, Decimal, Numbers, Keys}
use Rattle.text.specs.Writing.{bad}
use Rattle.text.proofs.Single.{decimal_once, numbers_once, keys_once, after_once}
use Rattle.suite.specs.Kinds.{number_of}
use Rattle.suite.specs.declared.kind.SuiteKind.{SuiteKind}
use Rattle.suite.specs.declared.kind.SuiteKind.TheVariants.{Sip, Cmac}
use Rattle.seal.specs.Items.{letter, Asked, ItemLine, SuiteLine, KeyLine}
use Rattle.seal.specs.Answered.{Answered, answer_text, Rows, scheme_of, Keyed, Printed, Single}
use Rattle.seal.specs.declared.types.Kind.{Kind}
use Rattle.seal.specs.declared.types.Kind.TheVariants.{Data, Node}
use Rattle.seal.specs.declared.types.Item.{Item}
use Rattle.seal.specs.declared.types.Item.TheVariants.{Seal, Open}
use Rattle.seal.specs.declared.types.Answer.{Answer}
use Rattle.seal.specs.declared.types.Answer.TheVariants.{Sealed, Opened, Corrupt}

-- a letter has one kind, a number one suite
letter_same : (j k : Kind) → letter j ≡ letter k → j ≡ k
letter_same Data Data e = refl
letter_same Data Node e = let z : ⊥ = omega (arith, e) in absurd z
letter_same Node Data e = let z : ⊥ = omega (arith, e) in absurd z
letter_same Node Node e = refl

suite_same : (s t : SuiteKind) → number_of s ≡ number_of t → s ≡ t
suite_same Sip Sip e = refl
suite_same Sip Cmac e = let z : ⊥ = omega (arith, e) in absurd z
suite_same Cmac Sip e = let z : ⊥ = omega (arith, e) in absurd z
suite_same Cmac Cmac e = refl

asked_same : (word : List ℕ) (n : ℕ) (j k : Kind) (t ns ms : List ℕ) → Asked word j n t ns → Asked word k n t ms → (j ≡ k) × (ns ≡ ms)
asked_same word n j k t ns ms h w =
    let f : letter j ∷ h.0 ≡ letter k ∷ w.0 = append_cancel_left word _ _ (sym h.1 ∙ w.1) in
    let l : letter j ≡ letter k = cc in
    let u : h.0 ≡ w.0 = cc in
    (letter_same j k l, numbers_once n w.0 ns ms (subst (λ (x : List ℕ). Numbers n x ns) u h.2) w.2)

clash : (j k : Kind) (t ns ms : List ℕ) → Asked (codes "seal=") j 10 t ns → Asked (codes "open=") k 11 t ms → ⊥
clash j k t ns ms h w = let e = h.1 in let f = w.1 in let z : ◌≡◌ {A = ℕ} 115 111 = cc in omega (arith, z)

item_once : Unambiguous ItemLine
item_once t (Seal j n b) (Seal k m g) h w =
    let p = asked_same (codes "seal=") 10 j k t _ _ h w in
    let q = p.1 in
    let x : n.at ≡ m.at = cc in
    let y : n.counter ≡ m.counter = cc in
    let z : b ≡ g = cc in
    λ i. Seal (p.0 i) (record { at = x i; counter = y i }) (z i)
item_once t (Seal j n b) (Open k m l) h w = absurd (clash j k t _ _ h w)
item_once t (Open j n l) (Seal k m g) h w = absurd (clash k j t _ _ w h)
item_once t (Open j n l) (Open k m o) h w =
    let p = asked_same (codes "open=") 11 j k t _ _ h w in
    let q = p.1 in
    let x : n.at ≡ m.at = cc in
    let y : n.counter ≡ m.counter = cc in
    let r : l.body ++ (l.tag ∷ []) ≡ o.body ++ (o.tag ∷ []) = cc in
    let z = same_from_push l.body o.body l.tag o.tag r in
    λ i. Open (p.0 i) (record { at = x i; counter = y i }) (record { body = z.0 i; tag = z.1 i })

suite_once : Unambiguous SuiteLine
suite_once t a b h k = suite_same a b (after_once (codes "suite=") Decimal decimal_once t (number_of a) (number_of b) h k)

key_once : Unambiguous KeyLine
key_once = after_once (codes "key=") Keys keys_once

-- eight words are what they are as a function of their place
words_same : (ws vs : List ℕ) → length ws ≡ 8 → length vs ≡ 8 → words_in ws ≡ words_in vs → ws ≡ vs
words_same ws vs m n e = ext_get_or 0 ws vs (m ∙ sym n) (λ i _. ap (λ (f : ℕ → ℕ). f i) e)

line_same : (l m : BoardLine) → length l.body ≡ 8 → length m.body ≡ 8 → line_in l ≡ line_in m → l ≡ m
line_same l m j k e =
    let b = words_same l.body m.body j k (ap (λ (x : Line). x.words) e) in
    let t : l.tag ≡ m.tag = ap (λ (x : Line). x.tag) e in
    λ i. record { body = b i; tag = t i }

-- an item has one answer
answer_once : (S : Scheme) (i : Item) (a b : Answer) → Answered S i a → Answered S i b → a ≡ b
answer_once S (Seal k n b) (Sealed l) (Sealed m) h w = ap Sealed (line_same l m h.0 w.0 (h.1 ∙ sym w.1))
answer_once S (Seal k n b) (Sealed l) (Opened v) h w = absurd w
answer_once S (Seal k n b) (Sealed l) Corrupt h w = absurd w
answer_once S (Seal k n b) (Opened v) y h w = absurd h
answer_once S (Seal k n b) Corrupt y h w = absurd h
answer_once S (Open k n l) (Sealed m) y h w = absurd h
answer_once S (Open k n l) (Opened u) (Sealed m) h w = absurd w
answer_once S (Open k n l) (Opened u) (Opened v) h w =
    let e : some (words_in u) ≡ some (words_in v) = sym h.1 ∙ w.1 in
    let f : words_in u ≡ words_in v = cc in
    ap Opened (words_same u v h.0 w.0 f)
answer_once S (Open k n l) (Opened u) Corrupt h w = let e = h.1 in let z : ◌≡◌ {A = ℕ} 0 1 = cc in let y : ⊥ = omega arith in absurd y
answer_once S (Open k n l) Corrupt (Sealed m) h w = absurd w
answer_once S (Open k n l) Corrupt (Opened v) h w = let e = w.1 in let z : ◌≡◌ {A = ℕ} 0 1 = cc in let y : ⊥ = omega arith in absurd y
answer_once S (Open k n l) Corrupt Corrupt h w = refl

-- what is printed by the reading of a line, where that has one answer
by_once : {A : Type 0} (Spells : List ℕ → A → Type 0) → Unambiguous Spells → (t : List ℕ) (r s : Option A) → Reads Spells t r → Reads Spells t s → (b out other : List ℕ) (Next : A → List ℕ → Type 0) → ((a : A) (x y : List ℕ) → Next a x → Next a y → x ≡ y) → MatchOption r (out ≡ b) (λ a. Next a out) → MatchOption s (other ≡ b) (λ a. Next a other) → out ≡ other
by_once Spells once t (Some a) (Some c) h k b out other Next more x y = more c out other (subst (λ z. Next z out) (once t a c h k) x) y
by_once Spells once t (Some a) None h k b out other Next more x y = absurd (k a h)
by_once Spells once t None (Some c) h k b out other Next more x y = absurd (h c k)
by_once Spells once t None None h k b out other Next more x y = x ∙ sym y

rows_once : (S : Scheme) (n : ℕ) (ls : List (List ℕ)) → Single (Rows S n ls)
rows_once S n [] out other h k = h ∙ sym k
rows_once S n (l ∷ ls) out other h k =
    by_once ItemLine item_once l h.0 k.0 h.1 k.1 (bad n) out other
    (λ i o. (a : Answer) × (more : List ℕ) × Answered S i a × (o ≡ answer_text a ++ (10 ∷ more)) × Rows S (n + 1) ls more)
    (λ i x y p q. p.3 ∙ (λ j. answer_text (answer_once S i p.0 q.0 p.2 q.2 j) ++ (10 ∷ rows_once S (n + 1) ls p.1 q.1 p.4 q.4 j)) ∙ sym q.3)
    h.2 k.2

keyed_once : (s : SuiteKind) (ls : List (List ℕ)) → Single (Keyed s ls)
keyed_once s [] out other h k = h ∙ sym k
keyed_once s (l ∷ ls) out other h k =
    by_once KeyLine key_once l h.0 k.0 h.1 k.1 (bad 2) out other (λ p o. Rows (scheme_of s p) 3 ls o) (λ p. rows_once (scheme_of s p) 3 ls) h.2 k.2

pub printed_once : (ls : List (List ℕ)) → Single (Printed ls)
printed_once [] out other h k = h ∙ sym k
printed_once (l ∷ ls) out other h k =
    by_once SuiteLine suite_once l h.0 k.0 h.1 k.1 (bad 1) out other (λ s o. Keyed s ls o) (λ s. keyed_once s ls) h.2 k.2
