-- Reading an item: which line is none.
use Rattle.std.proofs.Common.{◌≡◌, ℕ, ◌+◌, ◌-◌, List, [], ◌∷◌, ◌++◌, length, get_or, take, drop, Some, None, codes, Option, sym, refl, ap, ◌∙◌, subst, arith}
use Rattle.std.proofs.lemmas.List.{append_cancel_left, take_more, take_all, get_or-drop, length-drop}
use Rattle.text.specs.Spelling.{Reads, Numbers}
use Rattle.seal.specs.Items.{letter, Head, Asked, ItemLine}
use Rattle.seal.specs.declared.types.Kind.{Kind}
use Rattle.seal.specs.declared.types.Item.{Item}
use Rattle.seal.specs.declared.types.Item.TheVariants.{Seal, Open}

-- a text that has none of the letters
pub no_kind : (t : List ℕ) → ((p : ℕ × List ℕ) → t ≡ p.0 ∷ p.1 → ⊥) → (q : Kind × List ℕ) → Head [] t q → ⊥
no_kind t bad q e = bad (letter q.0, q.1) e

pub head_behind : (word t u : List ℕ) → t ≡ word ++ u → (r : Option (Kind × List ℕ)) → Reads (Head []) u r → Reads (Head word) t r
head_behind word t u e (Some p) h = e ∙ ap (λ (x : List ℕ). word ++ x) h
head_behind word t u e None h = λ p f. h p (append_cancel_left word _ _ (sym e ∙ f))

-- the words of an item, as the list that the code reads
two_first : (ns : List ℕ) (n : ℕ) → length ns ≡ 2 + n → ns ≡ get_or ns 0 0 ∷ get_or ns 1 0 ∷ drop 2 ns
two_first [] n h = let z : ⊥ = omega arith in absurd z
two_first (a ∷ []) n h = let z : ⊥ = omega arith in absurd z
two_first (a ∷ b ∷ ns) n h = refl

pub seal_words : (u ns : List ℕ) → Numbers 10 u ns → Numbers 10 u (get_or ns 0 0 ∷ get_or ns 1 0 ∷ take 8 (drop 2 ns))
seal_words u ns h = subst (Numbers 10 u) (two_first ns 8 h.many ∙ ap (λ (x : List ℕ). get_or ns 0 0 ∷ get_or ns 1 0 ∷ x) (sym (take_all 8 (drop 2 ns) (omega (arith, length-drop 2 ns, h.many))))) h

-- at a key word, one kind and one rest
module _ (t : List ℕ) where
  abbrev Unread : List ℕ → ℕ → Type 0
  Unread word count = (k : Kind) (ns : List ℕ) → Asked word k count t ns → ⊥

  none_by : Unread (codes "seal=") 10 → Unread (codes "open=") 11 → (i : Item) → ItemLine t i → ⊥
  none_by s o (Seal k n b) w = s k _ w
  none_by s o (Open k n l) w = o k _ w

  no_head : (word : List ℕ) (count : ℕ) → ((p : Kind × List ℕ) → Head word t p → ⊥) → Unread word count
  no_head word count bad k ns w = bad (k, w.0) w.1

  no_words : (word : List ℕ) (count : ℕ) (j : Kind) (v : List ℕ) → Head word t (j, v) → ((ns : List ℕ) → Numbers count v ns → ⊥) → Unread word count
  no_words word count j v e bad k ns w =
      let f : letter j ∷ v ≡ letter k ∷ w.0 = append_cancel_left word _ _ (sym e ∙ w.1) in
      let g : v ≡ w.0 = cc in
      bad ns (subst (λ (x : List ℕ). Numbers count x ns) (sym g) w.2)

  other : (j : Kind) (v : List ℕ) → Head (codes "seal=") t (j, v) → Unread (codes "open=") 11
  other j v e k ns w = let f = w.1 in let z : ◌≡◌ {A = ℕ} 115 111 = cc in omega (arith, z)

  pub none_sealed : (j : Kind) (v : List ℕ) → Head (codes "seal=") t (j, v) → ((ns : List ℕ) → Numbers 10 v ns → ⊥) → (i : Item) → ItemLine t i → ⊥
  none_sealed j v e bad = none_by (no_words (codes "seal=") 10 j v e bad) (other j v e)

  module _ (unsealed : (p : Kind × List ℕ) → Head (codes "seal=") t p → ⊥) where
    pub none_opened : (j : Kind) (v : List ℕ) → Head (codes "open=") t (j, v) → ((ns : List ℕ) → Numbers 11 v ns → ⊥) → (i : Item) → ItemLine t i → ⊥
    none_opened j v e bad = none_by (no_head (codes "seal=") 10 unsealed) (no_words (codes "open=") 11 j v e bad)

    pub none_headed : ((p : Kind × List ℕ) → Head (codes "open=") t p → ⊥) → (i : Item) → ItemLine t i → ⊥
    none_headed bad = none_by (no_head (codes "seal=") 10 unsealed) (no_head (codes "open=") 11 bad)

nine_rest : (ws : List ℕ) → length ws ≡ 9 → take 8 ws ++ (get_or ws 8 0 ∷ []) ≡ ws
nine_rest ws h = sym (take_more ws 8 0 (omega arith)) ∙ take_all 9 ws (omega arith)

pub open_words : (u ns : List ℕ) → Numbers 11 u ns → Numbers 11 u (get_or ns 0 0 ∷ get_or ns 1 0 ∷ (take 8 (drop 2 ns) ++ (get_or ns 10 0 ∷ [])))
open_words u ns h =
    let tail : take 8 (drop 2 ns) ++ (get_or ns 10 0 ∷ []) ≡ drop 2 ns = ap (λ x. take 8 (drop 2 ns) ++ (x ∷ [])) (sym (get_or-drop 2 ns 8 0)) ∙ nine_rest (drop 2 ns) (length-drop 2 ns ∙ ap (λ n. n - 2) h.many) in
    subst (Numbers 11 u) (two_first ns 9 h.many ∙ ap (λ (x : List ℕ). get_or ns 0 0 ∷ get_or ns 1 0 ∷ x) (sym tail)) h
