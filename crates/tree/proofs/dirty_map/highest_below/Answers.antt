use Rattle.std.proofs.Common.{◌≡◌, ℕ, ◌+◌, ◌-◌, ◌<◌, ◌≤◌, Some, None, Option as Maybe, true, IsTrue, MatchOption, IfSome, IsSomeAnd, List, [], ◌∷◌, get_or, subst, ◌∙◌, ap, length, length-append, Iter, Bor, arith, rules}
use borrow.Author.Tests.{tests}
use denote.Param.Members.{Mut, Called}
use Rattle.std.specs.Iterator.Runs.{Run, CallKeepsClosure, AllItemsGive, IsFirstToGive}
use Rattle.std.specs.Option.{option_map}
use Rattle.tree.specs.DirtyMap.{TopOfWord}
use Rattle.tree.proofs.Bits.{highest_of}
use Rattle.tree.proofs.dirty_map.highest_below.Goals as goal

-- The item at place k, from the last word down.
item : (ws rest : List ℕ) (k n : ℕ) (p q : Maybe (ℕ × Bor ℕ)) (z : Maybe (Bor ℕ)) → rest ≡ ws → n ≡ length ws → q ≡ p → z ≡ option_map (λ x. x.1) q
    → IfSome q (λ x. x.0 + k + 1 ≡ n) → IfSome z (λ x. (d : ℕ) → x.now ≡ get_or rest (length rest - 1 - k) d) → IfSome p (λ x. (x.0 + k + 1 ≡ length ws) × (x.1.now ≡ get_or ws x.0 0))
item ws rest k n p None z e l f g i w = subst (λ (o : Maybe (ℕ × Bor ℕ)). IfSome o (λ x. (x.0 + k + 1 ≡ length ws) × (x.1.now ≡ get_or ws x.0 0))) f tt
item ws rest k n p (Some x) z e l f g i w =
    let there : x.1.now ≡ get_or rest (length rest - 1 - k) 0 = subst (λ (o : Maybe (Bor ℕ)). IfSome o (λ x. (d : ℕ) → x.now ≡ get_or rest (length rest - 1 - k) d)) g w 0 in
    let at : length rest - 1 - k ≡ x.0 = omega (arith, ap length e, i, l) in
    subst (λ (o : Maybe (ℕ × Bor ℕ)). IfSome o (λ x. (x.0 + k + 1 ≡ length ws) × (x.1.now ≡ get_or ws x.0 0))) f
    (i ∙ l, there ∙ ap (λ xs. get_or xs (length rest - 1 - k) 0) e ∙ ap (λ j. get_or ws j 0) at)

-- What a search from the last word down finds, where P holds of what the closure answers at a word.
module _ {S F : Type 0} {steps : S → Maybe (ℕ × Bor ℕ) → S → Type 0} (p : Run steps) (g : Mut F ((ℕ × Bor ℕ) × Unit {0}) (Maybe ℕ)) (f : F) (ws : List ℕ) (P : ℕ → ℕ → Maybe ℕ → Type 0)
    (place : (k : ℕ) → IfSome (p.at k) (λ x. (x.0 + k + 1 ≡ length ws) × (x.1.now ≡ get_or ws x.0 0)))
    (says : (x : ℕ × Bor ℕ) (r : Maybe ℕ) → Called g f (x, tt) r f → P x.0 x.1.now r) where
  gave : (i k : ℕ) (r : Maybe ℕ) → i + k + 1 ≡ length ws → IsSomeAnd (p.at k) (λ x. Called g f (x, tt) r f) → P i (get_or ws i 0) r
  gave i k r e h = go (p.at k) (place k) h
    where
      go : (o : Maybe (ℕ × Bor ℕ)) → IfSome o (λ x. (x.0 + k + 1 ≡ length ws) × (x.1.now ≡ get_or ws x.0 0)) → IsSomeAnd o (λ x. Called g f (x, tt) r f) → P i (get_or ws i 0) r
      go None a h = absurd h
      go (Some x) (a, b) h =
          let here : x.0 ≡ i = omega arith in
          subst (λ j. P j (get_or ws j 0) r) here (subst (λ w. P x.0 w r) b (says x r h))

  there : (k : ℕ) → k < p.len → IfSome (p.at k) (λ x. Called g f (x, tt) None f) → IsSomeAnd (p.at k) (λ x. Called g f (x, tt) None f)
  there k h a = go (p.at k) (p.reads k (0, record { ref_ptr = (0, 0); now = 0 }) h) a
    where
      go : {y : ℕ × Bor ℕ} (o : Maybe (ℕ × Bor ℕ)) → option_map (λ x. x) o ≡ Some y → IfSome o (λ x. Called g f (x, tt) None f) → IsSomeAnd o (λ x. Called g f (x, tt) None f)
      go None e a = cc
      go (Some x) e a = a

  search_down : (r : Maybe ℕ) → p.len ≤ length ws → (p.whole ≡ true → p.len ≡ length ws) → CallKeepsClosure g f
      → MatchOption r (IsTrue p.whole × AllItemsGive p g f None) (λ y. (i : ℕ) × (i < p.len) × (p.len ≡ i + 1) × IsFirstToGive p g f (Some y) None i)
      → MatchOption r ((i : ℕ) → i < length ws → P i (get_or ws i 0) None) (λ y. (i : ℕ) × (i < length ws) × P i (get_or ws i 0) (Some y) × ((k : ℕ) → i < k → k < length ws → P k (get_or ws k 0) None))
  search_down None most all keeps (e, none) = λ i h. gave i (length ws - 1 - i) None (omega arith) (there (length ws - 1 - i) (omega (arith, all e)) (none keeps (length ws - 1 - i)))
  search_down (Some y) most all keeps (j, h, last, found) =
      let f = found keeps in (length ws - 1 - j, omega arith, gave (length ws - 1 - j) j (Some y) (omega arith) f.0, λ k a b. gave k (length ws - 1 - k) None (omega arith) (f.1 (length ws - 1 - k) (omega arith)))

pub returns : goal.returns
returns c =
    let ws = c.args.map.now in
    let r = c.find_map.ensures.runs in
    let q = c.rev.ensures.runs r.0 r.0.seen r.1 in
    let e = c.rev.ensures.runs_back q.0 q.0.seen q.1 in
    let b = c.iter.ensures.runs_back e.1.0 e.1.0.seen in
    let rest : e.1.0.from.rest.now ≡ c.args.map.now = ap (λ (s : Iter ℕ). s.rest.now) (e.1.1 ∙ c.enumerate.ensures.source) ∙ (cc) in
    let long : e.1.0.len ≡ r.0.len = e.1.2.0.0 ∙ q.2.0.0 in
    let place : (k : ℕ) → IfSome (r.0.at k) (λ x. (x.0 + k + 1 ≡ length c.args.map.now) × (x.1.now ≡ get_or c.args.map.now x.0 0)) =
    λ k. item ws e.1.0.from.rest.now k _ (r.0.at k) (q.0.at k) (e.1.0.at k) rest (search rules) (q.2.0.2 k) (e.1.2.0.2 k) (e.0 (λ s x t u. omega (arith, ap length u, length-append t.rest.now (x.now ∷ []))) k) (b.3 k) in
    highest_of ws c.args.below c.find_map.result
    (search_down r.0 _ _ ws (λ i w r. TopOfWord i w c.args.below r) place (λ x r k. search (rules, tests)) c.find_map.result (omega (arith, long, ap length rest, b.0)) (λ w. omega (arith, long, ap length rest, b.1 (e.1.2.1 ∙ q.2.1 ∙ w))) (λ a r f k. search rules) r.2)
