-- Texts cut at a byte.
use Rattle.std.proofs.Common.{◌≡◌, ℕ, suc, ◌+◌, ◌<◌, ◌≤◌, Bool, true, false, eqb, cond, ◌⊎◌, List, [], ◌∷◌, ◌++◌, length, get_or, take, drop, Some, None, Option, Bor, sym, refl, ap, ◌∙◌, subst, inl, inr, append_assoc, append-nil, arith, rules}
use Rattle.std.proofs.lemmas.List.{drop_more, drop_all, take-append-drop, get_or-take, length-take-le, length_push, length-drop, drop_at}
use Rattle.std.specs.Option.{option_map, unwrap_or}
use Rattle.text.specs.Spelling.{Reads, Behind, Digit, Decimal, before_lines, lines_of, FirstLine}
use Rattle.text.specs.Taking.{Stops, Lacks, Cut}

-- what lies from the first such byte on
stops_at : (b : ℕ) (t : List ℕ) (n : ℕ) → (n < length t → get_or t n 0 ≡ b) → (n < length t) ⊎ (length t ≤ n) → Stops b (drop n t)
stops_at b t n found (inl h) = inr (drop (n + 1) t, drop_more t n 0 h ∙ ap (λ c. c ∷ drop (n + 1) t) (found h))
stops_at b t n found (inr h) = inl (drop_all n t h)

pub cut_at : (b : ℕ) (t : List ℕ) (n : ℕ) → n ≤ length t → ((k : ℕ) → k < n → get_or t k 0 ≡ b → ⊥) → (n < length t → get_or t n 0 ≡ b) → (n < length t) ⊎ (length t ≤ n) → Cut b t (take n t) (drop n t)
cut_at b t n within before found which = record {
  split = sym (take-append-drop n t);
  lacks = λ i h e. let k : i < n = omega (arith, length-take-le n t within) in before i k (sym (get_or-take n t i 0 k) ∙ e);
  stops = stops_at b t n found which;
}

-- a text that lacks b does not begin with it
no_head : (b c : ℕ) (cs : List ℕ) → Lacks b (c ∷ cs) → c ≡ b → ⊥
no_head b c cs w e = w 0 (omega arith) e

tail_lacks : (b c : ℕ) (cs : List ℕ) → Lacks b (c ∷ cs) → Lacks b cs
tail_lacks b c cs w i h e = w (suc i) (omega arith) e

-- there is one way to cut
clash : (b : ℕ) (r : List ℕ) (d : ℕ) (ds s : List ℕ) → r ≡ d ∷ (ds ++ s) → Stops b r → Lacks b (d ∷ ds) → ⊥
clash b r d ds s e (inl f) w = let z : ◌≡◌ {A = ℕ} 0 1 = cc in omega arith
clash b r d ds s e (inr (u, f)) w = no_head b d ds w (cc)

pub same_cut : (b : ℕ) (xs ys r s : List ℕ) → xs ++ r ≡ ys ++ s → Lacks b xs → Lacks b ys → Stops b r → Stops b s → (xs ≡ ys) × (r ≡ s)
same_cut b [] [] r s e v w p q = (refl, e)
same_cut b [] (d ∷ ys) r s e v w p q = absurd (clash b r d ys s e p w)
same_cut b (c ∷ xs) [] r s e v w p q = absurd (clash b s c xs r (sym e) q v)
same_cut b (c ∷ xs) (d ∷ ys) r s e v w p q =
    let h : c ≡ d = cc in
    let t : xs ++ r ≡ ys ++ s = cc in
    let k = same_cut b xs ys r s t (tail_lacks b c xs v) (tail_lacks b d ys w) p q in
    ((λ i. h i ∷ k.0 i), k.1)

-- digits lack what is no digit
pub digits_lack : (b : ℕ) (ds : List ℕ) (n : ℕ) → Decimal ds n → (Digit b → ⊥) → Lacks b ds
digits_lack b ds n d other i h e = other (subst Digit e (d.digits i h))

-- the lines of a text that is cut at its first line feed
not_feed : (c : ℕ) (cs : List ℕ) → Lacks 10 (c ∷ cs) → eqb c 10 ≡ false
not_feed c cs w = let h = no_head 10 c cs w in search rules

pub line_first : (l u : List ℕ) → Lacks 10 l → lines_of (l ++ (10 ∷ u)) ≡ l ∷ lines_of u
line_first [] u w = refl
line_first (c ∷ l) u w = rw (not_feed c l w) (ap (before_lines c) (line_first l u (tail_lacks 10 c l w)))

pub line_last : (c : ℕ) (l : List ℕ) → Lacks 10 (c ∷ l) → lines_of (c ∷ l) ≡ (c ∷ l) ∷ []
line_last c [] w = rw (not_feed c [] w) refl
line_last c (d ∷ l) w = rw (not_feed c (d ∷ l) w) (ap (before_lines c) (line_last d l (tail_lacks 10 c (d ∷ l) w)))

drop_line : (t l b : List ℕ) → t ≡ l ++ (10 ∷ b) → drop (length l + 1) t ≡ b
drop_line t l b e = ap (drop (length l + 1)) (e ∙ sym (append_assoc l (10 ∷ []) b)) ∙ drop_at (l ++ (10 ∷ [])) b (length l + 1) (length_push l 10)

feed_first : (r : List ℕ) (d : ℕ) (b : List ℕ) → r ≡ d ∷ b → Stops 10 r → r ≡ 10 ∷ b
feed_first r d b e (inl f) = let z : ◌≡◌ {A = ℕ} 0 1 = cc in let w : ⊥ = omega arith in absurd w
feed_first r d b e (inr (u, f)) = cc

pub line_cut : (t l r : List ℕ) (d : ℕ) (b : List ℕ) → Cut 10 t l r → r ≡ d ∷ b → FirstLine t (Some (l, b))
line_cut t l r d b c f =
    let e : t ≡ l ++ (10 ∷ b) = c.split ∙ ap (λ (x : List ℕ). l ++ x) (feed_first r d b f c.stops) in
    (ap lines_of e ∙ line_first l b c.lacks, sym (drop_line t l b e))

pub line_whole : (t l r : List ℕ) → t ≡ l ++ r → r ≡ [] → (t ≡ [] → ⊥) → Lacks 10 l → FirstLine t (Some (l, r))
line_whole t [] r e f n w = absurd (n (e ∙ f))
line_whole t (c ∷ l) r e f n w =
    let g : t ≡ c ∷ l = e ∙ ap (λ u. (c ∷ l) ++ u) f ∙ append-nil (c ∷ l) in
    (ap lines_of g ∙ line_last c l w ∙ ap (λ u. (c ∷ l) ∷ lines_of u) (sym f), f ∙ sym (drop_all (length (c ∷ l) + 1) t (omega (arith, ap length g))))

-- the line up to the cut, and what is behind its line feed if it has one
pub line_up_to : (t l : List ℕ) (r : Bor (List ℕ)) (o : Option (Bor (List ℕ))) → Cut 10 t l r.now → (t ≡ [] → ⊥) → Reads (Behind (10 ∷ [])) r.now (option_map (λ x. x.now) o) → FirstLine t (Some (l, (unwrap_or o r).now))
line_up_to t l r (Some b) c some h = line_cut t l r.now 10 b.now c h
line_up_to t l r None c some h = line_whole t l r.now c.split (nothing c.stops) some c.lacks
  where
    nothing : Stops 10 r.now → r.now ≡ []
    nothing (inl e) = e
    nothing (inr (u, e)) = absurd (h u e)

-- what is behind a line is shorter
pub line_shorter : (t l b : List ℕ) → FirstLine t (Some (l, b)) → length b < length t
line_shorter [] l b h = let e = h.0 in let z : ◌≡◌ {A = ℕ} 0 1 = cc in omega arith
line_shorter (c ∷ t) l b h = omega (arith, ap length h.1, length-drop (length l + 1) (c ∷ t))

-- a text has no more lines than bytes
before_lines_within : (c : ℕ) (ls : List (List ℕ)) → length (before_lines c ls) ≤ length ls + 1
before_lines_within c [] = omega arith
before_lines_within c (l ∷ ls) = omega arith

line_within : (feed : Bool) (c : ℕ) (ls : List (List ℕ)) → length (cond feed ([] ∷ ls) (before_lines c ls)) ≤ length ls + 1
line_within true c ls = omega arith
line_within false c ls = before_lines_within c ls

pub lines_within : (t : List ℕ) → length (lines_of t) ≤ length t
lines_within [] = omega arith
lines_within (c ∷ cs) = omega (arith, lines_within cs, line_within (eqb c 10) c (lines_of cs))
