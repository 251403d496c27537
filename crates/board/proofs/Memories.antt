-- Lines that stand in words: how many there are, and what a read and a write of one does.
use Rattle.std.proofs.Common.{◌≡◌, ℕ, zero, suc, ◌+◌, ◌-◌, ◌*◌, ◌/◌, ◌<◌, ◌≤◌, true, false, ◌≢◌, ◌⊎◌, List, [], ◌∷◌, ◌++◌, length, get_or, take, drop, set, sym, refl, ap, ◌∙◌, inl, inr, ⊎_elim, arith, rules}
use Rattle.std.specs.List.{between}
use Rattle.std.specs.Simd.{first_chunks}
use Rattle.std.proofs.lemmas.List.FromFn.{length-map-range_with_len, get_or-map-range_with_len}
use Rattle.std.proofs.lemmas.List.{same_lists, places, length-set, get_or-set_same, get_or-set_other, length-append, take_at, get_or_at, length-drop, length-take-le, drop_at, drop-drop}
use Rattle.std.proofs.lemmas.Bool.{cases_eq, cases_lt}
use Rattle.board.specs.Memory.{memory, lines_of, line_at, line_of, words_of, with_line}
use Rattle.board.specs.Tampering.{LinePut}
use Rattle.board.specs.declared.types.Line.{Line}

pub memory_count : (ws : List ℕ) → length (lines_of ws) ≡ length ws / 9
memory_count ws = length-map-range_with_len (line_at ws) 0 (length ws / 9)

pub memory_read : (ws : List ℕ) (a : ℕ) (d : Line) → a < length ws / 9 → get_or (lines_of ws) a d ≡ line_at ws a
memory_read ws a d h = get_or-map-range_with_len (line_at ws) 0 (length ws / 9) a a d h (omega arith)

-- The chunk at a place is the nine words there.
chunk_at : (n : ℕ) (ws : List ℕ) (a : ℕ) (d : List ℕ) → a < n → get_or (first_chunks 9 n ws) a d ≡ take 9 (drop (9 * a) ws)
chunk_at zero ws a d h = grind arith
chunk_at (suc n) ws zero d h = refl
chunk_at (suc n) ws (suc a) d h =
    let past : 9 + 9 * a ≡ 9 * suc a = omega arith in
    chunk_at n (drop 9 ws) a d (omega arith) ∙ ap (take 9) (drop-drop (9 * a) 9 ws ∙ ap (λ k. drop k ws) past)

pub memory_chunk : (ws : List ℕ) (a : ℕ) (d : List ℕ) → a < length ws / 9 → line_of (get_or (first_chunks 9 (length ws / 9) ws) a d) ≡ line_at ws a
memory_chunk ws a d h =
    let nine : 9 ≡ 9 * a + 9 - 9 * a = omega arith in
    ap line_of (chunk_at (length ws / 9) ws a d h ∙ ap (λ k. take k (drop (9 * a) ws)) nine)

line_back : (l : Line) → length l.body ≡ 8 → line_of (words_of l) ≡ l
line_back l e =
    let p = take_at l.body (l.tag ∷ []) 8 e in
    let q = get_or_at l.body l.tag [] 0 8 e in
    λ i. record { body = p i; tag = q i }

-- a run that lies before or after the replaced one
module _ (ws ys : List ℕ) (p w q v : ℕ) (n : length ys ≡ w) (h : p + w ≤ length ws) (kh : q + v ≤ length ws) (apart : (q + v ≤ p) ⊎ (p + w ≤ q)) where
  apart_same : take v (drop q (take p ws ++ (ys ++ drop w (drop p ws)))) ≡ take v (drop q ws)
  apart_same = same_lists _ _ (search (rules, places)) (λ j d jh. grind (arith, places))

-- nine words are replaced by ys
module _ (ws ys : List ℕ) (a : ℕ) (h : a < length ws / 9) (n : length ys ≡ 9) where
  abbrev replaced : List ℕ
  replaced = take (9 * a) ws ++ (ys ++ drop 9 (drop (9 * a) ws))

  replaced_here : between (9 * a) (9 * a + 9) replaced ≡ ys
  replaced_here =
      let before = length-take-le (9 * a) ws (omega arith) in
      let nine : 9 * a + 9 - 9 * a ≡ 9 = omega arith in
      ap (take (9 * a + 9 - 9 * a)) (drop_at (take (9 * a) ws) (ys ++ drop 9 (drop (9 * a) ws)) (9 * a) before) ∙ ap (λ j. take j (ys ++ drop 9 (drop (9 * a) ws))) nine ∙ take_at ys (drop 9 (drop (9 * a) ws)) 9 n

  replaced_there : (k : ℕ) → k ≢ a → k < length ws / 9 → between (9 * k) (9 * k + 9) replaced ≡ between (9 * k) (9 * k + 9) ws
  replaced_there k ne kh =
      let before : 9 * a + 9 ≤ length ws = omega arith in
      let within : 9 * k + (9 * k + 9 - 9 * k) ≤ length ws = omega arith in
      apart_same ws ys (9 * a) 9 (9 * k) (9 * k + 9 - 9 * k) n before within (⊎_elim (λ (e : k < a). inl (omega arith)) (λ (e : a ≤ k). inr (omega (arith, ne))) (cases_lt k a))

-- a line is put in place
module _ (ws : List ℕ) (a : ℕ) (l : Line) (h : a < length ws / 9) (same : length (with_line ws a l) ≡ length ws) where
  abbrev after : List ℕ
  after = with_line ws a l

  nine : length (words_of l) ≡ 9
  nine =
      let p = length-append (take (9 * a) ws) (words_of l ++ drop 9 (drop (9 * a) ws)) in
      let q = length-append (words_of l) (drop 9 (drop (9 * a) ws)) in
      let t = length-take-le (9 * a) ws (omega arith) in
      let d = length-drop 9 (drop (9 * a) ws) in
      let e = length-drop (9 * a) ws in
      omega (arith, same)

  body : length l.body ≡ 8
  body = omega (arith, nine, length-append l.body (l.tag ∷ []))

  lines_put : lines_of after ≡ set (lines_of ws) a l
  lines_put =
      let long : length (lines_of after) ≡ length ws / 9 = memory_count after ∙ ap (λ m. m / 9) same in
      same_lists _ _ (long ∙ sym (length-set (lines_of ws) a l ∙ memory_count ws))
      (λ k d kh.
      let kw : k < length ws / 9 = omega (arith, long) in
      let ka : k < length after / 9 = omega (arith, memory_count after) in
      let within : a < length (lines_of ws) = omega (arith, memory_count ws) in
      memory_read after k d ka ∙ ⊎_elim
      (λ (here : k ≡ a). ap (line_at after) here ∙ ap line_of (replaced_here ws (words_of l) a h nine) ∙ line_back l body ∙ sym (ap (λ j. get_or (set (lines_of ws) a l) j d) here ∙ get_or-set_same (lines_of ws) a l d within))
      (λ (other : k ≢ a). ap line_of (replaced_there ws (words_of l) a h nine k other kw) ∙ sym (get_or-set_other (lines_of ws) a k l d other ∙ memory_read ws k d kw))
      (cases_eq k a))

pub memory_put : (ws ws' reg reg' : List ℕ) (a : ℕ) (l : Line) → a < length ws / 9 → ws' ≡ with_line ws a l → length ws' ≡ length ws → reg' ≡ reg → LinePut (memory ws reg) a l true (memory ws' reg')
memory_put ws ws' reg reg' a l h e long r =
    let within : a < length (lines_of ws) = omega (arith, memory_count ws) in
    (within, ap lines_of e ∙ lines_put ws a l h (sym (ap length e) ∙ long), r, refl)

pub memory_absent : (ws reg : List ℕ) (a : ℕ) (l : Line) → length ws / 9 ≤ a → LinePut (memory ws reg) a l false (memory ws reg)
memory_absent ws reg a l h = (omega (arith, memory_count ws), refl)
