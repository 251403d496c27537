-- Blocks and the chain of CMAC, step by step.
use Rattle.std.proofs.Common.{◌≡◌, ℕ, zero, suc, ◌+◌, ◌-◌, ◌*◌, ◌/◌, ◌<◌, ◌≤◌, false, eqb, ◌≢◌, List, ◌∷◌, ◌++◌, length, get_or, take, drop, set, replicate, sym, refl, ap, ◌∙◌, subst, inl, inr, eq-or-lt_of_le, add-one, mul-zero, mul-suc, arith, ne_eqb}
use Rattle.std.proofs.lemmas.List.{get_or-take, drop-drop, length-append, length-replicate, append_assoc, drop-replicate, replicate-append-replicate, set_at, take_at}
use Rattle.std.proofs.lemmas.List.FromFn.{fill_by_all}
use denote.Param.Members.{Mut, Called}
use Rattle.std.specs.Simd.{first_chunks}
use Rattle.std.specs.Array.{IsFromFnResultFrom, IsFromFnResult}
use Rattle.aes.specs.Aes.{sixteen, xor_blocks}
use Rattle.cmac.specs.Cmac.{chained, zeros, doubled, padded, last_block, subkey1}

-- What a closure that keeps its state gives at each of the n places from i on.
made_from : {F : Type 0} (g : Mut F (ℕ × Unit {0}) ℕ) (h : ℕ → ℕ) (f : F) (call : (i y : ℕ) (q : F) → Called g f (i, tt) y q → (y ≡ h i) × (q ≡ f)) (ys : List ℕ) (n i : ℕ) → IsFromFnResultFrom g f ys i n → (j : ℕ) → i ≤ j → j < i + n → get_or ys j 0 ≡ h j
made_from g h f call ys zero i made j le lt = absurd (omega arith)
made_from g h f call ys (suc n) i (q, y, at, called, more) j le lt =
    let e = call i y q called in
    elim (eq-or-lt_of_le le) as (λ _. get_or ys j 0 ≡ h j) [
      | inl same ↦ subst (λ (k : ℕ). get_or ys k 0 ≡ h k) same (at.1 0 ∙ e.0)
      | inr above ↦ made_from g h f call ys n (i + 1) (subst (λ (p : _). IsFromFnResultFrom g p ys (i + 1) n) e.1 more) j (omega arith) (omega arith)
    ]

-- A block that such a closure makes.
pub made : {F : Type 0} (g : Mut F (ℕ × Unit {0}) ℕ) (h : ℕ → ℕ) (f : F) (call : (i y : ℕ) (q : F) → Called g f (i, tt) y q → (y ≡ h i) × (q ≡ f)) (ys : List ℕ) → IsFromFnResult g f ys 16 → ys ≡ sixteen h
made g h f call ys r = fill_by_all h ys 16 0 r.long (λ j lt. made_from g h f call ys 16 0 r.each j (omega arith) lt)

chunk_at : (n k : ℕ) (xs : List ℕ) (i : ℕ) (d : List ℕ) → i < k → get_or (first_chunks n k xs) i d ≡ take n (drop (n * i) xs)
chunk_at n zero xs i d h = absurd (omega arith)
chunk_at n (suc k) xs zero d h = rw mul-zero refl
chunk_at n (suc k) xs (suc i) d h =
    let e : n + n * i ≡ n * suc i = rw mul-suc (omega arith) in
    chunk_at n k (drop n xs) i d (omega arith) ∙ ap (take n) (drop-drop (n * i) n xs ∙ ap (λ (j : ℕ). drop j xs) e)

-- One block more.
pub chained_more : (ciph : List ℕ → List ℕ) (m x b t y : List ℕ) (i : ℕ) → x ≡ chained ciph m i → b ≡ take 16 (drop (16 * i) m) → t ≡ xor_blocks x b → y ≡ ciph t → y ≡ chained ciph m (i + 1)
unfolding chained
chained_more ciph m x b t y i e f g h =
    let step : chained ciph m (i + 1) ≡ ciph (xor_blocks (chained ciph m i) (take 16 (drop (16 * i) m))) = rw add-one refl in
    cc

-- One block more, of those before the last one.
pub chained_chunk : (ciph : List ℕ → List ℕ) (m x t y : List ℕ) (blocks : List (List ℕ)) (n i : ℕ) (d : List ℕ) → x ≡ chained ciph m i → blocks ≡ first_chunks 16 (length m / 16) m → n ≤ length m / 16 → i < n → t ≡ xor_blocks x (get_or (take n blocks) i d) → y ≡ ciph t → y ≡ chained ciph m (i + 1)
chained_chunk ciph m x t y blocks n i d e f few lt g h =
    let b : get_or (take n blocks) i d ≡ take 16 (drop (16 * i) m) =
    get_or-take n blocks i d lt ∙ ap (λ (bs : List (List ℕ)). get_or bs i d) f ∙ chunk_at 16 (length m / 16) m i d (omega arith) in
    chained_more ciph m x (get_or (take n blocks) i d) t y i e b g h

zeros_from : (n : ℕ) → n < 16 → drop n zeros ≡ 0 ∷ replicate (15 - n) 0
zeros_from n h =
    let one : 16 - n ≡ suc (15 - n) = omega arith in
    drop-replicate {X = ℕ} n 16 0 ∙ ap (λ (k : ℕ). replicate {A = ℕ} k 0) one

zeros_to : (n : ℕ) → n < 16 → replicate {A = ℕ} 15 0 ≡ replicate (15 - n) 0 ++ replicate n 0
zeros_to n h =
    let all : (15 - n) + n ≡ 15 = omega arith in
    sym (replicate-append-replicate {A = ℕ} (15 - n) n 0 ∙ ap (λ (k : ℕ). replicate {A = ℕ} k 0) all)

cut : (m tail more : List ℕ) → length m + suc (length tail) ≡ 16 → take 16 (m ++ 128 ∷ (tail ++ more)) ≡ m ++ 128 ∷ tail
cut m tail more h =
    let len : length (m ++ 128 ∷ tail) ≡ 16 = simp length-append h in
    ap (take 16) (sym (append_assoc m (128 ∷ tail) more)) ∙ take_at (m ++ 128 ∷ tail) more 16 len

-- A short block, with the rest of a block of zeros after it.
pub padded_from : (m x post : List ℕ) → length m < 16 → x ≡ m → post ≡ drop (length m) zeros → set (x ++ post) (length m) 128 ≡ padded m
unfolding padded
padded_from m x post h e f =
    let tail = zeros_from (length m) h in
    let put = set_at m 0 (replicate (15 - length m) 0) 128 (length m) refl in
    let more = zeros_to (length m) h in
    let short = cut m (replicate (15 - length m) 0) (replicate (length m) 0) (simp length-replicate (omega arith)) in
    cc

pub last_whole : (ciph : List ℕ → List ℕ) (m b k r : List ℕ) → length m ≡ 16 → b ≡ m → k ≡ subkey1 ciph → r ≡ xor_blocks b k → r ≡ last_block ciph m
unfolding last_block
last_whole ciph m b k r n e f g = rw n (cc)

pub last_short : (ciph : List ℕ → List ℕ) (m b j k r : List ℕ) → length m ≢ 16 → b ≡ padded m → j ≡ subkey1 ciph → k ≡ doubled j → r ≡ xor_blocks b k → r ≡ last_block ciph m
unfolding last_block
last_short ciph m b j k r n e f g h = let t : eqb (length m) 16 ≡ false = ne_eqb (length m) 16 n in rw t (cc)
