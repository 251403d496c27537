-- The register's words and fields: each comes back from the other, and both mean the same register.
use mathlib.Core.Path.{fun_ext}
use Rattle.std.proofs.Common.{◌≡◌, ℕ, zero, suc, ◌+◌, ◌-◌, ◌*◌, ◌/◌, ◌%◌, ◌^◌, ◌<◌, ◌≤◌, Bool, true, false, cond, ◌&&◌, eqb, leb, List, [], ◌∷◌, ◌++◌, length, take, drop, set, replicate, Some, None, Option as Maybe, get_or, ◌⊎◌, inl, inr, sym, refl, ap, ◌∙◌, subst, one-add, arith}
use mathlib.Core.Option.{some, none}
use Rattle.std.proofs.lemmas.List.{append-nil, take_all, length-take, length-drop, length-set, get_or-take, get_or-drop, get_or-set_same, get_or-set_other}
use Rattle.std.proofs.lemmas.Nat.{mod-pow-add}
use Rattle.std.proofs.lemmas.List.FromFn.{fill_by_all}
use Rattle.std.proofs.lemmas.Bool.{ne_eqb, eq-eqb, le-leb, eqb-true, eqb-false, cases_eq}
use Rattle.machine.proofs.Basics.{sum_same}
use Rattle.machine.specs.declared.types.Register.{Register as Fields}
use Rattle.machine.specs.declared.types.Journal.{Journal as Entry}
use Rattle.machine.specs.Layout.{sum_to, update}
use Rattle.machine.specs.Words.{journal_words, journal_of, dirty_of, map_word, bit, journal_line, row, listed, no_address, register_in, words_of}
use Rattle.machine.specs.Encoding.{journal_encoded, journal_meant, register_meant, encoded, decoded, with_journal, with_commit, with_counter, committed, said, Real}

-- What holds of every row of n words holds of every list of n words.
by_rows : (n : ℕ) (P : List ℕ → Type 0) → ((f : ℕ → ℕ) → P (listed n f)) → (xs : List ℕ) → length xs ≡ n → P xs
by_rows n P y xs e = subst P (sym (fill_by_all (row xs) xs n 0 e (λ k h. refl))) (y (row xs))

module _ (formatted levels suite sum : ℕ) where
  -- The fields, but for the journal and the three rows.
  abbrev fields : List ℕ → Maybe Entry → List ℕ → Fields
  fields roots j dirty = record { formatted = formatted; levels = levels; suite = suite; roots = roots; dirty_sum = sum; journal = j; dirty = dirty }

  abbrev entry_of : ℕ → List ℕ → ℕ → Entry
  entry_of at body tag = record { at = at; line = record { body = body; tag = tag } }

  -- The words as they are put together.
  abbrev put_together : List ℕ → Maybe Entry → List ℕ → List ℕ
  put_together roots j dirty =
      let first = set (set (set (replicate 32 0) 0 formatted) 1 levels) 2 suite in
      let second = take 3 first ++ (roots ++ drop 11 first) in
      let third = with_journal (set second 11 sum) j in
      take 22 third ++ (dirty ++ drop 32 third)

  put_none : (roots dirty : List ℕ) → length roots ≡ 8 → put_together roots None dirty ≡ encoded (fields roots None dirty)
  unfolding encoded
  put_none roots dirty e = by_rows 8 (λ r. put_together r None dirty ≡ encoded (fields r None dirty)) (λ f. ap (λ d. take 22 (put_together (listed 8 f) None dirty) ++ d) (append-nil dirty)) roots e

  put_some : (roots dirty body : List ℕ) (at tag : ℕ) → length roots ≡ 8 → length body ≡ 8 → put_together roots (Some (entry_of at body tag)) dirty ≡ encoded (fields roots (Some (entry_of at body tag)) dirty)
  unfolding encoded
  put_some roots dirty body at tag e h =
      by_rows 8 (λ r. put_together r (Some (entry_of at body tag)) dirty ≡ encoded (fields r (Some (entry_of at body tag)) dirty))
      (λ f. by_rows 8 (λ b. put_together (listed 8 f) (Some (entry_of at b tag)) dirty ≡ encoded (fields (listed 8 f) (Some (entry_of at b tag)) dirty))
      (λ g. ap (λ d. take 22 (put_together (listed 8 f) (Some (entry_of at (listed 8 g) tag)) dirty) ++ d) (append-nil dirty)) body h) roots e

  back_none : (roots dirty : List ℕ) → length roots ≡ 8 → length dirty ≡ 10 → decoded (encoded (fields roots None dirty)) ≡ fields roots None dirty
  unfolding encoded
  back_none roots dirty e k =
      by_rows 8 (λ r. decoded (encoded (fields r None dirty)) ≡ fields r None dirty)
      (λ f. by_rows 10 (λ d. decoded (encoded (fields (listed 8 f) None d)) ≡ fields (listed 8 f) None d) (λ g. refl) dirty k) roots e

  back_some : (roots dirty body : List ℕ) (at tag : ℕ) → length roots ≡ 8 → length dirty ≡ 10 → length body ≡ 8 → (at ≡ no_address → ⊥) → decoded (encoded (fields roots (Some (entry_of at body tag)) dirty)) ≡ fields roots (Some (entry_of at body tag)) dirty
  unfolding encoded
  back_some roots dirty body at tag e k h n =
      by_rows 8 (λ r. decoded (encoded (fields r (Some (entry_of at body tag)) dirty)) ≡ fields r (Some (entry_of at body tag)) dirty)
      (λ f. by_rows 8 (λ b. decoded (encoded (fields (listed 8 f) (Some (entry_of at b tag)) dirty)) ≡ fields (listed 8 f) (Some (entry_of at b tag)) dirty)
      (λ g. by_rows 10 (λ d. decoded (encoded (fields (listed 8 f) (Some (entry_of at (listed 8 g) tag)) d)) ≡ fields (listed 8 f) (Some (entry_of at (listed 8 g) tag)) d)
      (λ x. ap (λ b. fields (listed 8 f) (cond b None (Some (entry_of at (listed 8 g) tag))) (listed 10 x)) (ne_eqb at no_address n)) dirty k) body h) roots e

-- Fields come back from their words.
pub back : (f : Fields) → length f.roots ≡ 8 → length f.dirty ≡ 10 → ((j : Entry) → f.journal ≡ Some j → length j.line.body ≡ 8) → Real f.journal → decoded (encoded f) ≡ f
back f e k = go f.journal
  where
    go : (o : Maybe Entry) → ((j : Entry) → o ≡ Some j → length j.line.body ≡ 8) → Real o → decoded (encoded (fields f.formatted f.levels f.suite f.dirty_sum f.roots o f.dirty)) ≡ fields f.formatted f.levels f.suite f.dirty_sum f.roots o f.dirty
    go None h n = back_none f.formatted f.levels f.suite f.dirty_sum f.roots f.dirty e k
    go (Some j) h n = back_some f.formatted f.levels f.suite f.dirty_sum f.roots f.dirty j.line.body j.at j.line.tag e k (h j refl) n

-- The words as they are put together are the encoded ones.
pub put_is : (f : Fields) → length f.roots ≡ 8 → ((j : Entry) → f.journal ≡ Some j → length j.line.body ≡ 8) → put_together f.formatted f.levels f.suite f.dirty_sum f.roots f.journal f.dirty ≡ encoded f
put_is f e = go f.journal
  where
    go : (o : Maybe Entry) → ((j : Entry) → o ≡ Some j → length j.line.body ≡ 8) → put_together f.formatted f.levels f.suite f.dirty_sum f.roots o f.dirty ≡ encoded (fields f.formatted f.levels f.suite f.dirty_sum f.roots o f.dirty)
    go None h = put_none f.formatted f.levels f.suite f.dirty_sum f.roots f.dirty e
    go (Some j) h = put_some f.formatted f.levels f.suite f.dirty_sum f.roots f.dirty j.line.body j.at j.line.tag e (h j refl)

module _ (f : ℕ → ℕ) where
  -- The words again, by whether there is no journal.
  abbrev with_test : Bool → List ℕ
  with_test b = encoded (fields (f 0) (f 1) (f 2) (f 11) (take 8 (drop 3 (listed 32 f))) (cond b None (Some (entry_of 0 0 0 0 (f 12) (take 8 (drop 13 (listed 32 f))) (f 21)))) (take 10 (drop 22 (listed 32 f))))

  test_says : (b : Bool) → eqb (f 12) no_address ≡ b → with_test b ≡ cond b (take 13 (listed 32 f) ++ (replicate 9 0 ++ drop 22 (listed 32 f))) (listed 32 f)
  unfolding encoded
  test_says true h = ap (λ a. take 12 (listed 32 f) ++ (a ∷ (replicate 9 0 ++ drop 22 (listed 32 f)))) (sym (eqb-true (f 12) no_address h))
  test_says false h = refl

-- What 32 words say comes back from their fields.
pub again : (ws : List ℕ) → length ws ≡ 32 → encoded (decoded ws) ≡ said ws
again ws e = by_rows 32 (λ w. encoded (decoded w) ≡ said w) (λ f. test_says f (eqb (f 12) no_address) refl) ws e

module _ (ws : List ℕ) (e : length ws ≡ 32) where
  map_words : take 10 (drop 22 ws) ≡ drop 22 ws
  map_words = take_all 10 (drop 22 ws) (simp length-drop (omega arith))

  -- Words and their fields mean the same register.
  pub same_meaning : register_meant (decoded ws) ≡ register_in ws
  unfolding register_meant register_in
  same_meaning = λ i. record { formatted = row ws 0; levels = row ws 1; suite = row ws 2; roots = row (take 8 (drop 3 ws)); dirty_sum = row ws 11; journal = journal_case (eqb (row ws 12) no_address) i; dirty = λ p. leb (8 ^ row ws 1) p && bit (map_words i) (p - 8 ^ row ws 1) }
    where
      journal_case : (b : Bool) → journal_meant (cond b None (Some (entry_of 0 0 0 0 (row ws 12) (take 8 (drop 13 ws)) (row ws 21)))) ≡ cond b none (some (record { at = row ws 12; line = journal_line ws }))
      journal_case true = refl
      journal_case false = refl

  part_length : (i : ℕ) → i + 8 ≤ 32 → length (take 8 (drop i ws)) ≡ 8
  part_length i h = simp (length-take, length-drop) (omega arith)

-- A word is the sum of its bits.
bits_sum : (n w : ℕ) → sum_to n (λ j. cond (eqb (w / 2 ^ j % 2) 1) (2 ^ j) 0) ≡ w % 2 ^ n
unfolding sum_to
bits_sum zero w = omega arith
bits_sum (suc n) w = go (bits_sum n w) (eqb (w / 2 ^ n % 2) 1) refl
  where
    more : w % 2 ^ suc n ≡ (w / 2 ^ n % 2) * 2 ^ n + w % 2 ^ n
    more = ap (λ m. w % 2 ^ m) (sym (one-add n)) ∙ mod-pow-add w 1 n

    go : sum_to n (λ j. cond (eqb (w / 2 ^ j % 2) 1) (2 ^ j) 0) ≡ w % 2 ^ n → (b : Bool) → eqb (w / 2 ^ n % 2) 1 ≡ b → sum_to n (λ j. cond (eqb (w / 2 ^ j % 2) 1) (2 ^ j) 0) + cond b (2 ^ n) 0 ≡ w % 2 ^ suc n
    go ih true h = rw (more, ih, eqb-true _ _ h) (omega arith)
    go ih false h = let z : w / 2 ^ n % 2 ≡ 0 = omega (arith, eqb-false _ _ h) in rw (more, ih, z) (omega arith)

module _ (ws : List ℕ) (e : length ws ≡ 32) (small : (k : ℕ) → row ws k < 2 ^ 64) where
  -- A word of the dirty map comes back from its bits.
  map_word_back : (h k : ℕ) → k < 10 → row (take 10 (drop 22 ws)) k ≡ map_word h (dirty_of h ws) k
  unfolding map_word
  map_word_back h k l = sym (sum_same 64 _ (λ j. cond (eqb (row ws (22 + k) / 2 ^ j % 2) 1) (2 ^ j) 0) at ∙ bits_sum 64 (row ws (22 + k)) ∙ omega (arith, small (22 + k)) ∙ sym (get_or-take 10 (drop 22 ws) k 0 l ∙ get_or-drop 22 ws k 0))
    where
      place : (j : ℕ) → j < 64 → bit (drop 22 ws) (64 * k + j) ≡ eqb (row ws (22 + k) / 2 ^ j % 2) 1
      place j m =
          let d : (64 * k + j) / 64 ≡ k = omega arith in
          let r : (64 * k + j) % 64 ≡ j = omega arith in
          ap (λ n. eqb (row (drop 22 ws) n / 2 ^ ((64 * k + j) % 64) % 2) 1) d ∙ ap (λ n. eqb (row (drop 22 ws) k / 2 ^ n % 2) 1) r ∙ ap (λ w. eqb (w / 2 ^ j % 2) 1) (get_or-drop 22 ws k 0)

      at : (j : ℕ) → j < 64 → cond (dirty_of h ws (8 ^ h + (64 * k + j))) (2 ^ j) 0 ≡ cond (eqb (row ws (22 + k) / 2 ^ j % 2) 1) (2 ^ j) 0
      at j m =
          let n : 8 ^ h + (64 * k + j) - 8 ^ h ≡ 64 * k + j = omega arith in
          ap (λ b. cond (b && bit (drop 22 ws) (8 ^ h + (64 * k + j) - 8 ^ h)) (2 ^ j) 0) (le-leb (8 ^ h) (8 ^ h + (64 * k + j)) (omega arith))
          ∙ ap (λ x. cond (bit (drop 22 ws) x) (2 ^ j) 0) n
          ∙ ap (λ b. cond b (2 ^ j) 0) (place j m)

  listed_back : (n : ℕ) (xs : List ℕ) → length xs ≡ n → listed n (row xs) ≡ xs
  listed_back n xs h = sym (fill_by_all (row xs) xs n 0 h (λ k l. refl))

  -- What 32 words say comes back from the register that they mean.
  pub words_again : words_of (register_in ws) ≡ said ws
  unfolding words_of register_in encoded
  words_again =
      ap (λ r. row ws 0 ∷ row ws 1 ∷ row ws 2 ∷ (r ++ (row ws 11 ∷ (journal_words (journal_of (row ws 12) ws) ++ listed 10 (map_word (row ws 1) (dirty_of (row ws 1) ws)))))) (listed_back 8 (take 8 (drop 3 ws)) (part_length ws e 3 (omega arith)))
      ∙ ap (λ d. row ws 0 ∷ row ws 1 ∷ row ws 2 ∷ (take 8 (drop 3 ws) ++ (row ws 11 ∷ (journal_words (journal_of (row ws 12) ws) ++ d)))) (sym (fill_by_all (map_word (row ws 1) (dirty_of (row ws 1) ws)) (take 10 (drop 22 ws)) 10 0 ten (map_word_back (row ws 1))))
      ∙ ap (λ j. row ws 0 ∷ row ws 1 ∷ row ws 2 ∷ (take 8 (drop 3 ws) ++ (row ws 11 ∷ (j ++ take 10 (drop 22 ws))))) (journal_case (eqb (row ws 12) no_address))
      ∙ again ws e
    where
      ten : length (take 10 (drop 22 ws)) ≡ 10
      ten = simp (length-take, length-drop) (omega arith)

      journal_case : (b : Bool) → journal_words (cond b none (some (record { at = row ws 12; line = journal_line ws }))) ≡ journal_encoded (cond b None (Some (entry_of 0 0 0 0 (row ws 12) (take 8 (drop 13 ws)) (row ws 21))))
      journal_case true = refl
      journal_case false = ap (λ b. row ws 12 ∷ (b ++ (row ws 21 ∷ []))) (listed_back 8 (take 8 (drop 13 ws)) (part_length ws e 13 (omega arith)))

-- Words with one set, as a function of their place.
row_set : (xs : List ℕ) (i c : ℕ) → i < length xs → row (set xs i c) ≡ update (row xs) i c
row_set xs i c n = fun_ext (λ k. go k (cases_eq k i))
  where
    go : (k : ℕ) → (k ≡ i) ⊎ (k ≡ i → ⊥) → get_or (set xs i c) k 0 ≡ cond (eqb k i) c (get_or xs k 0)
    go k (inl e) = rw (eq-eqb k i e) (ap (λ j. get_or (set xs i c) j 0) e ∙ get_or-set_same xs i c 0 n)
    go k (inr e) = rw (ne_eqb k i e) (get_or-set_other xs i k c 0 e)

-- A root's counter set among the words.
root_fields : (i : ℕ) → i < 8 → (c : ℕ) (ws : List ℕ) → length ws ≡ 32 → decoded (set ws (3 + i) c) ≡ record { formatted = row ws 0; levels = row ws 1; suite = row ws 2; roots = set (take 8 (drop 3 ws)) i c; dirty_sum = row ws 11; journal = (decoded ws).journal; dirty = (decoded ws).dirty }
root_fields zero h c = by_rows 32 _ (λ f. refl)
root_fields (suc zero) h c = by_rows 32 _ (λ f. refl)
root_fields (suc (suc zero)) h c = by_rows 32 _ (λ f. refl)
root_fields (suc (suc (suc zero))) h c = by_rows 32 _ (λ f. refl)
root_fields (suc (suc (suc (suc zero)))) h c = by_rows 32 _ (λ f. refl)
root_fields (suc (suc (suc (suc (suc zero))))) h c = by_rows 32 _ (λ f. refl)
root_fields (suc (suc (suc (suc (suc (suc zero)))))) h c = by_rows 32 _ (λ f. refl)
root_fields (suc (suc (suc (suc (suc (suc (suc zero))))))) h c = by_rows 32 _ (λ f. refl)
root_fields (suc (suc (suc (suc (suc (suc (suc (suc i)))))))) h c = absurd (omega arith)

pub root_meant : (ws : List ℕ) (i c : ℕ) → length ws ≡ 32 → i < 8 → register_in (set ws (3 + i) c) ≡ with_counter (register_in ws) i c
unfolding register_meant register_in
root_meant ws i c e h =
    sym (same_meaning (set ws (3 + i) c) (length-set ws (3 + i) c ∙ e)) ∙ ap register_meant (root_fields i h c ws e)
    ∙ (λ z. record {
      formatted = (same_meaning ws e z).formatted;
      levels = (same_meaning ws e z).levels;
      suite = (same_meaning ws e z).suite;
      roots = row_set (take 8 (drop 3 ws)) i c (omega (arith, part_length ws e 3 (omega arith))) z;
      dirty_sum = (same_meaning ws e z).dirty_sum;
      journal = (same_meaning ws e z).journal;
      dirty = (same_meaning ws e z).dirty;
    })

-- A commit's dirty sum, journal and dirty map put among the words.
pub commit_put : (ws : List ℕ) (sum : ℕ) (j : Entry) (dirty : List ℕ) → length ws ≡ 32 → length j.line.body ≡ 8 → take 22 (with_journal (set ws 11 sum) (Some j)) ++ (dirty ++ drop 32 (with_journal (set ws 11 sum) (Some j))) ≡ with_commit ws sum j dirty
commit_put ws sum j dirty e h =
    by_rows 32 (λ w. take 22 (with_journal (set w 11 sum) (Some j)) ++ (dirty ++ drop 32 (with_journal (set w 11 sum) (Some j))) ≡ with_commit w sum j dirty)
    (λ f. by_rows 8 (λ b. take 22 (with_journal (set (listed 32 f) 11 sum) (Some (entry_of 0 0 0 0 j.at b j.line.tag))) ++ (dirty ++ drop 32 (with_journal (set (listed 32 f) 11 sum) (Some (entry_of 0 0 0 0 j.at b j.line.tag)))) ≡ with_commit (listed 32 f) sum (entry_of 0 0 0 0 j.at b j.line.tag) dirty)
    (λ g. ap (λ d. take 22 (with_commit (listed 32 f) sum (entry_of 0 0 0 0 j.at (listed 8 g) j.line.tag) []) ++ d) (append-nil dirty)) j.line.body h) ws e

commit_fields : (ws : List ℕ) (sum : ℕ) (j : Entry) (dirty : List ℕ) → length ws ≡ 32 → length j.line.body ≡ 8 → length dirty ≡ 10 → (j.at ≡ no_address → ⊥) → decoded (with_commit ws sum j dirty) ≡ record { formatted = row ws 0; levels = row ws 1; suite = row ws 2; roots = take 8 (drop 3 ws); dirty_sum = sum; journal = Some j; dirty = dirty }
commit_fields ws sum j dirty e h k n =
    by_rows 32 (λ w. decoded (with_commit w sum j dirty) ≡ fields (row w 0) (row w 1) (row w 2) sum (take 8 (drop 3 w)) (Some j) dirty)
    (λ f. by_rows 8 (λ b. decoded (with_commit (listed 32 f) sum (entry_of 0 0 0 0 j.at b j.line.tag) dirty) ≡ fields (f 0) (f 1) (f 2) sum (take 8 (drop 3 (listed 32 f))) (Some (entry_of 0 0 0 0 j.at b j.line.tag)) dirty)
    (λ g. by_rows 10 (λ d. decoded (with_commit (listed 32 f) sum (entry_of 0 0 0 0 j.at (listed 8 g) j.line.tag) d) ≡ fields (f 0) (f 1) (f 2) sum (take 8 (drop 3 (listed 32 f))) (Some (entry_of 0 0 0 0 j.at (listed 8 g) j.line.tag)) d)
    (λ x. ap (λ b. fields (f 0) (f 1) (f 2) sum (take 8 (drop 3 (listed 32 f))) (cond b None (Some (entry_of 0 0 0 0 j.at (listed 8 g) j.line.tag))) (listed 10 x)) (ne_eqb j.at no_address n)) dirty k) j.line.body h) ws e

pub commit_meant : (ws : List ℕ) (sum : ℕ) (j : Entry) (dirty : List ℕ) → length ws ≡ 32 → length j.line.body ≡ 8 → length dirty ≡ 10 → (j.at ≡ no_address → ⊥) → length (with_commit ws sum j dirty) ≡ 32 → register_in (with_commit ws sum j dirty) ≡ committed (register_in ws) sum j dirty
unfolding register_meant register_in
commit_meant ws sum j dirty e h k n l = sym (same_meaning (with_commit ws sum j dirty) l) ∙ ap register_meant (commit_fields ws sum j dirty e h k n)
