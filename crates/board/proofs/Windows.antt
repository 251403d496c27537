-- A run of the lines below: how many there are, and which line below stands at an address of it.
use Rattle.std.proofs.Common.{◌≡◌, ℕ, ◌+◌, ◌-◌, ◌<◌, ◌≤◌, min, List, length, take, drop, set, Some, None, Option, sym, ◌∙◌, subst, arith, rules, MatchOption}
use Rattle.std.proofs.lemmas.List.{same_lists, places, length-set, length-take, length-drop, get_or-set_same, get_or-take, get_or-drop}
use Rattle.std.proofs.lemmas.Bool.{cases_eq}
use Rattle.board.specs.Piles.{Shows}
use Rattle.board.specs.declared.types.Line.{Line}

pub window_count : (xs : List Line) (start len : ℕ) → length (take len (drop start xs)) ≡ min len (length xs - start)
window_count xs start len = simp (length-take, length-drop)

window_set : (xs : List Line) (start len at : ℕ) (l : Line) → at < length (take len (drop start xs)) → take len (drop start (set xs (start + at) l)) ≡ set (take len (drop start xs)) at l
window_set xs start len at l h =
    let n = window_count xs start len in
    same_lists _ _ (search (rules, places, length-set)) (λ k d kh. grind (arith, places, get_or-set_same, length-set, cases_eq k at))

pub window_at : (xs : List Line) (start len at : ℕ) → at < length (take len (drop start xs)) → Shows xs start len at (start + at)
window_at xs start len at within =
    let less : at < len = omega (arith, within, window_count xs start len) in
    record {
      place = λ i. start + at;
      within = within;
      there = omega (arith, within, window_count xs start len);
      reads = λ d. get_or-take len (drop start xs) at d less ∙ get_or-drop start xs at d;
      puts = λ l. window_set xs start len at l within;
    }

-- So an answer by the count of the lines below is right.
pub window_shows : (xs : List Line) (start len at n : ℕ) → n ≡ length xs → (r : Option ℕ) → MatchOption r (min len (n - start) ≤ at) (λ k. (at < min len (n - start)) × (k ≡ start + at)) → MatchOption r (length (take len (drop start xs)) ≤ at) (λ k. Shows xs start len at k)
window_shows xs start len at n e (Some k) h = subst (Shows xs start len at) (sym h.1) (window_at xs start len at (omega (arith, h.0, window_count xs start len)))
window_shows xs start len at n e None h = omega (arith, window_count xs start len)
