-- A table that keeps its rule has the rule's value at each place.
use Rattle.std.proofs.Common.{◌≡◌, ℕ, zero, suc, ◌+◌, ◌<◌, Bool, true, false, cond, T, eqb, List, [], ◌∷◌, length, get_or, sym, refl, ◌∙◌, subst, le_of_suc-le-suc, not-suc-le-zero, add-zero, add-suc, suc-add, zero-add, eqb→eq}
use Rattle.aes.specs.Columns.{spread, right_from}

first : (a b : Bool) → T (cond a b false) → T a
first true b t = tt
first false b t = t

rest : (a b : Bool) → T (cond a b false) → T b
rest true b t = t
rest false b t = absurd t

from : (xs : List ℕ) (i : ℕ) → T (right_from i xs) → (k : ℕ) → k < length xs → get_or xs k 0 ≡ spread (i + k)
from [] i t k h = absurd (not-suc-le-zero h)
from (x ∷ xs) i t zero h = rw add-zero (eqb→eq x (spread i) (first (eqb x (spread i)) (right_from (suc i) xs) t))
from (x ∷ xs) i t (suc k) h =
    let e : suc i + k ≡ i + suc k = suc-add i k ∙ sym (add-suc i k) in
    subst (λ (m : ℕ). get_or xs k 0 ≡ spread m) e (from xs (suc i) (rest (eqb x (spread i)) (right_from (suc i) xs) t) k (le_of_suc-le-suc h))

pub entry_is : (xs : List ℕ) (b : ℕ) → T (right_from 0 xs) → b < length xs → get_or xs b 0 ≡ spread b
entry_is xs b t h = from xs 0 t b h ∙ rw zero-add refl
