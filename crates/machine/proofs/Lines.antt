-- What a right tag says of a line in memory.
use Rattle.std.proofs.Common.{◌≡◌, ℕ, ◌-◌, ◌%◌, ◌<◌, ◌≤◌, Bool, true, false, cond, eqb, ltb, leb, refl, inl, inr, arith}
use Rattle.std.proofs.lemmas.Bool.{eq-eqb, le-ltb, lt-ltb, and_parts, and_from, le-leb}
use Rattle.suite.specs.Scheme.{Body, Line, Scheme, tag_of, right, data_line, node_line, mix}
use Rattle.machine.specs.Layout.{Shape, TreeLaws}
use Rattle.machine.specs.Store.{line_at, Register, Log}
use Rattle.machine.specs.Plans.{node_valid, child_counter}
use Rattle.machine.specs.History.{counter_in, body_in}
use Rattle.machine.specs.Laws.{Stands}
use Rattle.machine.proofs.Invariant.{Durable, Fine}
use Rattle.machine.proofs.Basics.{every_from}
use Rattle.machine.proofs.Restoring.{restored_le, restored_is}

-- A committed line has the right tag under its counter.
pub line_right : (T : Shape) (S : Scheme) (a c : ℕ) (b : Body) → right S a c (line_at T S a c b) ≡ true
unfolding right line_at
line_right T S a c b = go (ltb a T.data_lines)
  where
    go : (d : Bool) → eqb (cond d (data_line S a c b) (node_line S a c b)).tag (tag_of S a (cond d (data_line S a c b) (node_line S a c b)).words c) ≡ true
    go true = eq-eqb _ _ refl
    go false = eq-eqb _ _ refl

-- A committed node line stores its counters.
pub node_words : (T : Shape) (S : Scheme) (p c : ℕ) (b : Body) → T.data_lines ≤ p → (line_at T S p c b).words ≡ b
unfolding line_at
node_words T S p c b h = rw (le-ltb p T.data_lines h)

pub data_words : (T : Shape) (S : Scheme) (a c : ℕ) (b : Body) → a < T.data_lines → (line_at T S a c b).words ≡ mix b (S.pad a c)
unfolding line_at
data_words T S a c b h = rw (lt-ltb a T.data_lines h)

-- The low bits of a committed line's tag.
pub tag_low : (T : Shape) (S : Scheme) (a c : ℕ) (b : Body) → (line_at T S a c b).tag % 1024 ≡ c % 1024
unfolding line_at tag_of
tag_low T S a c b = go (ltb a T.data_lines)
  where
    go : (d : Bool) → (cond d (data_line S a c b) (node_line S a c b)).tag % 1024 ≡ c % 1024
    go true = omega arith
    go false = omega arith

module _ (shapes : ℕ → Shape) (T : Shape) (S : Scheme) (l : Log) (g : Register) (D : Durable T S l g) (m : ℕ → Line) where
  -- A line that is right under its current counter stands.
  pub right_stands : (a : ℕ) → a < T.lines → Fine shapes T S l m a → right S a (counter_in l a) (m a) ≡ true → Stands T S l m a
  right_stands a k (inl s) r = s
  right_stands a k (inr p) r =
      let (b, w, e) = p (counter_in l a) (D.small a k) r in
      rw (D.one a (counter_in l a) b (body_in l a) w (D.latest a k)) at e

  pub stands_right : (a : ℕ) → Stands T S l m a → right S a (counter_in l a) (m a) ≡ true
  stands_right a s = rw s (line_right T S a (counter_in l a) (body_in l a))

  -- Whatever its counter, a node line that is right holds no counter above the child's.
  pub line_le : (p c : ℕ) → T.data_lines ≤ p → p < T.lines → Fine shapes T S l m p → c ≤ T.limit p → right S p c (m p) ≡ true → (i : ℕ) → i < T.arity p → (m p).words i ≤ counter_in l (T.child p i)
  line_le p c n k (inl s) q r i j =
      rw (s, node_words T S p (counter_in l p) (body_in l p) n) (D.older p (counter_in l p) (body_in l p) n (D.latest p k) i j)
  line_le p c n k (inr f) q r i j =
      let (b, w, e) = f c q r in
      rw (e, node_words T S p c b n) (D.older p c b n w i j)

  -- A restored counter is no larger than the true one.
  pub child_le : (p i : ℕ) → T.child p i < T.lines → (m p).words i ≤ counter_in l (T.child p i) → Fine shapes T S l m (T.child p i) → child_counter T m p i ≤ T.limit (T.child p i) → right S (T.child p i) (child_counter T m p i) (m (T.child p i)) ≡ true → child_counter T m p i ≤ counter_in l (T.child p i)
  child_le p i k h (inl s) q r =
      let e : (m (T.child p i)).tag % 1024 ≡ counter_in l (T.child p i) % 1024 = rw s (tag_low T S (T.child p i) (counter_in l (T.child p i)) (body_in l (T.child p i))) in
      rw e (restored_le ((m p).words i) (counter_in l (T.child p i)) h)
  child_le p i k h (inr f) q r =
      let (b, w, e) = f (child_counter T m p i) q r in (D.known (T.child p i) (child_counter T m p i) b w).1

  -- And it is the true one where the child stands and the stored counter is not far behind.
  pub child_is : (p i : ℕ) → (m p).words i ≤ counter_in l (T.child p i) → counter_in l (T.child p i) - (m p).words i ≤ 1023 → Stands T S l m (T.child p i) → child_counter T m p i ≡ counter_in l (T.child p i)
  child_is p i h d s =
      let e : (m (T.child p i)).tag % 1024 ≡ counter_in l (T.child p i) % 1024 = rw s (tag_low T S (T.child p i) (counter_in l (T.child p i)) (body_in l (T.child p i))) in
      rw e (restored_is ((m p).words i) (counter_in l (T.child p i)) h d)

  -- A node line that stands is valid.
  pub stands_valid : TreeLaws T → (p : ℕ) → T.data_lines ≤ p → p < T.lines → Stands T S l m p → node_valid T S m p (counter_in l p) ≡ true
  unfolding node_valid
  stands_valid L p n k s =
      and_from _ _ (stands_right p s)
      (every_from (T.arity p) (λ i. leb ((m p).words i) (T.limit (T.child p i))) λ i j.
      le-leb _ _
      (rw (s, node_words T S p (counter_in l p) (body_in l p) n)
      (omega (arith, D.older p (counter_in l p) (body_in l p) n (D.latest p k) i j, D.small (T.child p i) (L.child_in p i n (omega arith) j)))))

pub valid_right : (T : Shape) (S : Scheme) (m : ℕ → Line) (p c : ℕ) → node_valid T S m p c ≡ true → right S p c (m p) ≡ true
unfolding node_valid
valid_right T S m p c e = (and_parts _ _ e).0
