-- The tree of counters by its arithmetic, and the few functions on numbers that the definitions use.
use Rattle.std.specs.Prelude.{◌≡◌, ℕ, zero, suc, ◌+◌, ◌-◌, ◌*◌, ◌/◌, ◌%◌, ◌^◌, ◌<◌, ◌≤◌, Bool, true, cond, ◌&&◌, ◌==◌, nat_le, nat_lt}
use Rattle.std.proofs.Math.Option.{Option, some, none}

-- A layout of lines: the data lines come first, then the nodes. The number of all lines is also the address that stands for the root.
pub record Shape : Type 0 where
  pub data_lines : ℕ  -- how many data lines there are
  pub lines : ℕ  -- how many lines there are; the root's address
  pub parent : ℕ → ℕ  -- the node that holds a line's counter
  pub index : ℕ → ℕ  -- which of the parent's counters it is
  pub child : ℕ → ℕ → ℕ  -- the line whose counter is a node's i-th
  pub arity : ℕ → ℕ  -- how many counters a node has
  pub depth : ℕ → ℕ  -- how many steps up to the root
  pub limit : ℕ → ℕ  -- the largest counter of a line

-- What a layout must obey.
pub record TreeLaws (T : Shape) : Type 0 where
  pub some_lines : 1 ≤ T.lines
  pub data_in : T.data_lines ≤ T.lines
  -- a parent is a node, at a higher address, or the root
  pub parent_above : (a : ℕ) → a < T.lines → a < T.parent a
  pub parent_node : (a : ℕ) → a < T.lines → T.data_lines ≤ T.parent a
  pub parent_in : (a : ℕ) → a < T.lines → T.parent a ≤ T.lines
  -- a line is the child of its parent at its index
  pub index_in : (a : ℕ) → a < T.lines → T.index a < T.arity (T.parent a)
  pub child_index : (a : ℕ) → a < T.lines → T.child (T.parent a) (T.index a) ≡ a
  -- a node's children are lines, and it is their parent
  pub child_in : (p i : ℕ) → T.data_lines ≤ p → p ≤ T.lines → i < T.arity p → T.child p i < T.lines
  pub parent_child : (p i : ℕ) → T.data_lines ≤ p → p ≤ T.lines → i < T.arity p → T.parent (T.child p i) ≡ p
  pub index_child : (p i : ℕ) → T.data_lines ≤ p → p ≤ T.lines → i < T.arity p → T.index (T.child p i) ≡ i
  -- the children of one node are all data lines, or none is
  pub leaf_children : (a b : ℕ) → a < T.data_lines → b < T.lines → T.parent a ≡ T.parent b → b < T.data_lines
  -- steps to the root
  pub depth_root : T.depth T.lines ≡ 0
  pub depth_parent : (a : ℕ) → a < T.lines → T.depth a ≡ suc (T.depth (T.parent a))

-- A function with another value at one place.
abbrev pub update {ℓ} : {A : Type ℓ} → (ℕ → A) → ℕ → A → ℕ → A
update f a x q = cond (q == a) x (f q)

-- The sum of f 0 to f (n − 1).
unfoldable pub sum_to : ℕ → (ℕ → ℕ) → ℕ
sum_to zero f = 0
sum_to (suc n) f = sum_to n f + f n

-- Whether the test passes at 0 to n − 1.
unfoldable pub every : ℕ → (ℕ → Bool) → Bool
every zero f = true
every (suc n) f = every n f && f n

-- A number found before, or else n where the test passes there.
abbrev pub or_last : ℕ → Option ℕ → Bool → Option ℕ
or_last n (some x) b = some x
or_last n none b = cond b (some n) none

-- The lowest number below n at which the test passes.
unfoldable pub first : ℕ → (ℕ → Bool) → Option ℕ
first zero f = none
first (suc n) f = or_last n (first n f) (f n)

-- The function f below n, and 0 from there on.
abbrev pub clip : ℕ → (ℕ → ℕ) → ℕ → ℕ
clip n f i = cond (nat_lt i n) (f i) 0

-- The smallest number not below `stored` that agrees with `low` modulo 1,024.
abbrev pub restored : ℕ → ℕ → ℕ
restored stored low = stored + (low + 1024 - stored % 1024) % 1024

-- Lines for each number of levels: 8, 72, 584, 4,680.
abbrev pub lines_of : ℕ → ℕ
lines_of zero = 0
lines_of (suc h) = 8 ^ suc h + lines_of h

-- Steps from a up to the root n by the function `above`, counted up to f.
abbrev pub depth_by : (ℕ → ℕ) → ℕ → ℕ → ℕ → ℕ
depth_by above n zero a = 0
depth_by above n (suc f) a = cond (nat_lt a n) (suc (depth_by above n f (above a))) 0

-- The largest counter, 2 ^ 48 − 1.
abbrev pub counter_limit : ℕ
counter_limit = 281474976710655

-- Whether no counter of a node is above the limit.
unfoldable pub all_within : (ℕ → ℕ) → Bool
all_within f = every 8 (λ i. nat_le (f i) counter_limit)

-- The layout with eight counters to a node, at h levels.
abbrev pub eight_ary : ℕ → Shape
eight_ary h =
    record {
      data_lines = 8 ^ h;
      lines = lines_of h;
      parent = λ a. 8 ^ h + a / 8;
      index = λ a. a % 8;
      child = λ p i. 8 * (p - 8 ^ h) + i;
      arity = λ p. 8;
      depth = depth_by (λ a. 8 ^ h + a / 8) (lines_of h) h;
      limit = λ a. counter_limit;
    }

-- A layout with sixteen counters to a leaf, at h + 1 levels (h from 1 to 3): what holds of every layout holds of it too.
abbrev pub sixteen_ary : ℕ → Shape
sixteen_ary h =
    record {
      data_lines = 16 * 8 ^ h;
      lines = 16 * 8 ^ h + lines_of h;
      parent = λ a. cond (nat_lt a (16 * 8 ^ h)) (16 * 8 ^ h + a / 16) (16 * 8 ^ h + 8 ^ h + (a - 16 * 8 ^ h) / 8);
      index = λ a. cond (nat_lt a (16 * 8 ^ h)) (a % 16) ((a - 16 * 8 ^ h) % 8);
      child = λ p i. cond (nat_lt (p - 16 * 8 ^ h) (8 ^ h)) (16 * (p - 16 * 8 ^ h) + i) (16 * 8 ^ h + 8 * (p - 16 * 8 ^ h - 8 ^ h) + i);
      arity = λ p. cond (nat_lt (p - 16 * 8 ^ h) (8 ^ h)) 16 8;
      depth = depth_by (λ a. cond (nat_lt a (16 * 8 ^ h)) (16 * 8 ^ h + a / 16) (16 * 8 ^ h + 8 ^ h + (a - 16 * 8 ^ h) / 8)) (16 * 8 ^ h + lines_of h) (suc h);
      limit = λ a. cond (nat_lt a (16 * 8 ^ h)) 4294967295 counter_limit;
    }

-- The layouts of one to four levels whose leaves have sixteen counters; one level has no leaf.
abbrev pub sixteen_leaves : ℕ → Shape
sixteen_leaves zero = eight_ary 0
sixteen_leaves (suc zero) = eight_ary 1
sixteen_leaves (suc (suc h)) = sixteen_ary (suc h)
