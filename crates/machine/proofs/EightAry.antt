-- The layout with eight counters to a node obeys the tree laws, at one to four levels.
use Rattle.std.proofs.Common.{◌≡◌, ℕ, zero, suc, ◌+◌, ◌*◌, ◌/◌, ◌^◌, ◌<◌, ◌≤◌, cond, ltb, sym, refl, ap, ◌∙◌, arith}
use Rattle.std.proofs.lemmas.Bool.{lt-ltb, le-ltb}
use Rattle.machine.specs.Layout.{TreeLaws, eight_ary, lines_of, depth_by}
use Rattle.machine.specs.Promises.{TreeLayouts}

-- f steps up from a line.
abbrev pub climb : (ℕ → ℕ) → ℕ → ℕ → ℕ
climb above zero a = a
climb above (suc f) a = climb above f (above a)

module _ (above : ℕ → ℕ) (n : ℕ) where
  -- Steps are counted alike with one more turn, once the root is reached.
  enough : (f a : ℕ) → n ≤ climb above f a → depth_by above n f a ≡ depth_by above n (suc f) a
  enough zero a k = sym (ap (λ b. cond b (suc 0) 0) (le-ltb a n k))
  enough (suc f) a k = ap (λ r. cond (ltb a n) (suc r) 0) (enough f (above a) k)

  pub depth_step : (f a : ℕ) → a < n → n ≤ climb above f (above a) → depth_by above n (suc f) a ≡ suc (depth_by above n (suc f) (above a))
  depth_step f a k c = ap (λ b. cond b (suc (depth_by above n f (above a))) 0) (lt-ltb a n k) ∙ ap suc (enough f (above a) c)

  pub root_step : (f : ℕ) → depth_by above n (suc f) n ≡ 0
  root_step f = ap (λ b. cond b (suc (depth_by above n f (above n))) 0) (le-ltb n n (omega arith))

-- The laws at suc f levels, from three facts on the numbers of lines and one on the way up.
tree_of : (f m : ℕ) → 8 ^ suc f ≡ 8 * m → lines_of (suc f) ≡ 8 * lines_of f + 8 → ((a : ℕ) → lines_of (suc f) ≤ climb (λ x. 8 ^ suc f + x / 8) f (8 ^ suc f + a / 8)) → TreeLaws (eight_ary (suc f))
tree_of f m e s c =
    record {
      some_lines = omega arith;
      data_in = omega arith;
      parent_above = λ a k. omega arith;
      parent_node = λ a k. omega arith;
      parent_in = λ a k. omega arith;
      index_in = λ a k. omega arith;
      child_index = λ a k. omega arith;
      child_in = λ p i n k j. omega arith;
      parent_child = λ p i n k j. omega arith;
      index_child = λ p i n k j. omega arith;
      leaf_children = λ a b h k d. omega arith;
      depth_root = root_step (λ x. 8 ^ suc f + x / 8) (lines_of (suc f)) f;
      depth_parent = λ a k. depth_step (λ x. 8 ^ suc f + x / 8) (lines_of (suc f)) f a k (c a);
    }

pub eight_trees : TreeLayouts eight_ary
eight_trees zero k j = absurd (omega arith)
eight_trees (suc zero) k j = tree_of 0 1 refl refl (λ a. omega arith)
eight_trees (suc (suc zero)) k j = tree_of 1 8 refl refl (λ a. omega arith)
eight_trees (suc (suc (suc zero))) k j = tree_of 2 64 refl refl (λ a. omega arith)
eight_trees (suc (suc (suc (suc zero)))) k j = tree_of 3 512 refl refl (λ a. omega arith)
eight_trees (suc (suc (suc (suc (suc h))))) k j = absurd (omega arith)

-- There are at most 584 nodes.
pub lines_near : (h : ℕ) → 1 ≤ h → h ≤ 4 → lines_of h ≤ 8 ^ h + 584
lines_near zero k j = absurd (omega arith)
lines_near (suc zero) k j = omega arith
lines_near (suc (suc zero)) k j = omega arith
lines_near (suc (suc (suc zero))) k j = omega arith
lines_near (suc (suc (suc (suc zero)))) k j = omega arith
lines_near (suc (suc (suc (suc (suc h))))) k j = absurd (omega arith)
