-- The layout with sixteen counters to a leaf obeys the tree laws too.
use Rattle.std.proofs.Common.{◌≡◌, ℕ, zero, suc, ◌+◌, ◌-◌, ◌*◌, ◌/◌, ◌%◌, ◌^◌, ◌<◌, ◌≤◌, ltb, ◌⊎◌, sym, refl, ap, ◌∙◌, subst, inl, inr, arith}
use Rattle.std.proofs.lemmas.Bool.{lt-ltb, le-ltb, cases_lt, cond-true, cond-false}
use Rattle.machine.specs.Layout.{Shape, TreeLaws, sixteen_ary, sixteen_leaves, lines_of}
use Rattle.machine.specs.Promises.{TreeLayouts}
use Rattle.machine.proofs.EightAry.{climb, depth_step, root_step, eight_trees}

module _ (f m : ℕ) (e : 8 ^ suc f ≡ 8 * m) (s : lines_of (suc f) ≡ 8 * lines_of f + 8) (c : (a : ℕ) → lines_of (suc f) ≤ climb (λ x. 8 ^ suc f + x / 8) f (8 ^ suc f + a / 8)) where
  abbrev N : ℕ
  N = 8 ^ suc f

  abbrev B : ℕ
  B = 16 * N

  abbrev T : Shape
  T = sixteen_ary (suc f)

  -- The parent of a data line, and of a node.
  parent_data : (a : ℕ) → a < B → T.parent a ≡ B + a / 16
  parent_data a k = cond-true (ltb a B) _ _ (lt-ltb a B k)

  parent_of_node : (a : ℕ) → B ≤ a → T.parent a ≡ B + N + (a - B) / 8
  parent_of_node a k = cond-false (ltb a B) _ _ (le-ltb a B k)

  index_data : (a : ℕ) → a < B → T.index a ≡ a % 16
  index_data a k = cond-true (ltb a B) _ _ (lt-ltb a B k)

  index_node : (a : ℕ) → B ≤ a → T.index a ≡ (a - B) % 8
  index_node a k = cond-false (ltb a B) _ _ (le-ltb a B k)

  child_leaf : (p i : ℕ) → p - B < N → T.child p i ≡ 16 * (p - B) + i
  child_leaf p i k = cond-true (ltb (p - B) (N)) _ _ (lt-ltb _ _ k)

  child_node : (p i : ℕ) → N ≤ p - B → T.child p i ≡ B + 8 * (p - B - N) + i
  child_node p i k = cond-false (ltb (p - B) (N)) _ _ (le-ltb _ _ k)

  arity_leaf : (p : ℕ) → p - B < N → T.arity p ≡ 16
  arity_leaf p k = cond-true (ltb (p - B) (N)) _ _ (lt-ltb _ _ k)

  arity_node : (p : ℕ) → N ≤ p - B → T.arity p ≡ 8
  arity_node p k = cond-false (ltb (p - B) (N)) _ _ (le-ltb _ _ k)

  -- Two cases for a line, and for a node.
  line_cases : (P : Type 0) (a : ℕ) → (a < B → P) → (B ≤ a → P) → P
  line_cases P a x y = go (cases_lt a B)
    where
      go : (a < B) ⊎ (B ≤ a) → P
      go (inl k) = x k
      go (inr k) = y k

  node_cases : (P : Type 0) (p : ℕ) → (p - B < N → P) → (N ≤ p - B → P) → P
  node_cases P p x y = go (cases_lt (p - B) N)
    where
      go : (p - B < N) ⊎ (N ≤ p - B) → P
      go (inl k) = x k
      go (inr k) = y k

  p_up : (a : ℕ) → a < T.lines → a < T.parent a
  p_up a k = line_cases _ a (λ i. omega (arith, parent_data a i)) (λ i. omega (arith, parent_of_node a i))

  p_node : (a : ℕ) → a < T.lines → B ≤ T.parent a
  p_node a k = line_cases _ a (λ i. omega (arith, parent_data a i)) (λ i. omega (arith, parent_of_node a i))

  p_in : (a : ℕ) → a < T.lines → T.parent a ≤ T.lines
  p_in a k = line_cases _ a (λ i. omega (arith, parent_data a i)) (λ i. omega (arith, parent_of_node a i))

  s_in : (a : ℕ) → a < T.lines → T.index a < T.arity (T.parent a)
  s_in a k =
      line_cases _ a
      (λ i. omega (arith, index_data a i, arity_leaf (T.parent a) (omega (arith, parent_data a i))))
      (λ i. omega (arith, index_node a i, arity_node (T.parent a) (omega (arith, parent_of_node a i))))

  c-index : (a : ℕ) → a < T.lines → T.child (T.parent a) (T.index a) ≡ a
  c-index a k =
      line_cases _ a
      (λ i. omega (arith, parent_data a i, index_data a i, child_leaf (T.parent a) (T.index a) (omega (arith, parent_data a i))))
      (λ i. omega (arith, parent_of_node a i, index_node a i, child_node (T.parent a) (T.index a) (omega (arith, parent_of_node a i))))

  c_in : (p i : ℕ) → B ≤ p → p ≤ T.lines → i < T.arity p → T.child p i < T.lines
  c_in p i n k j =
      node_cases _ p (λ x. omega (arith, child_leaf p i x, arity_leaf p x)) (λ x. omega (arith, child_node p i x, arity_node p x))

  p_child : (p i : ℕ) → B ≤ p → p ≤ T.lines → i < T.arity p → T.parent (T.child p i) ≡ p
  p_child p i n k j =
      node_cases _ p
      (λ x. omega (arith, child_leaf p i x, arity_leaf p x, parent_data (T.child p i) (omega (arith, child_leaf p i x, arity_leaf p x))))
      (λ x. omega (arith, child_node p i x, arity_node p x, parent_of_node (T.child p i) (omega (arith, child_node p i x))))

  s_child : (p i : ℕ) → B ≤ p → p ≤ T.lines → i < T.arity p → T.index (T.child p i) ≡ i
  s_child p i n k j =
      node_cases _ p
      (λ x. omega (arith, child_leaf p i x, arity_leaf p x, index_data (T.child p i) (omega (arith, child_leaf p i x, arity_leaf p x))))
      (λ x. omega (arith, child_node p i x, arity_node p x, index_node (T.child p i) (omega (arith, child_node p i x))))

  leaf_mate : (a b : ℕ) → a < B → b < T.lines → T.parent a ≡ T.parent b → b < B
  leaf_mate a b h k d = line_cases _ b (λ i. i) (λ i. absurd (omega (arith, parent_data a h, parent_of_node b i)))

  -- Above the data the way up is that of eight counters to a node.
  climbs : (k x : ℕ) → climb T.parent k (B + x) ≡ B + climb (λ y. N + y / 8) k x
  climbs zero x = refl
  climbs (suc k) x =
      let z : T.parent (B + x) ≡ B + (N + x / 8) = omega (arith, parent_of_node (B + x) (omega arith)) in
      ap (climb T.parent k) z ∙ climbs k (N + x / 8)

  top : (a : ℕ) → a < T.lines → T.lines ≤ climb T.parent (suc f) (T.parent a)
  top a k =
      let z : T.parent a ≡ B + (T.parent a - B) = omega (arith, p_node a k) in
      subst (λ n. T.lines ≤ n) (sym (ap (climb T.parent (suc f)) z ∙ climbs (suc f) (T.parent a - B))) (omega (arith, c (T.parent a - B)))

  pub sixteen_tree : TreeLaws T
  sixteen_tree =
      record {
        some_lines = omega arith;
        data_in = omega arith;
        parent_above = p_up;
        parent_node = p_node;
        parent_in = p_in;
        index_in = s_in;
        child_index = c-index;
        child_in = c_in;
        parent_child = p_child;
        index_child = s_child;
        leaf_children = leaf_mate;
        depth_root = root_step T.parent T.lines (suc f);
        depth_parent = λ a k. depth_step T.parent T.lines (suc f) a k (top a k);
      }

pub sixteen_trees : TreeLayouts sixteen_leaves
sixteen_trees zero k j = absurd (omega arith)
sixteen_trees (suc zero) k j = eight_trees 1 k j
sixteen_trees (suc (suc zero)) k j = sixteen_tree 0 1 refl refl (λ a. omega arith)
sixteen_trees (suc (suc (suc zero))) k j = sixteen_tree 1 8 refl refl (λ a. omega arith)
sixteen_trees (suc (suc (suc (suc zero)))) k j = sixteen_tree 2 64 refl refl (λ a. omega arith)
sixteen_trees (suc (suc (suc (suc (suc h))))) k j = absurd (omega arith)
