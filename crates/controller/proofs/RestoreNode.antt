-- Restoring one node, from what the code read.
use Rattle.std.proofs.Common.{◌≡◌, ℕ, ◌+◌, ◌-◌, ◌*◌, ◌%◌, ◌^◌, ◌<◌, ◌≤◌, min, Bool, true, false, cond, not, ◌&&◌, ltb, leb, ◌⊎◌, List, length, get_or, set, Ok, Err, Result, sym, refl, ap, ◌∙◌, subst, inl, inr, arith}
use mathlib.Core.Path.{fun_ext}
use Rattle.std.proofs.lemmas.Bool.{cases_lt, lt-ltb, le-ltb, and_parts, and_left, and_right, and_from, le-leb, lt-leb, leb-true, not_from_true, not_from_false}
use Rattle.std.proofs.lemmas.List.{get_or_past, get_or-set_same, get_or-set_other}
use Rattle.board.specs.Meaning.{Meaning}
use Rattle.board.specs.declared.types.Line.{Line}
use Rattle.suite.specs.Scheme.{Line as LineMeant, Scheme, right}
use Rattle.machine.specs.Layout.{Shape, TreeLaws, eight_ary, lines_of, sum_to, clip, restored, counter_limit}
use Rattle.machine.specs.Words.{row, memory_in, line_in, no_line}
use Rattle.machine.specs.Faults.{Fault, fault, Outcome, ok, err, bind, corrupt}
use Rattle.machine.specs.Plans.{View, Table, child_counter, child_valid, slot_unless, slot_from, node_valid, counter_of, restore_node}
use Rattle.machine.specs.Plans.{Slot as DirtyNode}
use Rattle.machine.proofs.Basics.{none_first, upto}
use Rattle.machine.proofs.EightAry.{eight_trees}
use Rattle.tree.proofs.Lowest.{first_is}
use Rattle.tree.proofs.Sums.{sum_more}
use Rattle.machine.proofs.EightAry.{lines_near}
use Rattle.controller.specs.declared.types.TreeFault.{TreeFault}
use Rattle.controller.specs.declared.types.TreeFault.TheVariants.{Corrupt}
use Rattle.controller.specs.Views.{tree_fault, view_in, Fits, node_line_valid}
use Rattle.controller.specs.Restores.{child_line_valid, ChildRestored, from_children}
use Rattle.controller.proofs.CounterSteps.{valid_is}

-- One more place.
pub below_one : (P : ℕ → Type 0) (i k : ℕ) → k < i + 1 → P i → (k < i → P k) → P k
below_one P i k h x f = upto P i k (omega arith) x f

pub set_more : (ws : List ℕ) (f : ℕ → ℕ) (i c : ℕ) → i < length ws → c ≡ f i → ((k : ℕ) → k < i → get_or ws k 0 ≡ f k) → (k : ℕ) → k < i + 1 → get_or (set ws i c) k 0 ≡ f k
set_more ws f i c n e g k h = below_one (λ k. get_or (set ws i c) k 0 ≡ f k) i k h (get_or-set_same ws i c 0 n ∙ e) (λ x. get_or-set_other ws i k c 0 (λ y. omega arith) ∙ g k x)

pub sum_step : (f : ℕ → ℕ) (i r x : ℕ) → r ≡ sum_to i f → x ≡ f i → r + x ≡ sum_to (i + 1) f
sum_step f i r x e g = ap (λ y. y + x) e ∙ ap (λ y. sum_to i f + y) g ∙ sum_more f i

-- Eight words that are a function's values.
pub row_clip : (ws : List ℕ) (f : ℕ → ℕ) → length ws ≡ 8 → ((k : ℕ) → k < 8 → get_or ws k 0 ≡ f k) → row ws ≡ clip 8 f
row_clip ws f n h = fun_ext (λ i. at i (cases_lt i 8))
  where
    at : (i : ℕ) → (i < 8) ⊎ (8 ≤ i) → get_or ws i 0 ≡ clip 8 f i
    at i (inl k) = h i k ∙ sym (ap (λ b. cond b (f i) 0) (lt-ltb i 8 k))
    at i (inr k) = get_or_past ws i 0 (omega arith) ∙ sym (ap (λ b. cond b (f i) 0) (le-ltb i 8 k))

-- What the code found of a child's line, as it is found of the board's line.
module _ (S : Scheme) (T : Shape) (a s : ℕ) (ls : List Line) (l : Line) (e : l ≡ get_or ls a no_line) where
  pub child_answer : (r : Result ℕ TreeFault) → ChildRestored S T a s (line_in l) r → ChildRestored S T a s (memory_in ls a) r
  unfolding memory_in
  child_answer r f = subst (λ (x : Line). ChildRestored S T a s (line_in x) r) e f

  pub child_right : (c : ℕ) → (c ≡ restored s (l.tag % 1024)) × (c ≤ counter_limit) → (b : Bool) → b ≡ child_line_valid S T a c (line_in l) → b ≡ true → ChildRestored S T a s (memory_in ls a) (Ok c)
  child_right c v b q t = child_answer (Ok c) (v.0, and_from _ _ (le-leb _ counter_limit v.1) (sym q ∙ t))

  pub child_wrong : (c : ℕ) → (c ≡ restored s (l.tag % 1024)) × (c ≤ counter_limit) → (b : Bool) → b ≡ child_line_valid S T a c (line_in l) → b ≡ false → ChildRestored S T a s (memory_in ls a) (Err (Corrupt a))
  child_wrong c v b q t = child_answer (Err (Corrupt a)) (ap (λ x. leb x counter_limit && child_line_valid S T a x (line_in l)) (sym v.0) ∙ and_right _ _ (sym q ∙ t), refl)

  pub child_above : counter_limit < restored s (l.tag % 1024) → ChildRestored S T a s (memory_in ls a) (Err (Corrupt a))
  child_above n = child_answer (Err (Corrupt a)) (and_left _ _ (lt-leb _ counter_limit n), refl)

-- The first child's address, which does not saturate.
pub first_child : (h p b : ℕ) → 1 ≤ h → h ≤ 4 → p < lines_of h → b ≡ min (8 * (p - 8 ^ h) + 0) 18446744073709551615 → b ≡ 8 * (p - 8 ^ h)
first_child h p b lo hi k e = omega (arith, lines_near h lo hi)

-- How far a counter moved.
pub moved_up : (s c t : ℕ) → c ≡ restored s (t % 1024) → (s ≤ c) × (c ≤ s + 1023)
moved_up s c t e = (omega arith, omega arith)

module _ (h : ℕ) (m : Meaning) (F : Fits h m) (S : Scheme) (p b : ℕ) (n : 8 ^ h ≤ p) (k : p < lines_of h) (e : b ≡ 8 * (p - 8 ^ h)) where
  abbrev memory : ℕ → LineMeant
  memory = memory_in m.lines

  L : TreeLaws (eight_ary h)
  L = eight_trees h F.low F.high

  pub child_in : (i : ℕ) → i < 8 → b + i < lines_of h
  child_in i j = subst (λ x. x + i < lines_of h) (sym e) (L.child_in p i n (omega arith) j)

  at_child : (i : ℕ) → memory_in m.lines (b + i) ≡ memory_in m.lines (8 * (p - 8 ^ h) + i)
  at_child i = ap (λ x. memory_in m.lines (x + i)) e

  -- A child's counter and its line, as the code judged them.
  module _ (i s : ℕ) (w : s ≡ (memory_in m.lines p).words i) where
    pub counter_is : restored s ((memory_in m.lines (b + i)).tag % 1024) ≡ child_counter (eight_ary h) (memory_in m.lines) p i
    counter_is = ap (λ x. restored x ((memory_in m.lines (b + i)).tag % 1024)) w ∙ ap (λ (x : LineMeant). restored ((memory_in m.lines p).words i) (x.tag % 1024)) (at_child i)

    pub valid_of : (c : ℕ) → c ≡ restored s ((memory_in m.lines (b + i)).tag % 1024) → leb c counter_limit && child_line_valid S (eight_ary h) (b + i) c (memory_in m.lines (b + i)) ≡ child_valid (eight_ary h) S (memory_in m.lines) p i
    valid_of c u =
        ap (λ x. leb x counter_limit && child_line_valid S (eight_ary h) (b + i) x (memory_in m.lines (b + i))) (u ∙ counter_is)
        ∙ ap (λ x. leb (child_counter (eight_ary h) (memory_in m.lines) p i) counter_limit && child_line_valid S (eight_ary h) (x + i) (child_counter (eight_ary h) (memory_in m.lines) p i) (memory_in m.lines (x + i))) e
        ∙ ap (λ x. leb (child_counter (eight_ary h) (memory_in m.lines) p i) counter_limit && cond (ltb (8 * (p - 8 ^ h) + i) (8 ^ h)) (right S (8 * (p - 8 ^ h) + i) (child_counter (eight_ary h) (memory_in m.lines) p i) (memory_in m.lines (8 * (p - 8 ^ h) + i))) x) (sym (valid_is h S m.lines (8 * (p - 8 ^ h) + i) (child_counter (eight_ary h) (memory_in m.lines) p i)))

  pub children_corrupt : (i : ℕ) → i < 8 → child_valid (eight_ary h) S (memory_in m.lines) p i ≡ false → ((j : ℕ) → j < i → child_valid (eight_ary h) S (memory_in m.lines) p j ≡ true) → err (fault corrupt (b + i)) ≡ from_children (eight_ary h) S (memory_in m.lines) p
  children_corrupt i j f g = ap (λ x. err (fault corrupt (x + i))) e ∙ sym (ap (slot_unless (eight_ary h) (memory_in m.lines) p) (first_is 8 (λ q. not (child_valid (eight_ary h) S (memory_in m.lines) p q)) i j (not_from_false _ f) (λ q x. not_from_true _ (g q x))))

  pub children_valid : (ws : List ℕ) (r : ℕ) → length ws ≡ 8 → ((j : ℕ) → j < 8 → get_or ws j 0 ≡ child_counter (eight_ary h) (memory_in m.lines) p j) → ((j : ℕ) → j < 8 → child_valid (eight_ary h) S (memory_in m.lines) p j ≡ true) → r ≡ sum_to 8 (λ j. child_counter (eight_ary h) (memory_in m.lines) p j - (memory_in m.lines p).words j) → ok (record { counters = row ws; pending = r }) ≡ from_children (eight_ary h) S (memory_in m.lines) p
  children_valid ws r n f g q = ap ok same ∙ sym (ap (slot_unless (eight_ary h) (memory_in m.lines) p) (none_first 8 (λ q. not (child_valid (eight_ary h) S (memory_in m.lines) p q)) (λ j x. not_from_true _ (g j x))))
    where
      same : ◌≡◌ {A = DirtyNode} (record { counters = row ws; pending = r }) (slot_from (eight_ary h) (memory_in m.lines) p)
      same = λ j. record { counters = row_clip ws (child_counter (eight_ary h) (memory_in m.lines) p) n f j; pending = q j }

  pub child_within : (j : ℕ) → child_valid (eight_ary h) S (memory_in m.lines) p j ≡ true → child_counter (eight_ary h) (memory_in m.lines) p j ≤ counter_limit
  child_within j f = leb-true _ _ (and_parts _ _ f).0

-- A child, as the code counted it from the first.
module _ (h : ℕ) (m : Meaning) (F : Fits h m) (S : Scheme) (p b : ℕ) (n : 8 ^ h ≤ p) (k : p < lines_of h) (e : b ≡ min (8 * (p - 8 ^ h) + 0) 18446744073709551615) (i s : ℕ) (w : s ≡ (memory_in m.lines p).words i) where
  first : b ≡ 8 * (p - 8 ^ h)
  first = first_child h p b F.low F.high k e

  -- A child that was restored: its counter, and how far it moved from the stored one.
  pub child_ok : (c : ℕ) → ChildRestored S (eight_ary h) (b + i) s (memory_in m.lines (b + i)) (Ok c) → (c ≡ child_counter (eight_ary h) (memory_in m.lines) p i) × (child_valid (eight_ary h) S (memory_in m.lines) p i ≡ true) × (s ≤ c) × (c ≤ s + 1023)
  child_ok c d = (d.0 ∙ counter_is h m F S p b n k first i s w, sym (valid_of h m F S p b n k first i s w c d.0) ∙ d.1, (moved_up s c _ d.0).0, (moved_up s c _ d.0).1)

  -- The first child that was refused.
  pub child_bad : (f : TreeFault) → ChildRestored S (eight_ary h) (b + i) s (memory_in m.lines (b + i)) (Err f) → i < 8 → ((j : ℕ) → j < i → child_valid (eight_ary h) S (memory_in m.lines) p j ≡ true) → err (tree_fault f) ≡ from_children (eight_ary h) S (memory_in m.lines) p
  child_bad f d j g = ap (λ (y : Fault). err y) d.1 ∙ children_corrupt h m F S p b n k first i j (sym (valid_of h m F S p b n k first i s w _ refl) ∙ d.0) g

module _ (h : ℕ) (m : Meaning) (S : Scheme) (t : Table) (p : ℕ) where
  abbrev v : View
  v = view_in m t

  abbrev rest : ℕ → Bool → Outcome DirtyNode
  rest c b = cond b (from_children (eight_ary h) S (memory_in m.lines) p) (err (fault corrupt p))

  way : (z : Outcome ℕ) → z ≡ counter_of (eight_ary h) S v p → bind z (λ c. rest c (node_valid (eight_ary h) S (memory_in m.lines) p c)) ≡ restore_node (eight_ary h) S v p
  unfolding restore_node
  way z e = ap (λ x. bind x (λ c. rest c (node_valid (eight_ary h) S (memory_in m.lines) p c))) e

  pub node_way : (x : Fault) → err x ≡ counter_of (eight_ary h) S v p → err x ≡ restore_node (eight_ary h) S v p
  unfolding bind
  node_way x e = way (err x) e

  module _ (c : ℕ) (e : ok c ≡ counter_of (eight_ary h) S v p) (l : Line) (g : l ≡ get_or m.lines p no_line) where
    pub node_words : row l.body ≡ (memory_in m.lines p).words
    unfolding memory_in
    node_words = ap (λ (x : Line). row x.body) g

    same : node_line_valid S p c (line_in l) ≡ node_valid (eight_ary h) S (memory_in m.lines) p c
    unfolding memory_in
    same = ap (λ (x : Line). node_line_valid S p c (line_in x)) g ∙ sym (valid_is h S m.lines p c)

    pub node_corrupt : (b : Bool) → b ≡ node_line_valid S p c (line_in l) → b ≡ false → err (fault corrupt p) ≡ restore_node (eight_ary h) S v p
    unfolding bind
    node_corrupt b q s = ap (rest c) (sym s ∙ q ∙ same) ∙ way (ok c) e

    pub node_children : (b : Bool) → b ≡ node_line_valid S p c (line_in l) → b ≡ true → (z : Outcome DirtyNode) → z ≡ from_children (eight_ary h) S (memory_in m.lines) p → z ≡ restore_node (eight_ary h) S v p
    unfolding bind
    node_children b f s z q = q ∙ ap (rest c) (sym s ∙ f ∙ same) ∙ way (ok c) e
