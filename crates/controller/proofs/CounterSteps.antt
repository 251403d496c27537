-- The current counter of a line, one step at a time.
use Rattle.std.proofs.Common.{◌≡◌, ℕ, ◌+◌, ◌/◌, ◌%◌, ◌^◌, ◌<◌, ◌≤◌, Bool, true, false, cond, List, get_or, drop, sym, refl, ap, ◌∙◌, subst, arith}
use mathlib.Core.Option.{Option, some, none}
use Rattle.std.proofs.lemmas.Bool.{both_ways}
use Rattle.std.proofs.lemmas.List.{get_or-take, get_or-drop}
use Rattle.suite.specs.Scheme.{Scheme}
use Rattle.board.specs.Meaning.{Meaning}
use Rattle.machine.specs.Layout.{Shape, TreeLaws, eight_ary, lines_of}
use Rattle.machine.specs.Words.{row, register_in, memory_in, line_in, no_line}
use Rattle.machine.specs.Faults.{Fault, fault, Outcome, ok, err, corrupt}
use Rattle.machine.specs.Plans.{is_dirty, slot_counters, View, Table, Slot, held, in_line, node_valid, counter_at, counter_of}
use Rattle.machine.specs.Layout.{all_within}
use Rattle.controller.specs.Views.{view_in, Fits, node_line_valid}
use Rattle.machine.proofs.EightAry.{eight_trees}
use Rattle.board.specs.declared.types.Line.{Line}
use Rattle.machine.specs.declared.types.Register.{Register as Fields}
use Rattle.machine.specs.Store.{Register}
use Rattle.machine.specs.Encoding.{register_meant}

module _ (T : Shape) (L : TreeLaws T) (S : Scheme) (v : View) (a : ℕ) (h : a < T.lines) where
  pub counter_root : T.lines ≤ T.parent a → counter_of T S v a ≡ ok (v.register.roots (T.index a))
  unfolding counter_of counter_at
  counter_root k =
      let e : T.parent a ≡ T.lines = omega (arith, L.parent_in a h) in
      let r : T.depth (T.parent a) ≡ 0 = ap T.depth e ∙ L.depth_root in
      ap (λ n. counter_at T S v n a) r

  pub counter_node : T.parent a < T.lines → counter_of T S v a ≡ held (v.table (T.parent a)) (T.index a) (in_line T S v.memory (T.parent a) (T.index a) (counter_of T S v (T.parent a)))
  unfolding counter_of counter_at
  counter_node k = ap (λ n. counter_at T S v n a) (L.depth_parent (T.parent a) k)

-- A node's line, judged as the code judges it.
pub valid_is : (h : ℕ) (S : Scheme) (ls : List Line) (p c : ℕ) → node_valid (eight_ary h) S (memory_in ls) p c ≡ node_line_valid S p c (memory_in ls p)
unfolding node_valid all_within
valid_is h S ls p c = refl

pub root_word : (ws : List ℕ) (i : ℕ) → i < 8 → (register_in ws).roots i ≡ get_or ws (3 + i) 0
unfolding register_in
root_word ws i k = get_or-take 8 (drop 3 ws) i 0 k ∙ get_or-drop 3 ws i 0

module _ (h : ℕ) (m : Meaning) (F : Fits h m) (S : Scheme) (t : Table) (a p i : ℕ) (k : a < lines_of h) (q : p ≡ 8 ^ h + a / 8) (j : i ≡ a % 8) where
  abbrev v : View
  v = view_in m t

  L : TreeLaws (eight_ary h)
  L = eight_trees h F.low F.high

  pub parent_above : a < p
  parent_above = omega (arith, q, L.parent_above a k)

  pub from_root : lines_of h ≤ p → (ws : List ℕ) → ws ≡ m.register → ok (get_or ws (3 + i) 0) ≡ counter_of (eight_ary h) S v a
  from_root n ws e =
      ap (λ x. ok (get_or ws (3 + x) 0)) j
      ∙ sym (counter_root (eight_ary h) L S v a k (subst (λ x. lines_of h ≤ x) q n) ∙ ap ok (root_word m.register (a % 8) (omega arith) ∙ ap (λ w. get_or w (3 + a % 8) 0) (sym e)))

  pub from_root_field : lines_of h ≤ p → (r : Fields) → register_meant r ≡ register_in m.register → ok (get_or r.roots i 0) ≡ counter_of (eight_ary h) S v a
  unfolding register_meant
  from_root_field n r e =
      ap (λ x. ok (get_or r.roots x 0)) j
      ∙ ap (λ (g : Register). ok (g.roots (a % 8))) e ∙ sym (counter_root (eight_ary h) L S v a k (subst (λ x. lines_of h ≤ x) q n))

  module _ (n : p < lines_of h) where
    way : counter_of (eight_ary h) S v a ≡ held (t p) (a % 8) (in_line (eight_ary h) S (memory_in m.lines) p (a % 8) (counter_of (eight_ary h) S v p))
    way = subst (λ x. counter_of (eight_ary h) S v a ≡ held (t x) (a % 8) (in_line (eight_ary h) S (memory_in m.lines) x (a % 8) (counter_of (eight_ary h) S v x))) (sym q) (counter_node (eight_ary h) L S v a k (subst (λ x. x < lines_of h) q n))

    pub from_slot : (c : ℕ) → is_dirty (t p) ≡ true → slot_counters (t p) i ≡ c → ok c ≡ counter_of (eight_ary h) S v a
    from_slot c e f = go (t p) refl e f
      where
        go : (o : Option Slot) → t p ≡ o → is_dirty o ≡ true → slot_counters o i ≡ c → ok c ≡ counter_of (eight_ary h) S v a
        go (some s) g e f = ap ok (sym f ∙ ap s.counters j) ∙ sym (way ∙ ap (λ x. held x (a % 8) (in_line (eight_ary h) S (memory_in m.lines) p (a % 8) (counter_of (eight_ary h) S v p))) g)
        go none g e f = absurd (both_ways false refl e)

    module _ (e : t p ≡ none) (z : Outcome ℕ) (c : z ≡ counter_of (eight_ary h) S v p) where
      below : in_line (eight_ary h) S (memory_in m.lines) p (a % 8) z ≡ counter_of (eight_ary h) S v a
      below = ap (in_line (eight_ary h) S (memory_in m.lines) p (a % 8)) c ∙ sym (way ∙ ap (λ x. held x (a % 8) (in_line (eight_ary h) S (memory_in m.lines) p (a % 8) (counter_of (eight_ary h) S v p))) e)

    pub from_above : t p ≡ none → (x : Fault) → err x ≡ counter_of (eight_ary h) S v p → err x ≡ counter_of (eight_ary h) S v a
    from_above e x c = below e (err x) c

    pub from_corrupt : t p ≡ none → (c : ℕ) → ok c ≡ counter_of (eight_ary h) S v p → (l : Line) → l ≡ get_or m.lines p no_line → (b : Bool) → b ≡ node_line_valid S p c (line_in l) → b ≡ false → err (fault corrupt p) ≡ counter_of (eight_ary h) S v a
    unfolding memory_in
    from_corrupt e c f l g b q s = ap (λ b. cond b (ok ((memory_in m.lines p).words (a % 8))) (err (fault corrupt p))) (sym s ∙ q ∙ ap (λ x. node_line_valid S p c (line_in x)) g ∙ sym (valid_is h S m.lines p c)) ∙ below e (ok c) f

    pub from_line : t p ≡ none → (c : ℕ) → ok c ≡ counter_of (eight_ary h) S v p → (l : Line) → l ≡ get_or m.lines p no_line → (b : Bool) → b ≡ node_line_valid S p c (line_in l) → b ≡ true → ok (row l.body i) ≡ counter_of (eight_ary h) S v a
    unfolding memory_in
    from_line e c f l g b q s =
        ap (λ x. ok (row l.body x)) j ∙ ap (λ x. ok (row x.body (a % 8))) g
        ∙ ap (λ b. cond b (ok ((memory_in m.lines p).words (a % 8))) (err (fault corrupt p))) (sym s ∙ q ∙ ap (λ x. node_line_valid S p c (line_in x)) g ∙ sym (valid_is h S m.lines p c)) ∙ below e (ok c) f
