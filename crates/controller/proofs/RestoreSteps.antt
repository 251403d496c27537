-- Restoring the dirty nodes, highest address first.
use Rattle.std.proofs.Common.{◌≡◌, ℕ, zero, suc, ◌+◌, ◌-◌, ◌^◌, ◌<◌, ◌≤◌, Bool, true, false, cond, ◌&&◌, eqb, ◌⊎◌, List, Some, None, sym, refl, ap, ◌∙◌, subst, inl, inr, arith}
use mathlib.Core.Option.{some, none}
use Rattle.std.proofs.lemmas.Bool.{cases_lt, le-leb, lt-leb}
use Rattle.board.specs.Meaning.{Meaning}
use Rattle.suite.specs.Scheme.{Scheme}
use Rattle.machine.specs.Layout.{Shape, eight_ary, lines_of, sum_to, update}
use Rattle.machine.specs.Store.{Register}
use Rattle.machine.specs.Words.{row, bit, memory_in, register_in}
use Rattle.machine.specs.Encoding.{register_meant, journal_meant}
use Rattle.machine.specs.declared.types.Register.{Register as Fields}
use Rattle.machine.specs.Faults.{Fault, fault, Outcome, ok, err, bind, sum_mismatch}
use Rattle.machine.specs.Plans.{View, Table, restore_node, restore, with_slot, recover, sum_of}
use Rattle.machine.specs.Plans.{Slot as DirtyNode}
use Rattle.machine.proofs.Basics.{update_other}
use Rattle.tree.specs.DirtyMap.{HighestBelow}
use Rattle.tree.specs.Tables.{slot_in}
use Rattle.tree.specs.SlotTable.{table_in, no_slots, map_in, FitToPush, Pushed}
use Rattle.tree.specs.declared.types.Slot.{Slot}
use Rattle.tree.specs.declared.types.Slots.{Slots}
use Rattle.controller.specs.Views.{view_in}
use Rattle.controller.specs.Restores.{map_below}

module _ (T : Shape) (S : Scheme) where
  restore_off : (p : ℕ) (v : View) → v.register.dirty p ≡ false → restore T S (suc p) v ≡ restore T S p v
  unfolding restore
  restore_off p v m = ap (λ b. cond b (bind (restore_node T S v p) (λ s. restore T S p (with_slot v p s))) (restore T S p v)) m

  restore_skip : (hi lo : ℕ) (v : View) → lo ≤ hi → ((p : ℕ) → lo ≤ p → p < hi → v.register.dirty p ≡ false) → restore T S hi v ≡ restore T S lo v
  restore_skip zero lo v h f = let e : zero ≡ lo = omega arith in ap (λ n. restore T S n v) e
  restore_skip (suc hi) lo v h f = go (cases_lt hi lo) (λ x. restore_skip hi lo v x (λ p a b. f p a (omega arith))) (λ a. restore_off hi v (f hi a (omega arith)))
    where
      go : (hi < lo) ⊎ (lo ≤ hi) → (lo ≤ hi → restore T S hi v ≡ restore T S lo v) → (lo ≤ hi → restore T S (suc hi) v ≡ restore T S hi v) → restore T S (suc hi) v ≡ restore T S lo v
      go (inl x) ih st = let e : suc hi ≡ lo = omega arith in ap (λ n. restore T S n v) e
      go (inr x) ih st = st x ∙ ih x

  restore_ok : (p : ℕ) (v : View) (s : DirtyNode) → v.register.dirty p ≡ true → ok s ≡ restore_node T S v p → restore T S (suc p) v ≡ restore T S p (with_slot v p s)
  unfolding restore bind
  restore_ok p v s m e = ap (λ b. cond b (bind (restore_node T S v p) (λ s. restore T S p (with_slot v p s))) (restore T S p v)) m ∙ ap (λ z. bind z (λ s. restore T S p (with_slot v p s))) (sym e)

  restore_err : (p : ℕ) (v : View) (x : Fault) → v.register.dirty p ≡ true → err x ≡ restore_node T S v p → restore T S (suc p) v ≡ err x
  unfolding restore bind
  restore_err p v x m e = ap (λ b. cond b (bind (restore_node T S v p) (λ s. restore T S p (with_slot v p s))) (restore T S p v)) m ∙ ap (λ z. bind z (λ s. restore T S p (with_slot v p s))) (sym e)

  restore_none : (v : View) → restore T S 0 v ≡ ok v
  unfolding restore
  restore_none v = refl

pub sum_one : (f : ℕ → ℕ) (p : ℕ) → sum_to (suc p) f ≡ sum_to p f + f p
unfolding sum_to
sum_one f p = refl

pub sum_skip : (hi lo : ℕ) (f : ℕ → ℕ) → lo ≤ hi → ((p : ℕ) → lo ≤ p → p < hi → f p ≡ 0) → sum_to hi f ≡ sum_to lo f
sum_skip zero lo f h g = let e : zero ≡ lo = omega arith in ap (λ n. sum_to n f) e
sum_skip (suc hi) lo f h g = go (cases_lt hi lo) (λ x. sum_skip hi lo f x (λ p a b. g p a (omega arith))) (λ x. g hi x (omega arith))
  where
    go : (hi < lo) ⊎ (lo ≤ hi) → (lo ≤ hi → sum_to hi f ≡ sum_to lo f) → (lo ≤ hi → f hi ≡ 0) → sum_to (suc hi) f ≡ sum_to lo f
    go (inl x) ih z = let e : suc hi ≡ lo = omega arith in ap (λ n. sum_to n f) e
    go (inr x) ih z = omega (arith, sum_one f hi, ih x, z x)

-- A dirty map of h levels as a register has it.
module _ (h : ℕ) (g : Register) (ms : List ℕ) (is : g.dirty ≡ map_in h ms) where
  pub map_clear_below : (p : ℕ) → p < 8 ^ h → g.dirty p ≡ false
  map_clear_below p k = ap (λ (f : ℕ → Bool). f p) is ∙ ap (λ b. b && bit ms (p - 8 ^ h)) (lt-leb (8 ^ h) p k)

  pub map_bit : (j : ℕ) → g.dirty (8 ^ h + j) ≡ bit ms j
  map_bit j =
      let e : 8 ^ h + j - 8 ^ h ≡ j = omega arith in
      ap (λ (f : ℕ → Bool). f (8 ^ h + j)) is ∙ ap (λ b. b && bit ms (8 ^ h + j - 8 ^ h)) (le-leb (8 ^ h) (8 ^ h + j) (omega arith)) ∙ ap (bit ms) e

  -- No node is dirty from lo on below hi.
  pub map_off_range : (lo hi : ℕ) → ((k : ℕ) → lo ≤ k → k < hi → bit ms k ≡ false) → (p : ℕ) → 8 ^ h + lo ≤ p → p < 8 ^ h + hi → g.dirty p ≡ false
  map_off_range lo hi f p a b =
      let e : 8 ^ h + (p - 8 ^ h) ≡ p = omega arith in
      subst (λ q. g.dirty q ≡ false) e (map_bit (p - 8 ^ h) ∙ f (p - 8 ^ h) (omega arith) (omega arith))

module _ (h : ℕ) (m : Meaning) (S : Scheme) (ms : List ℕ) (is : (register_in m.register).dirty ≡ map_in h ms) (below : ℕ) (t : Table) where
  abbrev v : View
  v = view_in m t

  abbrev count : ℕ → ℕ
  count p = cond ((register_in m.register).dirty p) 1 0

  module _ (j : ℕ) (n : HighestBelow ms below (Some j)) where
    off : (p : ℕ) → suc (8 ^ h + j) ≤ p → p < 8 ^ h + below → (register_in m.register).dirty p ≡ false
    off p a b = map_off_range h (register_in m.register) ms is (suc j) below (λ k x y. n.2 k (omega arith) y) p (omega arith) b

    on : (register_in m.register).dirty (8 ^ h + j) ≡ true
    on = map_bit h (register_in m.register) ms is j ∙ n.1

    skip : restore (eight_ary h) S (8 ^ h + below) v ≡ restore (eight_ary h) S (suc (8 ^ h + j)) v
    skip = restore_skip (eight_ary h) S (8 ^ h + below) (suc (8 ^ h + j)) v (omega (arith, n.0)) off

    pub step_ok : (s : DirtyNode) (t' : Table) → ok s ≡ restore_node (eight_ary h) S v (8 ^ h + j) → t' ≡ update t (8 ^ h + j) (some s) → restore (eight_ary h) S (8 ^ h + below) v ≡ restore (eight_ary h) S (8 ^ h + j) (view_in m t')
    step_ok s t' e q = skip ∙ restore_ok (eight_ary h) S (8 ^ h + j) v s on e ∙ ap (λ (u : Table). restore (eight_ary h) S (8 ^ h + j) (view_in m u)) (sym q)

    pub step_err : (x : Fault) → err x ≡ restore_node (eight_ary h) S v (8 ^ h + j) → restore (eight_ary h) S (8 ^ h + below) v ≡ err x
    step_err x e = skip ∙ restore_err (eight_ary h) S (8 ^ h + j) v x on e

    pub step_count : map_below (8 ^ h + below) (register_in m.register) ≡ map_below (8 ^ h + j) (register_in m.register) + 1
    step_count = sum_skip (8 ^ h + below) (suc (8 ^ h + j)) count (omega (arith, n.0)) (λ p a b. ap (λ b. cond b 1 0) (off p a b)) ∙ sum_one count (8 ^ h + j) ∙ ap (λ b. map_below (8 ^ h + j) (register_in m.register) + cond b 1 0) on

    pub step_empty : (t' : Table) (s : DirtyNode) → t' ≡ update t (8 ^ h + j) (some s) → ((p : ℕ) → p < 8 ^ h + below → t p ≡ none) → (p : ℕ) → p < 8 ^ h + j → t' p ≡ none
    step_empty t' s q f p k = ap (λ (u : Table). u p) q ∙ update_other t (8 ^ h + j) (some s) p (λ x. omega arith) ∙ f p (omega (arith, n.0))

  pub step_end : HighestBelow ms below None → restore (eight_ary h) S (8 ^ h + below) v ≡ ok v
  step_end n = restore_skip (eight_ary h) S (8 ^ h + below) 0 v (omega arith) (λ p a b. go p b (cases_lt p (8 ^ h))) ∙ restore_none (eight_ary h) S v
    where
      go : (p : ℕ) → p < 8 ^ h + below → (p < 8 ^ h) ⊎ (8 ^ h ≤ p) → (register_in m.register).dirty p ≡ false
      go p b (inl x) = map_clear_below h (register_in m.register) ms is p x
      go p b (inr x) = map_off_range h (register_in m.register) ms is 0 below (λ k y z. n k z) p (omega arith) b

-- The counters restored against the dirty sum.
module _ (h : ℕ) (m : Meaning) (S : Scheme) where
  abbrev found : Outcome View
  found = restore (eight_ary h) S (lines_of h) (view_in m no_slots)

  abbrev judge : View → Bool → Outcome Table
  judge v b = cond b (ok v.table) (err (fault sum_mismatch 0))

  way : recover (eight_ary h) S (memory_in m.lines) (register_in m.register) ≡ bind found (λ v. judge v (eqb (sum_of (eight_ary h) v.table) (register_in m.register).dirty_sum))
  unfolding recover
  way = refl

  pub recover_err : (x : Fault) → found ≡ err x → recover (eight_ary h) S (memory_in m.lines) (register_in m.register) ≡ err x
  unfolding bind
  recover_err x e = way ∙ ap (λ z. bind z (λ v. judge v (eqb (sum_of (eight_ary h) v.table) (register_in m.register).dirty_sum))) e

  -- The counters add up to the dirty sum d, or not.
  module _ (t : Table) (e : found ≡ ok (view_in m t)) (d : ℕ) (word : d ≡ (register_in m.register).dirty_sum) where
    came : recover (eight_ary h) S (memory_in m.lines) (register_in m.register) ≡ judge (view_in m t) (eqb (sum_of (eight_ary h) t) d)
    unfolding bind
    came = way ∙ ap (λ z. bind z (λ v. judge v (eqb (sum_of (eight_ary h) v.table) (register_in m.register).dirty_sum))) e ∙ ap (λ x. judge (view_in m t) (eqb (sum_of (eight_ary h) t) x)) (sym word)

    pub recover_missed : eqb (sum_of (eight_ary h) t) d ≡ false → recover (eight_ary h) S (memory_in m.lines) (register_in m.register) ≡ err (fault sum_mismatch 0)
    recover_missed x = came ∙ ap (judge (view_in m t)) x

    pub recover_ok : eqb (sum_of (eight_ary h) t) d ≡ true → recover (eight_ary h) S (memory_in m.lines) (register_in m.register) ≡ ok t
    recover_ok x = came ∙ ap (judge (view_in m t)) x

-- A slot that fits is added.
pub pushed : (s : Slots) (x : Slot) (b : Bool) (s' : Slots) → FitToPush s x → Pushed s x b s' → (table_in s' ≡ update (table_in s) x.address (some (slot_in x))) × (s'.used ≡ s.used + 1) × (s'.layout ≡ s.layout)
pushed s x true s' f p = (p.1, p.2, p.3)
pushed s x false s' f p = absurd (p.0 f)

pub levels_in : (ws : List ℕ) → (register_in ws).levels ≡ row ws 1
unfolding register_in
levels_in ws = refl

-- The fields that the code decoded, as the register that they mean.
module _ (f : Fields) (ws : List ℕ) (q : register_meant f ≡ register_in ws) where
  pub fields_levels : f.levels ≡ (register_in ws).levels
  unfolding register_meant
  fields_levels = ap (λ (g : Register). g.levels) q

  pub fields_suite : f.suite ≡ (register_in ws).suite
  unfolding register_meant
  fields_suite = ap (λ (g : Register). g.suite) q

  pub fields_sum : f.dirty_sum ≡ (register_in ws).dirty_sum
  unfolding register_meant
  fields_sum = ap (λ (g : Register). g.dirty_sum) q

  pub fields_journal : journal_meant f.journal ≡ (register_in ws).journal
  unfolding register_meant
  fields_journal = ap (λ (g : Register). g.journal) q

  pub fields_map : (h : ℕ) → h ≡ f.levels → (register_in ws).dirty ≡ map_in h f.dirty
  unfolding register_meant
  fields_map h e = sym (ap (λ (g : Register). g.dirty) q) ∙ ap (λ n. map_in n f.dirty) (sym e)
