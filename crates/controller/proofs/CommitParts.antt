-- The parts of a commit, from what the code does.
use Rattle.std.proofs.Common.{◌≡◌, ℕ, ◌+◌, ◌/◌, ◌%◌, ◌^◌, ◌<◌, ◌≤◌, Bool, true, false, cond, List, get_or, sym, refl, ap, ◌∙◌, subst, arith}
use mathlib.Core.Option.{Option, some, none}
use Rattle.std.proofs.lemmas.Bool.{lt-leb, lt-ltb, le-ltb}
use Rattle.suite.specs.Scheme.{data_line, node_line, Scheme, Body}
use Rattle.board.specs.Meaning.{Meaning}
use Rattle.machine.specs.Layout.{update, eight_ary, lines_of, counter_limit}
use Rattle.machine.specs.Store.{Register, line_at}
use Rattle.machine.specs.Encoding.{with_counter}
use Rattle.machine.specs.Words.{memory_in, register_in, row, no_line}
use Rattle.machine.specs.Plans.{Slot, Table, raised, slot_for, overdue}
use Rattle.machine.specs.Layouts.{shape_in}
use Rattle.tree.specs.SlotTable.{slot_or, table_in, Raised, FitToRaise}
use Rattle.controller.specs.Views.{view_in}
use Rattle.controller.specs.Registers.{Room, RoomAt, SmallAt, raised_slots, with_root}
use Rattle.tree.specs.declared.types.Slots.{Slots}
use Rattle.machine.specs.declared.layout.Layout.{Layout}
use Rattle.board.specs.declared.types.Line.{Line}

module _ (h : ℕ) (S : Scheme) (a c : ℕ) (b : Body) where
  -- The line of a data address.
  pub data_sealed : a < 8 ^ h → data_line S a c b ≡ line_at (eight_ary h) S a c b
  unfolding line_at
  data_sealed k = sym (ap (λ d. cond d (data_line S a c b) (node_line S a c b)) (lt-ltb a (8 ^ h) k))

  -- The line of a node.
  pub node_sealed : 8 ^ h ≤ a → node_line S a c b ≡ line_at (eight_ary h) S a c b
  unfolding line_at
  node_sealed k = sym (ap (λ d. cond d (data_line S a c b) (node_line S a c b)) (le-ltb a (8 ^ h) k))

-- The parent's slot raised, from the line that the code read.
pub raised_in_slots : (h : ℕ) (m : Meaning) (t : Table) (a c p : ℕ) → p ≡ 8 ^ h + a / 8 → p < lines_of h → (l : Line) → l ≡ get_or m.lines p no_line → update t p (some (raised (slot_or (t p) (row l.body)) (a % 8) c)) ≡ raised_slots (eight_ary h) (memory_in m.lines) t a c
unfolding memory_in
raised_in_slots h m t a c p q n l e =
    ap (λ (x : Line). update t p (some (raised (slot_or (t p) (row x.body)) (a % 8) c))) e
    ∙ ap (λ s. update t p (some (raised s (a % 8) c))) (fresh (t p))
    ∙ ap (λ x. update t x (some (raised (slot_for (memory_in m.lines) (t x) x) (a % 8) c))) q
    ∙ sym (ap (λ b. cond b (update t (8 ^ h + a / 8) (some (raised (slot_for (memory_in m.lines) (t (8 ^ h + a / 8)) (8 ^ h + a / 8)) (a % 8) c))) t) (lt-ltb (8 ^ h + a / 8) (lines_of h) (subst (λ x. x < lines_of h) q n)))
  where
    fresh : (o : Option Slot) → slot_or o (row (get_or m.lines p no_line).body) ≡ slot_for (memory_in m.lines) o p
    fresh (some s) = refl
    fresh none = refl

-- The register's words: its roots stay where a node is the parent, else one of them is raised.
module _ (h a c p : ℕ) (ws : List ℕ) (g : Register) (q : p ≡ 8 ^ h + a / 8) (e : register_in ws ≡ g) where
  pub roots_same : p < lines_of h → register_in ws ≡ with_root (eight_ary h) a c g
  roots_same n = e ∙ (λ i. record { formatted = g.formatted; levels = g.levels; suite = g.suite; roots = sym (ap (λ b. cond b g.roots (update g.roots (a % 8) c)) (lt-ltb (8 ^ h + a / 8) (lines_of h) (subst (λ x. x < lines_of h) q n))) i; dirty_sum = g.dirty_sum; journal = g.journal; dirty = g.dirty })

  pub roots_raised : lines_of h ≤ p → (i : ℕ) → i ≡ a % 8 → (ws' : List ℕ) → register_in ws' ≡ with_counter (register_in ws) (i % 8) c → register_in ws' ≡ with_root (eight_ary h) a c g
  roots_raised n i j ws' w =
      let k : i % 8 ≡ a % 8 = omega (arith, j) in
      w ∙ ap (λ (r : Register). with_counter r (i % 8) c) e ∙ ap (λ x. with_counter g x c) k
      ∙ (λ z. record { formatted = g.formatted; levels = g.levels; suite = g.suite; roots = sym (ap (λ b. cond b g.roots (update g.roots (a % 8) c)) (le-ltb (8 ^ h + a / 8) (lines_of h) (subst (λ x. lines_of h ≤ x) q n))) z; dirty_sum = g.dirty_sum; journal = g.journal; dirty = g.dirty })

-- A raise that fits is done.
pub raise_done : (s s' : Slots) (p i c : ℕ) (f : Body) (b : Bool) → Raised s p i c f b s' → FitToRaise s p i c f → (table_in s' ≡ update (table_in s) p (some (raised (slot_or (table_in s p) f) i c))) × (s'.layout ≡ s.layout)
raise_done s s' p i c f true (F, t, l) G = (t, l)
raise_done s s' p i c f false (F, e) G = absurd (F G)

-- A raise of the parent's counter fits.
pub raise_fits : (s : Slots) (m : Meaning) (a p i c : ℕ) (l : Line) → p ≡ 8 ^ s.layout.levels + a / 8 → i ≡ a % 8 → p < lines_of s.layout.levels → l ≡ get_or m.lines p no_line → RoomAt (shape_in s.layout) a s.used (table_in s) → SmallAt (shape_in s.layout) a (view_in m (table_in s)) → c ≤ counter_limit → FitToRaise s p i c (row l.body)
unfolding memory_in
raise_fits s m a p i c l q j n e R S k =
    record {
      index = omega (arith, j);
      node = omega (arith, q);
      range = n;
      within = k;
      in_time = timely (table_in s p) (subst (λ x. Room s.used (table_in s x)) (sym q) (R (subst (λ x. x < lines_of s.layout.levels) q n)));
      room = λ z. subst (Room s.used) z (subst (λ x. Room s.used (table_in s x)) (sym q) (R (subst (λ x. x < lines_of s.layout.levels) q n)));
      fresh = λ z y b. subst (λ (x : Line). row x.body y ≤ counter_limit) (sym (e ∙ ap (λ x. get_or m.lines x no_line) q)) (S (subst (λ x. x < lines_of s.layout.levels) q n) (ap (table_in s) (sym q) ∙ z) y b);
    }
  where
    timely : (o : Option Slot) → Room s.used o → overdue o ≡ false
    timely (some x) y = lt-leb 1023 x.pending y
    timely none y = refl

-- The parent's counter raised by the code, its layout read from the slots.
module _ (s : Slots) (m : Meaning) (y : Layout) (e : y ≡ s.layout) (a p i n c : ℕ) (q : p ≡ (shape_in y).parent a) (j : i ≡ (shape_in y).index a) (z : n ≡ (shape_in y).lines) where
  above : p ≡ 8 ^ s.layout.levels + a / 8
  above = q ∙ ap (λ (y : Layout). 8 ^ y.levels + a / 8) e

  all : n ≡ lines_of s.layout.levels
  all = z ∙ ap (λ (y : Layout). lines_of y.levels) e

  pub raise_node : p < n → (l : Line) → l ≡ get_or m.lines p no_line → RoomAt (shape_in s.layout) a s.used (table_in s) → SmallAt (shape_in s.layout) a (view_in m (table_in s)) → c ≤ counter_limit → (b : Bool) (s' : Slots) → Raised s p i c (row l.body) b s' → (table_in s' ≡ raised_slots (shape_in s.layout) (memory_in m.lines) (table_in s) a c) × (s'.layout ≡ s.layout)
  raise_node k l f R S u b s' r =
      let o : p < lines_of s.layout.levels = subst (λ x. p < x) all k in
      let d = raise_done s s' p i c (row l.body) b r (raise_fits s m a p i c l above j o f R S u) in
      (d.0 ∙ ap (λ x. update (table_in s) p (some (raised (slot_or (table_in s p) (row l.body)) x c))) j ∙ raised_in_slots s.layout.levels m (table_in s) a c p above o l f, d.1)

  pub raise_root : n ≤ p → table_in s ≡ raised_slots (shape_in s.layout) (memory_in m.lines) (table_in s) a c
  raise_root k = sym (ap (λ d. cond d (update (table_in s) (8 ^ s.layout.levels + a / 8) (some (raised (slot_for (memory_in m.lines) (table_in s (8 ^ s.layout.levels + a / 8)) (8 ^ s.layout.levels + a / 8)) (a % 8) c))) (table_in s)) (le-ltb (8 ^ s.layout.levels + a / 8) (lines_of s.layout.levels) (omega (arith, above, all))))

  module _ (ws : List ℕ) (g : Register) (w : register_in ws ≡ g) where
    pub register_node : p < n → register_in ws ≡ with_root (shape_in s.layout) a c g
    register_node k = roots_same s.layout.levels a c p ws g above w (subst (λ x. p < x) all k)

    pub register_root : n ≤ p → (ws' : List ℕ) → register_in ws' ≡ with_counter (register_in ws) (i % 8) c → register_in ws' ≡ with_root (shape_in s.layout) a c g
    register_root k = roots_raised s.layout.levels a c p ws g above w (subst (λ x. x ≤ p) all k) i (j ∙ ap (λ (y : Layout). a % 8) e)
