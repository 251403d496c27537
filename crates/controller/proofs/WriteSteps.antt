-- Room for a write, and its commit.
use Rattle.std.proofs.Common.{◌≡◌, ℕ, zero, suc, ◌+◌, ◌-◌, ◌/◌, ◌^◌, ◌<◌, ◌≤◌, true, false, cond, ◌⊎◌, sym, refl, ap, ◌∙◌, subst, inl, inr, arith}
use mathlib.Core.Option.{Option, some, none}
use Rattle.std.proofs.lemmas.Bool.{lt-ltb, le-ltb, leb-false, cases_lt, both_ways}
use Rattle.suite.specs.Scheme.{Body, Scheme}
use Rattle.board.specs.Meaning.{Meaning}
use Rattle.machine.specs.Layout.{eight_ary, lines_of, TreeLaws, update}
use Rattle.machine.specs.Faults.{Fault, fault, ok, err, not_data}
use Rattle.machine.specs.Plans.{Table, View, Slot, is_dirty, stay, stop, and_then, counter_of, overdue, commit_under, commit, evict, evict_until, evict_overdue, make_room, write_at, write_call}
use Rattle.controller.specs.Views.{view_in, Fits}
use Rattle.controller.specs.Runs.{before_commit}
use Rattle.controller.specs.Registers.{Room, RoomAt, SmallAt, next_counter}
use Rattle.machine.proofs.EightAry.{eight_trees}
use Rattle.controller.proofs.EvictSteps.{small_after, parent_kept, next_within, commit_stops, commit_goes}

module _ (h : ℕ) (S : Scheme) (m : Meaning) (t : Table) (a : ℕ) where
  abbrev v : View
  v = view_in m t

  pub stops : (b : Body) (x : Fault) → err x ≡ next_counter a (counter_of (eight_ary h) S v a) → commit (eight_ary h) S v t a b ≡ stop v x
  unfolding commit
  stops b x e = commit_stops h S v t a b (counter_of (eight_ary h) S v a) x e

  pub goes : (b : Body) (c : ℕ) → ok c ≡ next_counter a (counter_of (eight_ary h) S v a) → commit_under (eight_ary h) S v.memory v.register t a b c ≡ commit (eight_ary h) S v t a b
  unfolding commit
  goes b c e = commit_goes h S v t a b (counter_of (eight_ary h) S v a) c e

  module _ (F : Fits h m) where
    pub small_here : a < lines_of h → (c : ℕ) → ok c ≡ counter_of (eight_ary h) S v a → SmallAt (eight_ary h) a v
    small_here k c e x y = small_after h S m t a F k c e (update t a none) refl x (parent_kept h S m t a F k (update t a none) refl ∙ y)

    pub next_small_here : a < lines_of h → (c : ℕ) → ok c ≡ next_counter a (counter_of (eight_ary h) S v a) → SmallAt (eight_ary h) a v
    next_small_here k c e = let now = (next_within a c (counter_of (eight_ary h) S v a) e).1 in small_here k now.0 now.1

    L : TreeLaws (eight_ary h)
    L = eight_trees h F.low F.high

    pub write_steps : (cap : ℕ) (b : Body) → a < 8 ^ h → and_then (before_commit (eight_ary h) S cap v a) (λ u. commit (eight_ary h) S u u.table a b) ≡ write_call (eight_ary h) S cap v a b
    unfolding write_call
    write_steps cap b k = go (cases_lt (8 ^ h + a / 8) (lines_of h)) ∙ sym (ap (λ z. cond z (write_at (eight_ary h) S ((eight_ary h).depth (8 ^ h + a / 8)) cap v a b) (stop v (fault not_data a))) (lt-ltb a (8 ^ h) k))
      where
        go : (8 ^ h + a / 8 < lines_of h) ⊎ (lines_of h ≤ 8 ^ h + a / 8) → and_then (before_commit (eight_ary h) S cap v a) (λ u. commit (eight_ary h) S u u.table a b) ≡ write_at (eight_ary h) S ((eight_ary h).depth (8 ^ h + a / 8)) cap v a b
        go (inl n) =
            ap (λ z. and_then (cond z (and_then (evict_overdue (eight_ary h) S v (8 ^ h + a / 8)) (λ u. make_room (eight_ary h) S cap (8 ^ h + a / 8) u (u.table (8 ^ h + a / 8)))) (stay v)) (λ u. commit (eight_ary h) S u u.table a b)) (lt-ltb (8 ^ h + a / 8) (lines_of h) n)
            ∙ sym (ap (λ r. write_at (eight_ary h) S r cap v a b) (L.depth_parent (8 ^ h + a / 8) n))
        go (inr n) =
            let e : 8 ^ h + a / 8 ≡ lines_of h = omega (arith, L.parent_in a (omega (arith, L.data_in))) in
            ap (λ z. and_then (cond z (and_then (evict_overdue (eight_ary h) S v (8 ^ h + a / 8)) (λ u. make_room (eight_ary h) S cap (8 ^ h + a / 8) u (u.table (8 ^ h + a / 8)))) (stay v)) (λ u. commit (eight_ary h) S u u.table a b)) (le-ltb (8 ^ h + a / 8) (lines_of h) n)
            ∙ sym (ap (λ r. write_at (eight_ary h) S r cap v a b) (ap (eight_ary h).depth e ∙ L.depth_root))

  pub overdue_evicts : true ≡ overdue (t a) → evict (eight_ary h) S v a ≡ evict_overdue (eight_ary h) S v a
  overdue_evicts e = sym (ap (λ b. cond b (evict (eight_ary h) S v a) (stay v)) (sym e))

  pub overdue_stays : false ≡ overdue (t a) → stay v ≡ evict_overdue (eight_ary h) S v a
  overdue_stays e = sym (ap (λ b. cond b (evict (eight_ary h) S v a) (stay v)) (sym e))

-- The steps of making room.
module _ (h : ℕ) (S : Scheme) (cap : ℕ) (m : Meaning) (t : Table) (a p : ℕ) (q : p ≡ 8 ^ h + a / 8) where
  pub before_root : lines_of h ≤ p → stay (view_in m t) ≡ before_commit (eight_ary h) S cap (view_in m t) a
  before_root n = sym (ap (λ z. cond z (and_then (evict_overdue (eight_ary h) S (view_in m t) (8 ^ h + a / 8)) (λ u. make_room (eight_ary h) S cap (8 ^ h + a / 8) u (u.table (8 ^ h + a / 8)))) (stay (view_in m t))) (le-ltb (8 ^ h + a / 8) (lines_of h) (subst (λ x. lines_of h ≤ x) q n)))

  pub before_node : p < lines_of h → and_then (evict_overdue (eight_ary h) S (view_in m t) p) (λ u. make_room (eight_ary h) S cap p u (u.table p)) ≡ before_commit (eight_ary h) S cap (view_in m t) a
  before_node n =
      ap (λ x. and_then (evict_overdue (eight_ary h) S (view_in m t) x) (λ u. make_room (eight_ary h) S cap x u (u.table x))) q
      ∙ sym (ap (λ z. cond z (and_then (evict_overdue (eight_ary h) S (view_in m t) (8 ^ h + a / 8)) (λ u. make_room (eight_ary h) S cap (8 ^ h + a / 8) u (u.table (8 ^ h + a / 8)))) (stay (view_in m t))) (lt-ltb (8 ^ h + a / 8) (lines_of h) (subst (λ x. x < lines_of h) q n)))

  pub room_dirty : true ≡ is_dirty (t p) → stay (view_in m t) ≡ make_room (eight_ary h) S cap p (view_in m t) (t p)
  room_dirty e = go (t p) e
    where
      go : (o : Option Slot) → true ≡ is_dirty o → stay (view_in m t) ≡ make_room (eight_ary h) S cap p (view_in m t) o
      go (some s) e = refl
      go none e = absurd (both_ways true (e) refl)

  pub room_clean : false ≡ is_dirty (t p) → evict_until (eight_ary h) S (cap - 1) (lines_of h) (view_in m t) ≡ make_room (eight_ary h) S cap p (view_in m t) (t p)
  room_clean e = go (t p) e
    where
      go : (o : Option Slot) → false ≡ is_dirty o → evict_until (eight_ary h) S (cap - 1) (lines_of h) (view_in m t) ≡ make_room (eight_ary h) S cap p (view_in m t) o
      go (some s) e = absurd (both_ways false refl (e))
      go none e = refl

  pub roomy_dirty : (used : ℕ) → true ≡ is_dirty (t p) → overdue (t p) ≡ false → RoomAt (eight_ary h) a used t
  roomy_dirty used e f n = subst (λ x. Room used (t x)) q (go (t p) e f)
    where
      go : (o : Option Slot) → true ≡ is_dirty o → overdue o ≡ false → Room used o
      go (some s) e f = leb-false 1023 s.pending f
      go none e f = absurd (both_ways true e refl)

  pub roomy_clean : (used : ℕ) → t p ≡ none → used < 64 → RoomAt (eight_ary h) a used t
  roomy_clean used e f n = subst (λ x. Room used (t x)) q (subst (Room used) (sym e) f)

  pub not_dirty : false ≡ is_dirty (t p) → t p ≡ none
  not_dirty e = go (t p) e
    where
      go : (o : Option Slot) → false ≡ is_dirty o → o ≡ none
      go (some s) e = absurd (both_ways false refl e)
      go none e = refl

  pub leaf_low : 1 ≤ h → h ≤ 4 → a < 8 ^ h → p < 8 ^ h + 8 ^ h / 8
  leaf_low l u k = low h q l u k
    where
      low : (h : ℕ) → p ≡ 8 ^ h + a / 8 → 1 ≤ h → h ≤ 4 → a < 8 ^ h → p < 8 ^ h + 8 ^ h / 8
      low zero q l u k = absurd (omega arith)
      low (suc zero) q l u k = omega (arith, q)
      low (suc (suc zero)) q l u k = omega (arith, q)
      low (suc (suc (suc zero))) q l u k = omega (arith, q)
      low (suc (suc (suc (suc zero)))) q l u k = omega (arith, q)
      low (suc (suc (suc (suc (suc h))))) q l u k = absurd (omega arith)
