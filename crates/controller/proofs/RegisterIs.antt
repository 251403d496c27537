-- The register of a commit, by its meaning.
use Rattle.std.proofs.Common.{◌≡◌, ℕ, zero, suc, ◌+◌, ◌/◌, ◌%◌, ◌^◌, ◌<◌, ◌≤◌, Bool, cond, ◌⊎◌, List, sym, ap, ◌∙◌, inl, inr, arith}
use mathlib.Core.Option.{some}
use Rattle.std.proofs.lemmas.Bool.{lt-ltb, le-ltb, cases_lt}
use Rattle.suite.specs.Scheme.{Scheme}
use Rattle.board.specs.Meaning.{Meaning}
use Rattle.machine.specs.Layout.{TreeLaws, update, eight_ary, lines_of}
use Rattle.machine.specs.Words.{line_in, register_in, no_address}
use Rattle.machine.specs.Store.{Register}
use Rattle.machine.specs.Encoding.{committed}
use Rattle.machine.specs.Plans.{Table, View, is_dirty, sum_of, slot_for, raised, raise_table, raise_roots, commit_register}
use Rattle.tree.specs.SlotTable.{map_in}
use Rattle.controller.specs.Views.{view_in, Fits}
use Rattle.controller.specs.Registers.{with_root, raised_slots}
use Rattle.machine.proofs.EightAry.{eight_trees}
use Rattle.board.specs.declared.types.Line.{Line}

pub lines_small : (h : ℕ) → 1 ≤ h → h ≤ 4 → lines_of h ≤ 4680
lines_small zero k j = absurd (omega arith)
lines_small (suc zero) k j = omega arith
lines_small (suc (suc zero)) k j = omega arith
lines_small (suc (suc (suc zero))) k j = omega arith
lines_small (suc (suc (suc (suc zero)))) k j = omega arith
lines_small (suc (suc (suc (suc (suc h))))) k j = absurd (omega arith)

module _ (h : ℕ) (m : Meaning) (F : Fits h m) (S : Scheme) (t : Table) (a c : ℕ) (k : a < lines_of h) where
  abbrev v : View
  v = view_in m t

  abbrev depth : ℕ
  depth = (eight_ary h).depth (8 ^ h + a / 8)

  L : TreeLaws (eight_ary h)
  L = eight_trees h F.low F.high

  -- The slots after a commit.
  pub raised_is : raised_slots (eight_ary h) v.memory t a c ≡ raise_table (eight_ary h) depth v.memory t a c
  raised_is = go (cases_lt (8 ^ h + a / 8) (lines_of h))
    where
      go : (8 ^ h + a / 8 < lines_of h) ⊎ (lines_of h ≤ 8 ^ h + a / 8) → raised_slots (eight_ary h) v.memory t a c ≡ raise_table (eight_ary h) depth v.memory t a c
      go (inl x) = ap (λ b. cond b (update t (8 ^ h + a / 8) (some (raised (slot_for v.memory (t (8 ^ h + a / 8)) (8 ^ h + a / 8)) (a % 8) c))) t) (lt-ltb (8 ^ h + a / 8) (lines_of h) x) ∙ sym (ap (λ n. raise_table (eight_ary h) n v.memory t a c) (L.depth_parent (8 ^ h + a / 8) x))
      go (inr x) =
          let e : 8 ^ h + a / 8 ≡ lines_of h = omega (arith, L.parent_in a k) in
          ap (λ b. cond b (update t (8 ^ h + a / 8) (some (raised (slot_for v.memory (t (8 ^ h + a / 8)) (8 ^ h + a / 8)) (a % 8) c))) t) (le-ltb (8 ^ h + a / 8) (lines_of h) x) ∙ sym (ap (λ n. raise_table (eight_ary h) n v.memory t a c) (ap (eight_ary h).depth e ∙ L.depth_root))

  -- The root's counters after a commit.
  roots_are : (with_root (eight_ary h) a c v.register).roots ≡ raise_roots (eight_ary h) depth v.register.roots a c
  roots_are = go (cases_lt (8 ^ h + a / 8) (lines_of h))
    where
      go : (8 ^ h + a / 8 < lines_of h) ⊎ (lines_of h ≤ 8 ^ h + a / 8) → (with_root (eight_ary h) a c v.register).roots ≡ raise_roots (eight_ary h) depth v.register.roots a c
      go (inl x) = ap (λ b. cond b v.register.roots (update v.register.roots (a % 8) c)) (lt-ltb (8 ^ h + a / 8) (lines_of h) x) ∙ sym (ap (λ n. raise_roots (eight_ary h) n v.register.roots a c) (L.depth_parent (8 ^ h + a / 8) x))
      go (inr x) =
          let e : 8 ^ h + a / 8 ≡ lines_of h = omega (arith, L.parent_in a k) in
          ap (λ b. cond b v.register.roots (update v.register.roots (a % 8) c)) (le-ltb (8 ^ h + a / 8) (lines_of h) x) ∙ sym (ap (λ n. raise_roots (eight_ary h) n v.register.roots a c) (ap (eight_ary h).depth e ∙ L.depth_root))

  -- The address of a line is not the one that stands for no journal.
  pub real : a ≡ no_address → ⊥
  real x = omega (arith, lines_small h F.low F.high)

  -- The register that the code writes is the definitions' register of the commit.
  pub register_is : (g' : Register) (l : Line) (ms : List ℕ) (sum : ℕ) (t' : Table) → g' ≡ with_root (eight_ary h) a c v.register → t' ≡ raised_slots (eight_ary h) v.memory t a c → sum ≡ sum_of (eight_ary h) t' → map_in h ms ≡ (λ p. is_dirty (t' p)) → committed g' sum (record { at = a; line = l }) ms ≡ commit_register (eight_ary h) v.register (raise_table (eight_ary h) depth v.memory t a c) a c (line_in l)
  unfolding register_in sum_of
  register_is g' l ms sum t' q e s g =
      λ i. record {
        formatted = (q i).formatted;
        levels = (q i).levels;
        suite = (q i).suite;
        roots = (ap (λ (r : Register). r.roots) q ∙ roots_are) i;
        dirty_sum = (s ∙ ap (sum_of (eight_ary h)) table) i;
        journal = some (record { at = a; line = line_in l });
        dirty = (ap (λ n. map_in n ms) (ap (λ (r : Register). r.levels) q ∙ sym F.own) ∙ g ∙ ap {B = ℕ → Bool} (λ (u : Table) p. is_dirty (u p)) table) i;
      }
    where
      table : t' ≡ raise_table (eight_ary h) depth v.memory t a c
      table = e ∙ raised_is
