-- A commit, from what the code wrote.
use Rattle.std.proofs.Common.{◌≡◌, ℕ, ◌+◌, ◌/◌, ◌^◌, ◌<◌, ◌≤◌, List, length, Ok, Err, Result, sym, ap, ◌∙◌, subst, arith}
use mathlib.Core.Option.{some, none}
use Rattle.std.proofs.lemmas.List.{length-set}
use Rattle.suite.specs.Scheme.{Body, Scheme}
use Rattle.board.specs.Meaning.{Meaning}
use Rattle.board.specs.Calls.{RegisterWritten, LineWritten}
use Rattle.machine.specs.Layout.{eight_ary, lines_of}
use Rattle.machine.specs.Store.{Register, line_at}
use Rattle.machine.specs.Words.{row, line_in, register_in, memory_in, no_address}
use Rattle.machine.specs.Encoding.{committed}
use Rattle.machine.specs.Plans.{Table, View, Run, is_dirty, sum_of, raise_table, commit_register, commit_under}
use Rattle.controller.specs.Views.{view_in, tree_fault, Fits, with_line}
use Rattle.machine.specs.Layouts.{shape_in}
use Rattle.tree.specs.SlotTable.{table_in, map_in}
use Rattle.machine.specs.declared.layout.Layout.{Layout}
use Rattle.tree.specs.declared.types.Slots.{Slots}
use Rattle.controller.specs.Runs.{Went}
use Rattle.controller.specs.Registers.{with_root, raised_slots}
use Rattle.controller.proofs.RegisterIs.{real, register_is}
use Rattle.controller.proofs.TwoWrites.{two_lost, two_half, two_done}
use Rattle.board.specs.declared.types.Line.{Line}
use Rattle.board.specs.declared.types.BoardFault.{BoardFault}
use Rattle.board.specs.declared.types.BoardFault.TheVariants.{Absent, PowerLost}
use Rattle.controller.specs.declared.types.LineFault.{LineFault}
use Rattle.controller.specs.declared.types.TreeFault.TheVariants.{Board}

pub Ok≢Err : {A B : Type 0} {x : A} {y : B} → ◌≡◌ {A = Result A B} (Ok x) (Err y) → ⊥
Ok≢Err {A} {B} e = subst code e tt
  where
    code : Result A B → Type 0
    code (Ok x) = Unit {0}
    code (Err y) = ⊥

pub Err_inj : {A B : Type 0} {x y : B} → ◌≡◌ {A = Result A B} (Err x) (Err y) → x ≡ y
Err_inj {A} {B} {x} {y} e = ap from e
  where
    from : Result A B → B
    from (Ok z) = x
    from (Err z) = z

pub fits_kept : (h : ℕ) (m m' : Meaning) → Fits h m → length m'.lines ≡ length m.lines → row m'.register 1 ≡ row m.register 1 → Fits h m'
fits_kept h m m' F e f = record { low = F.low; high = F.high; enough = subst (λ n. lines_of h ≤ n) (sym e) F.enough; own = F.own ∙ sym f }

-- The line and the register's words are those of committing body b at line a under counter c.
pub record Prepared (h : ℕ) (m : Meaning) (S : Scheme) (t : Table) (a c : ℕ) (b : Body) (l : Line) (ws : List ℕ) : Type 0 where
  pub sealed : line_in l ≡ line_at (eight_ary h) S a c b
  pub register : register_in ws ≡ commit_register (eight_ary h) (register_in m.register) (raise_table (eight_ary h) ((eight_ary h).depth (8 ^ h + a / 8)) (memory_in m.lines) t a c) a c (line_in l)

-- So are those that the code prepared, s₁ being the slots once the counter is raised and r the register's words then.
pub prepared : (s s₁ : Slots) {m : Meaning} (F : Fits s.layout.levels m) {S : Scheme} {a c : ℕ} {b : Body} (k : a < lines_of s.layout.levels) {l : Line} (y : Layout) (e : y ≡ s.layout) (q : line_in l ≡ line_at (shape_in y) S a c b)
    (ms : List ℕ) {ws : List ℕ} (r : List ℕ) {sum : ℕ} (table : table_in s₁ ≡ raised_slots (shape_in s.layout) (memory_in m.lines) (table_in s) a c) {ws₀ : List ℕ} (words : ws₀ ≡ m.register) (raised : register_in r ≡ with_root (shape_in s.layout) a c (register_in ws₀)) (layout : s₁.layout ≡ s.layout)
    (w : (a ≡ no_address → ⊥) → register_in ws ≡ committed (register_in r) sum (record { at = a; line = l }) ms) (f : sum ≡ sum_of (shape_in s₁.layout) (table_in s₁)) (g : map_in s₁.layout.levels ms ≡ (λ p. is_dirty (table_in s₁ p))) → Prepared s.layout.levels m S (table_in s) a c b l ws
prepared s s₁ {m} F {S} {a} {c} {b} k {l} y e q ms {ws} r {sum} table words raised layout w f g =
    record {
      sealed = q ∙ ap (λ (z : Layout). line_at (shape_in z) S a c b) e;
      register = w (real s.layout.levels m F S (table_in s) a c k) ∙ register_is s.layout.levels m F S (table_in s) a c k (register_in r) l ms sum (table_in s₁) (raised ∙ ap (λ x. with_root (shape_in s.layout) a c (register_in x)) words) table
          (f ∙ ap (λ (z : Layout). sum_of (shape_in z) (table_in s₁)) layout) (ap (λ (z : Layout). map_in z.levels ms) (sym layout) ∙ g);
    }

module _ {h : ℕ} {m : Meaning} {S : Scheme} {t : Table} {a c : ℕ} {b : Body} {l : Line} {ws : List ℕ} (d : Prepared h m S t a c b l ws) (F : Fits h m) (k : a < lines_of h) where
  abbrev v : View
  v = view_in m t

  abbrev grown : Table
  grown = raise_table (eight_ary h) ((eight_ary h).depth (8 ^ h + a / 8)) v.memory t a c

  abbrev R : Register
  R = commit_register (eight_ary h) v.register grown a c (line_at (eight_ary h) S a c b)

  p' : register_in ws ≡ R
  p' = d.register ∙ ap (λ L. commit_register (eight_ary h) v.register grown a c L) d.sealed

  abbrev run : Run
  run = commit_under (eight_ary h) S v.memory v.register t a b c

  word : row ws 1 ≡ row m.register 1
  unfolding register_in
  word = ap (λ (g : Register). g.levels) d.register

  -- The register was not written.
  pub commit_lost : (r : Result (Unit {0}) BoardFault) (f : LineFault) (m₁ : Meaning) (t' : Table) → RegisterWritten m ws r m₁ → Err f ≡ with_line r a → (n : ℕ) → Went run m (some (tree_fault (Board f))) m₁ t' n n × Fits h m₁
  commit_lost (Ok u) f m₁ t' w e n = absurd (Ok≢Err (sym e))
  commit_lost (Err Absent) f m₁ t' w e n = absurd w
  commit_lost (Err PowerLost) f m₁ t' w e n =
      (subst (λ (x : LineFault). Went run m (some (tree_fault (Board x))) m₁ t' n n) (sym (Err_inj e)) (two_lost m a _ ws R l (line_at (eight_ary h) S a c b) grown p' d.sealed m₁ t' w n), subst (Fits h) (sym w.1) F)

  module _ (m₁ : Meaning) (w : RegisterWritten m ws (Ok tt) m₁) where
    -- The register was written, and the line was not.
    pub commit_half : (r : Result (Unit {0}) BoardFault) (f : LineFault) (m₂ : Meaning) (t' : Table) → LineWritten m₁ a l r m₂ → Err f ≡ with_line r a → (n : ℕ) → Went run m (some (tree_fault (Board f))) m₂ t' n (n + 1) × Fits h m₂
    commit_half (Ok u) f m₂ t' y e n = absurd (Ok≢Err (sym e))
    commit_half (Err Absent) f m₂ t' y e n = absurd (omega (arith, y.0, ap length w.0, F.enough))
    commit_half (Err PowerLost) f m₂ t' y e n =
        (subst (λ (x : LineFault). Went run m (some (tree_fault (Board x))) m₂ t' n (n + 1)) (sym (Err_inj e)) (two_half m a _ ws R l (line_at (eight_ary h) S a c b) grown p' d.sealed m₁ m₂ t' w y n), subst (Fits h) (sym y.2) (fits_kept h m m₁ F (ap length w.0) (ap (λ x. row x 1) w.1 ∙ word)))

    pub commit_done : (r : Result (Unit {0}) BoardFault) (m₂ : Meaning) (t' : Table) → t' ≡ grown → LineWritten m₁ a l r m₂ → Ok tt ≡ with_line r a → (n : ℕ) → Went run m none m₂ t' n (n + 1) × Fits h m₂
    commit_done (Err f) m₂ t' g y e n = absurd (Ok≢Err e)
    commit_done (Ok u) m₂ t' g y e n =
        (subst (λ (x : Table). Went run m none m₂ x n (n + 1)) (sym g) (two_done m a _ ws R l (line_at (eight_ary h) S a c b) grown p' d.sealed m₁ m₂ w y n), fits_kept h m m₂ F (ap length y.1 ∙ length-set m₁.lines a l ∙ ap length w.0) (ap (λ x. row x 1) (y.2 ∙ w.1) ∙ word))

  pub register_written : (m₁ : Meaning) (r : Result (Unit {0}) BoardFault) → Ok tt ≡ with_line r a → RegisterWritten m ws r m₁ → RegisterWritten m ws (Ok tt) m₁
  register_written m₁ (Ok u) e x = x
  register_written m₁ (Err f) e x = absurd (Ok≢Err e)
