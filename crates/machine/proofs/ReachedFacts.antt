-- What a call may rely on in every history, and the theorem as a call cites it.
use Rattle.std.proofs.Common.{◌≡◌, ℕ, ◌-◌, ◌<◌, ◌≤◌, true, sym, subst, arith}
use mathlib.Core.Option.{Option, some, none}
use Rattle.suite.specs.Scheme.{Scheme}
use Rattle.machine.specs.Layout.{Shape, TreeLaws, eight_ary, sum_to}
use Rattle.machine.specs.Store.{Log, BoardState}
use Rattle.machine.specs.Plans.{Slot, Table, is_dirty, dirty_count}
use Rattle.machine.specs.History.{counter_in, body_in, opened, World, Event, Answer, shape_of, register_valid, Fair, Step, Reached, next}
use Rattle.machine.specs.Promises.{Law}
use Rattle.machine.proofs.Invariant.{Durable, Exact, Raised}
use Rattle.machine.proofs.BoardHolds.{FormattedBoard, Holds}
use Rattle.machine.proofs.BringUp.{valid_holds}
use Rattle.machine.proofs.HistoryHolds.{holds, keeps_promises}
use Rattle.machine.proofs.EightAry.{eight_trees}

-- A slot in use.
pub record SlotFacts (T : Shape) (p : ℕ) (s : Slot) : Type 0 where
  pub node : T.data_lines ≤ p
  pub inside : p < T.lines
  pub small : (i : ℕ) → i < T.arity p → s.counters i ≤ T.limit (T.child p i)
  pub bare : (i : ℕ) → T.arity p ≤ i → s.counters i ≡ 0
  pub pending : s.pending ≤ 1023

-- An open board.
pub record OpenFacts (S : Scheme) (cap : ℕ) (t : Table) (b : BoardState) : Type 0 where
  pub board : FormattedBoard eight_ary S b.size b.register
  pub laws : TreeLaws (shape_of eight_ary b)
  pub valid : register_valid eight_ary b.register ≡ true
  pub some_slots : 1 ≤ cap
  pub few_slots : cap ≤ 64
  pub used : dirty_count (shape_of eight_ary b) t ≤ cap
  pub mapped : (p : ℕ) → is_dirty (t p) ≡ b.register.dirty p
  pub slots : (p : ℕ) (s : Slot) → t p ≡ some s → SlotFacts (shape_of eight_ary b) p s

module _ (S : Scheme) where
  open_facts_of : (cap : ℕ) (t : Table) (b : BoardState) (l : Log) → Holds eight_ary S (opened cap t) b l → OpenFacts S cap t b
  open_facts_of cap t b l (s, W, cl, ch, us) =
      record {
        board = s;
        laws = L;
        valid = valid_holds eight_ary S b.size b.register l L s W.durable;
        some_slots = cl;
        few_slots = ch;
        used = us;
        mapped = λ p. mapped p (t p) (W.slots_hold.exact p);
        slots = λ p x e. slot p x e (subst (λ o. Exact T l b.register.dirty o p) e (W.slots_hold.exact p));
      }
    where
      T : Shape
      T = shape_of eight_ary b

      L : TreeLaws T
      L = eight_trees _ s.low s.high

      D : Durable T S l b.register
      D = W.durable

      mapped : (p : ℕ) (o : Option Slot) → Exact T l b.register.dirty o p → is_dirty o ≡ b.register.dirty p
      mapped p (some x) e = sym e.0
      mapped p none e = sym e

      slot : (p : ℕ) (x : Slot) → t p ≡ some x → Exact T l b.register.dirty (some x) p → SlotFacts T p x
      slot p x e (u, f) =
          let (n, k) = D.inner p u in
          let r : x.pending ≡ sum_to (T.arity p) (λ i. counter_in l (T.child p i) - body_in l p i) = subst (λ o. Raised T l o p) e (W.slots_hold.raised p) in
          record {
            node = n;
            inside = k;
            small = λ i j. rw (f i j) (D.small (T.child p i) (L.child_in p i n (omega arith) j));
            bare = W.slots_hold.bare p x e;
            pending = omega (arith, r, D.dirty_few p n k u);
          }

  -- What holds of an open board in every history.
  pub open_facts : {cap : ℕ} {t : Table} {w : World} {l : Log} → Reached eight_ary S w l → w.chip ≡ opened cap t → OpenFacts S cap t w.board
  open_facts {cap} {t} {w} {l} R e = open_facts_of cap t w.board l (subst (λ c. Holds eight_ary S c w.board l) e (holds eight_ary S eight_trees R).0)

  -- The theorem for one event: it obeys its law, and what it leaves is reached.
  pub step_law : {w : World} {l : Log} → Reached eight_ary S w l → (e : Event) (x : Answer) (w' : World) (l' : Log) → Fair eight_ary S w l e → Step eight_ary S w l e x w' l' → Law eight_ary S w l w.chip e x w' l' × Reached eight_ary S w' l'
  step_law {w} {l} R e x w' l' f s = ((keeps_promises eight_ary eight_trees S w l R).next e x w' l' s, next R e x w' l' f s)
