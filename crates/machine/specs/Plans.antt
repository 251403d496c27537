-- The calls as plans: what each reads, what it writes in which order while power lasts, and how it ends.
use Rattle.std.specs.Prelude.{ℕ, zero, suc, ◌-◌, ◌%◌, Bool, true, false, cond, not, ◌&&◌, List, [], ◌∷◌, ◌++◌, ◌==◌, nat_le, nat_lt}
use Rattle.std.proofs.Math.Option.{Option, some, none}
use Rattle.suite.specs.Scheme.{Body, Line, Scheme, right, mix}
use Rattle.machine.specs.Layout.{Shape, update, sum_to, every, first, clip, restored}
use Rattle.machine.specs.Store.{line_at, Register, Log, Write, write_register, write_line}
use Rattle.machine.specs.Faults.{Fault, fault, Outcome, ok, err, bind, not_data, corrupt, sum_mismatch, at_limit}

-- A dirty node on the chip: its counters, and its pending increments, how often one of them was raised since its own line was committed.
pub record Slot : Type 0 where
  pub counters : Body
  pub pending : ℕ

-- The chip's slots, by node address.
abbrev pub Table : Type 0
Table = ℕ → Option Slot

-- Whether there is a slot.
abbrev pub is_dirty : Option Slot → Bool
is_dirty (some s) = true
is_dirty none = false

-- The counters in a slot.
abbrev pub slot_counters : Option Slot → Body
slot_counters (some s) = s.counters
slot_counters none = λ i. 0

-- What a call works on: the lines, the register and the slots.
pub record View : Type 0 where
  pub memory : ℕ → Line
  pub register : Register
  pub table : Table

-- A call's writes while power lasts, what it leaves, and the fault it ends in, if any.
pub record Run : Type 0 where
  pub planned : List Write
  pub view : View
  pub ends : Option Fault

-- Nothing is to be done.
abbrev pub stay : View → Run
stay v = record { planned = []; view = v; ends = none }

-- A refusal before any write.
abbrev pub stop : View → Fault → Run
stop v r = record { planned = []; view = v; ends = some r }

-- One run, and another after it unless the first was refused.
abbrev pub chain : Run → Option Fault → (View → Run) → Run
chain r (some x) f = r
chain r none f = record { planned = r.planned ++ (f r.view).planned; view = (f r.view).view; ends = (f r.view).ends }

-- The same by the first run's own ending.
abbrev pub and_then : Run → (View → Run) → Run
and_then r f = chain r r.ends f

-- A counter in a slot, or what its line gives.
abbrev pub held : Option Slot → ℕ → Outcome ℕ → Outcome ℕ
held (some s) i other = ok (s.counters i)
held none i other = other

-- The slot in which a counter of node p is raised: its own, or a new one from its line.
abbrev pub slot_for : (ℕ → Line) → Option Slot → ℕ → Slot
slot_for m (some s) p = s
slot_for m none p = record { counters = (m p).words; pending = 0 }

-- A slot once counter i is c.
abbrev pub raised : Slot → ℕ → ℕ → Slot
raised s i c = record { counters = update s.counters i c; pending = suc s.pending }

-- Whether a node is dirty with 1,023 pending increments or more.
abbrev pub overdue : Option Slot → Bool
overdue (some s) = nat_le 1023 s.pending
overdue none = false

-- The view once node p has the slot s.
abbrev pub with_slot : View → ℕ → Slot → View
with_slot v p s = record { memory = v.memory; register = v.register; table = update v.table p (some s) }

module _ (T : Shape) where
  -- Dirty nodes, counted.
  unfoldable pub dirty_count : Table → ℕ
  dirty_count t = sum_to T.lines (λ p. cond (is_dirty (t p)) 1 0)

  -- The dirty sum: all counters of all dirty nodes.
  unfoldable pub sum_of : Table → ℕ
  sum_of t = sum_to T.lines (λ p. cond (is_dirty (t p)) (sum_to (T.arity p) (slot_counters (t p))) 0)

  -- The dirty node of lowest address.
  abbrev pub lowest : Table → Option ℕ
  lowest t = first T.lines (λ p. is_dirty (t p))

  -- The slots once line a has counter c; the first number says how far the parent is from the root.
  abbrev pub raise_table : ℕ → (ℕ → Line) → Table → ℕ → ℕ → Table
  raise_table zero m t a c = t
  raise_table (suc r) m t a c = update t (T.parent a) (some (raised (slot_for m (t (T.parent a)) (T.parent a)) (T.index a) c))

  -- The root's counters once line a has counter c, likewise.
  abbrev pub raise_roots : ℕ → Body → ℕ → ℕ → Body
  raise_roots zero f a c = update f (T.index a) c
  raise_roots (suc r) f a c = f

  -- The register of a commit: journal, root counters, dirty map and dirty sum; t are the slots after it.
  abbrev pub commit_register : Register → Table → ℕ → ℕ → Line → Register
  commit_register g t a c L =
      record {
        formatted = g.formatted;
        levels = g.levels;
        suite = g.suite;
        roots = raise_roots (T.depth (T.parent a)) g.roots a c;
        dirty_sum = sum_of t;
        journal = some (record { at = a; line = L });
        dirty = λ p. is_dirty (t p);
      }

  -- A child's restored counter, from the stored one and the low bits of the child's tag.
  abbrev pub child_counter : (ℕ → Line) → ℕ → ℕ → ℕ
  child_counter m p i = restored ((m p).words i) ((m (T.child p i)).tag % 1024)

  -- A node's restored slot.
  abbrev pub slot_from : (ℕ → Line) → ℕ → Slot
  slot_from m p = record { counters = clip (T.arity p) (child_counter m p); pending = sum_to (T.arity p) (λ i. child_counter m p i - (m p).words i) }

  -- The restored slot, unless a child was found corrupt.
  abbrev pub slot_unless : (ℕ → Line) → ℕ → Option ℕ → Outcome Slot
  slot_unless m p (some i) = err (fault corrupt (T.child p i))
  slot_unless m p none = ok (slot_from m p)

  -- Nodes in the dirty map, counted.
  unfoldable pub map_count : Register → ℕ
  map_count g = sum_to T.lines (λ p. cond (g.dirty p) 1 0)

-- What format commits: the lines below n, each with zeros under counter 0.
unfoldable pub blank_log : ℕ → Log
blank_log zero = []
blank_log (suc n) = record { at = n; counter = 0; body = λ i. 0 } ∷ blank_log n

-- The register that format writes: no journal, nothing dirty.
abbrev pub new_register : Scheme → ℕ → Register
new_register S h = record { formatted = 1; levels = h; suite = S.number; roots = λ i. 0; dirty_sum = 0; journal = none; dirty = λ p. false }

module _ (T : Shape) (S : Scheme) where
  -- Whether a node's line has the right tag under the counter, and no counter above the limit.
  unfoldable pub node_valid : (ℕ → Line) → ℕ → ℕ → Bool
  node_valid m p c = right S p c (m p) && every (T.arity p) (λ i. nat_le ((m p).words i) (T.limit (T.child p i)))

  -- Counter i in the line of node p, whose own counter came before.
  abbrev pub in_line : (ℕ → Line) → ℕ → ℕ → Outcome ℕ → Outcome ℕ
  in_line m p i (ok c) = cond (node_valid m p c) (ok ((m p).words i)) (err (fault corrupt p))
  in_line m p i (err x) = err x

  -- The current counter of line a, whose parent is r steps from the root: in the root, in a slot, or in the parent's line once the way down to it is checked.
  unfoldable pub counter_at : View → ℕ → ℕ → Outcome ℕ
  counter_at v zero a = ok (v.register.roots (T.index a))
  counter_at v (suc r) a = held (v.table (T.parent a)) (T.index a) (in_line v.memory (T.parent a) (T.index a) (counter_at v r (T.parent a)))

  -- The current counter of line a.
  unfoldable pub counter_of : View → ℕ → Outcome ℕ
  counter_of v a = counter_at v (T.depth (T.parent a)) a

  -- Committing body b at line a under counter c: the register, then the line. t are the slots before it.
  abbrev pub commit_under : (ℕ → Line) → Register → Table → ℕ → Body → ℕ → Run
  commit_under m g t a b c =
      record {
        planned =
            write_register a (record { at = a; counter = c; body = b } ∷ []) (commit_register T g (raise_table T (T.depth (T.parent a)) m t a c) a c (line_at T S a c b))
            ∷ write_line a (line_at T S a c b) ∷ [];
        view =
            record {
              memory = update m a (line_at T S a c b);
              register = commit_register T g (raise_table T (T.depth (T.parent a)) m t a c) a c (line_at T S a c b);
              table = raise_table T (T.depth (T.parent a)) m t a c;
            };
        ends = none;
      }

  -- Committing a line raises its current counter by one, unless that is at the limit or not to be had.
  abbrev pub commit_at : View → Table → ℕ → Body → Outcome ℕ → Run
  commit_at v t a b (ok c) = cond (nat_lt c (T.limit a)) (commit_under v.memory v.register t a b (suc c)) (stop v (fault at_limit a))
  commit_at v t a b (err x) = stop v x

  -- Committing body b at line a, t being the slots but for the line's own.
  unfoldable pub commit : View → Table → ℕ → Body → Run
  commit v t a b = commit_at v t a b (counter_of v a)

  -- Node A's line is committed and A leaves its slot.
  unfoldable pub evict_now : View → ℕ → Run
  evict_now v A = commit v (update v.table A none) A (slot_counters (v.table A))

  -- Evicting node A, whose parent is r steps from the root: an overdue parent first.
  unfoldable pub evict_at : View → ℕ → ℕ → Run
  evict_at v zero A = evict_now v A
  evict_at v (suc r) A = cond (overdue (v.table (T.parent A))) (and_then (evict_at v r (T.parent A)) (λ u. evict_now u A)) (evict_now v A)

  -- Evicting node A.
  unfoldable pub evict : View → ℕ → Run
  evict v A = evict_at v (T.depth (T.parent A)) A

  -- Evicting the node found, if any.
  abbrev pub evict_lowest : View → Option ℕ → Run
  evict_lowest v (some A) = evict v A
  evict_lowest v none = stay v

  -- The dirty node of lowest address is evicted until at most m are dirty (in at most f turns).
  unfoldable pub evict_until : ℕ → ℕ → View → Run
  evict_until m zero v = stay v
  evict_until m (suc f) v = cond (nat_le (dirty_count T v.table) m) (stay v) (and_then (evict_lowest v (lowest T v.table)) (evict_until m f))

  -- A free slot for node p, unless it has one; `cap` is the number of slots.
  abbrev pub make_room : ℕ → ℕ → View → Option Slot → Run
  make_room cap p v (some s) = stay v
  make_room cap p v none = evict_until (cap - 1) T.lines v

  -- Node p is evicted if it is overdue.
  abbrev pub evict_overdue : View → ℕ → Run
  evict_overdue v p = cond (overdue (v.table p)) (evict v p) (stay v)

  -- A write of a data line whose leaf is r steps from the root.
  abbrev pub write_at : ℕ → ℕ → View → ℕ → Body → Run
  write_at zero cap v a b = commit v v.table a b
  write_at (suc r) cap v a b =
      and_then (and_then (evict_overdue v (T.parent a)) (λ u. make_room cap (T.parent a) u (u.table (T.parent a)))) (λ u. commit u u.table a b)

  -- Writing body b at address a.
  unfoldable pub write_call : ℕ → View → ℕ → Body → Run
  write_call cap v a b = cond (nat_lt a T.data_lines) (write_at (T.depth (T.parent a)) cap v a b) (stop v (fault not_data a))

  -- Flushing evicts the dirty node of lowest address until none is dirty.
  unfoldable pub flush_call : View → Run
  flush_call v = evict_until 0 T.lines v

  -- The body of line a, whose current counter came before.
  abbrev pub read_under : View → ℕ → Outcome ℕ → Outcome Body
  read_under v a (ok c) = cond (right S a c (v.memory a)) (ok (mix (v.memory a).words (S.pad a c))) (err (fault corrupt a))
  read_under v a (err x) = err x

  -- Reading address a.
  unfoldable pub read_call : View → ℕ → Outcome Body
  read_call v a = cond (nat_lt a T.data_lines) (read_under v a (counter_of v a)) (err (fault not_data a))

  -- Whether the restored counter of child i is within the limit and the child's line is right under it.
  abbrev pub child_valid : (ℕ → Line) → ℕ → ℕ → Bool
  child_valid m p i =
      nat_le (child_counter T m p i) (T.limit (T.child p i))
      && cond (nat_lt (T.child p i) T.data_lines) (right S (T.child p i) (child_counter T m p i) (m (T.child p i))) (node_valid m (T.child p i) (child_counter T m p i))

  -- Restoring node p: its way down and own line are checked, then its children from counter 0 up.
  unfoldable pub restore_node : View → ℕ → Outcome Slot
  restore_node v p =
      bind (counter_of v p)
      (λ c. cond (node_valid v.memory p c) (slot_unless T v.memory p (first (T.arity p) (λ i. not (child_valid v.memory p i)))) (err (fault corrupt p)))

  -- Restoring the dirty nodes below n, highest address first.
  unfoldable pub restore : ℕ → View → Outcome View
  restore zero v = ok v
  restore (suc p) v = cond (v.register.dirty p) (bind (restore_node v p) (λ s. restore p (with_slot v p s))) (restore p v)

  -- Bring-up once the journal's line is written: the restored counters must add up to the dirty sum.
  unfoldable pub recover : (ℕ → Line) → Register → Outcome Table
  recover m g =
      bind (restore T.lines (record { memory = m; register = g; table = λ p. none }))
      (λ v. cond (sum_of T v.table == g.dirty_sum) (ok v.table) (err (fault sum_mismatch 0)))

  -- The lines below n, each with zeros under counter 0, written from 0 up.
  unfoldable pub blank_lines : ℕ → List Write
  blank_lines zero = []
  blank_lines (suc n) = blank_lines n ++ (write_line n (line_at T S n 0 (λ i. 0)) ∷ [])

  -- The writes of format at h levels: each line, then the register.
  unfoldable pub format_writes : ℕ → List Write
  format_writes h = blank_lines T.lines ++ (write_register 0 (blank_log T.lines) (new_register S h) ∷ [])
