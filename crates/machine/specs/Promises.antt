-- What holds in every history of a board: at every point, and of every event.
use Rattle.std.specs.Prelude.{◌≡◌, ℕ, suc, ◌<◌, ◌≤◌, true, false, cond, ◌⊎◌, ◌↔◌, [], length, ◌≢◌, nat_lt}
use Rattle.std.proofs.Math.Option.{some, none}
use Rattle.suite.specs.Scheme.{Body, Line, Scheme}
use Rattle.board.specs.Meaning.{writes}
use Rattle.machine.specs.Layout.{Shape, TreeLaws, eight_ary, sixteen_leaves}
use Rattle.machine.specs.Store.{line_at, Journal, Log, BoardState}
use Rattle.machine.specs.Faults.{Fault, fault, not_data, bad_size, too_few_lines, invalid_register, already_formatted, other_suite, too_many_dirty, corrupt, sum_mismatch, power_lost}
use Rattle.machine.specs.Plans.{Slot, Table, dirty_count}
use Rattle.machine.specs.History.{Chip, cold, opened, latched, World, Event, format, bring_up, read, write, flush, shut_down, tamper, recharge, Answer, nothing, body_is, done, refused, counter_in, body_in, InLog, shape_of, Step, Reached}
use Rattle.machine.specs.Laws.{NoReuse, Stands, Rests, WayStands, RecoveryRests, SameCommit, CommitsNext, Unchanged}
use Rattle.machine.specs.CommitLaws.{dirty_in, NotRaised, EvictedUntil, Written, CommitLaw, RegisterLaw, SlotsLaw}

module _ (S : Scheme) (T : Shape) where
  -- A read of address a on an open board.
  pub record ReadLaw (w : World) (l : Log) (a : ℕ) (x : Answer) : Type 0 where
    pub answers : ((b : Body) × (x ≡ body_is b)) ⊎ ((r : Fault) × (x ≡ refused r 0))
    pub beyond : T.data_lines ≤ a → x ≡ refused (fault not_data a) 0
    -- an accepted read gives the body last committed
    pub gives : (b : Body) → x ≡ body_is b → b ≡ body_in l a
    -- it is accepted exactly when all that it rests on stands
    pub accepts : a < T.data_lines → ((b : Body) × (x ≡ body_is b)) ↔ ((q : ℕ) → Rests T w.board.register.dirty a q → Stands T S l w.board.memory q)
    -- a refused one names the highest line of these that does not stand
    pub refuses : a < T.data_lines → (r : Fault) (n : ℕ) → x ≡ refused r n →
        (r.cause ≡ corrupt) × Rests T w.board.register.dirty a r.place × (Stands T S l w.board.memory r.place → ⊥) × WayStands T S l w.board.memory w.board.register.dirty r.place

  -- A write of body b at address a on an open board with so many slots.
  pub record WriteLaw (cap : ℕ) (t : Table) (w : World) (l : Log) (a : ℕ) (b : Body) (x : Answer) (w' : World) (l' : Log) : Type 0 where
    pub beyond : T.data_lines ≤ a → (x ≡ refused (fault not_data a) 0) × Unchanged w (opened cap t) l w' l'
    pub commits : a < T.data_lines → CommitLaw S T cap (Written T cap a b) w l x w' l'
    -- a write that is done is committed and stands
    pub committed : (n : ℕ) → x ≡ done n → CommitsNext l l' a b × Stands T S l' w'.board.memory a
    -- a refused one is committed exactly if power was lost after its journal
    pub half : (r : Fault) (n : ℕ) → x ≡ refused r n → CommitsNext l l' a b ↔ ((r.cause ≡ power_lost) × (w'.board.register.journal ≡ some (record { at = a; line = line_at T S a (suc (counter_in l a)) b })))
    -- other data lines keep what was last committed there
    pub keeps : (q : ℕ) → q < T.data_lines → (q ≢ a) → SameCommit l l' q

  -- A flush of an open board with so many slots.
  pub record FlushLaw (cap : ℕ) (w : World) (l : Log) (x : Answer) (w' : World) (l' : Log) : Type 0 where
    pub commits : CommitLaw S T cap (EvictedUntil T 0) w l x w' l'
    -- after a flush that is done no node is dirty
    pub clean : (n : ℕ) → x ≡ done n → (p : ℕ) → p < T.lines → w'.board.register.dirty p ≡ false
    pub keeps : (q : ℕ) → q < T.data_lines → SameCommit l l' q

  -- A format of a cold board at h levels, whose layout is T: the checks in their order, each where those before it pass.
  pub record FormatLaw (h : ℕ) (w : World) (l : Log) (x : Answer) (w' : World) (l' : Log) : Type 0 where
    pub answers : (x ≡ done 0) ⊎ ((r : Fault) × (x ≡ refused r 0))
    pub leaves : (w'.chip ≡ cold) × (w'.board.size ≡ w.board.size)
    pub bad_levels : (h < 1) ⊎ (4 < h) → (x ≡ refused (fault bad_size 0) 0) × Unchanged w cold l w' l'
    pub too_few : 1 ≤ h → h ≤ 4 → w.board.size < T.lines → (x ≡ refused (fault too_few_lines 0) 0) × Unchanged w cold l w' l'
    pub twice : 1 ≤ h → h ≤ 4 → T.lines ≤ w.board.size → (w.board.register.formatted ≢ 0) → (x ≡ refused (fault already_formatted 0) 0) × Unchanged w cold l w' l'
    -- past these only lost power refuses it: at line k, or at the register; the lines before are written, and nothing is committed
    pub powerless : 1 ≤ h → h ≤ 4 → T.lines ≤ w.board.size → w.board.register.formatted ≡ 0 → (r : Fault) → x ≡ refused r 0 →
        (k : ℕ) × (k ≤ T.lines) × (r ≡ fault power_lost (cond (nat_lt k T.lines) k 0)) × (w'.board.power ≡ writes 0) × (w'.board.register ≡ w.board.register) × (l' ≡ l)
        × ((q : ℕ) → q < k → w'.board.memory q ≡ line_at T S q 0 (λ i. 0)) × ((q : ℕ) → k ≤ q → w'.board.memory q ≡ w.board.memory q)
    -- done, each line is committed once, with zeros under counter 0, and stands
    pub committed : x ≡ done 0 → (length l' ≡ T.lines) × ((q : ℕ) → q < T.lines → (counter_in l' q ≡ 0) × (body_in l' q ≡ λ i. 0) × Stands T S l' w'.board.memory q) × ((q : ℕ) → T.lines ≤ q → w'.board.memory q ≡ w.board.memory q)
    -- and the register has no journal and no dirty node
    pub blank : x ≡ done 0 →
        (w'.board.register.formatted ≡ 1) × (w'.board.register.levels ≡ h) × (w'.board.register.suite ≡ S.number) × ((i : ℕ) → w'.board.register.roots i ≡ 0)
        × (w'.board.register.dirty_sum ≡ 0) × (w'.board.register.journal ≡ none) × ((p : ℕ) → w'.board.register.dirty p ≡ false)

  -- Nothing refuses a bring-up before the journal's line is written: the slots are 1 to 64, the suite is the board's, and the dirty nodes have room.
  abbrev pub Passes : ℕ → ℕ → Log → Type 0
  Passes cap num l = (1 ≤ cap) × (cap ≤ 64) × (num ≡ S.number) × (dirty_in T l ≤ cap)

  -- There is a journal, and no power to write its line.
  abbrev pub Powerless : World → Journal → Type 0
  Powerless w j = (w.board.register.journal ≡ some j) × (w.board.power ≡ writes 0)

  -- A bring-up of a formatted board with so many slots, under a suite's number.
  pub record BringUpLaw (cap num : ℕ) (w : World) (l : Log) (x : Answer) (w' : World) : Type 0 where
    pub answers : (x ≡ done 0) ⊎ ((r : Fault) × (x ≡ refused r 0) × (w'.chip ≡ latched r))
    -- the refusals that come first, in their order
    pub bad_slots : (cap < 1) ⊎ (64 < cap) → (x ≡ refused (fault bad_size 0) 0) × (w'.board ≡ w.board)
    pub other_suites : 1 ≤ cap → cap ≤ 64 → (num ≢ S.number) → (x ≡ refused (fault other_suite 0) 0) × (w'.board ≡ w.board)
    pub too_many : 1 ≤ cap → cap ≤ 64 → num ≡ S.number → cap < dirty_in T l → (x ≡ refused (fault too_many_dirty 0) 0) × (w'.board ≡ w.board)
    pub powerless : Passes cap num l → (j : Journal) → Powerless w j → x ≡ refused (fault power_lost j.at) 0
    -- else the journal's line is written back
    pub rewrites : Passes cap num l → (j : Journal) → w.board.register.journal ≡ some j → (w.board.power ≢ writes 0) → w'.board.memory j.at ≡ j.line
    -- and it is accepted exactly when all that it rests on stands
    pub accepts : Passes cap num l → ((j : Journal) → Powerless w j → ⊥) → (x ≡ done 0) ↔ ((q : ℕ) → RecoveryRests T w.board.register.dirty q → Stands T S l w'.board.memory q)
    -- then the slots hold every dirty node with its children's counters
    pub restores : x ≡ done 0 → (t : Table) × (w'.chip ≡ opened cap t)
        × ((p : ℕ) → p < T.lines → w.board.register.dirty p ≡ true → (s : Slot) × (t p ≡ some s) × ((i : ℕ) → i < T.arity p → s.counters i ≡ counter_in l (T.child p i)))
    -- no other fault comes: a line that it rests on is corrupt, or the dirty sum is missed
    pub why : Passes cap num l → (r : Fault) → x ≡ refused r 0 → ((j : Journal) × Powerless w j) ⊎ (((q : ℕ) × (r ≡ fault corrupt q) × RecoveryRests T w.board.register.dirty q) ⊎ (r ≡ fault sum_mismatch 0))
    -- a line named as corrupt does not stand, or one of its ancestors does not
    pub places : (q : ℕ) → x ≡ refused (fault corrupt q) 0 → ((u : ℕ) → Rests T (λ p. false) q u → Stands T S l w'.board.memory u) → ⊥
    -- the dirty sum is missed only by replayed lines: each was committed at its place, if long ago
    pub missed : x ≡ refused (fault sum_mismatch 0) 0 → (q : ℕ) → RecoveryRests T w.board.register.dirty q → (c : ℕ) × (b : Body) × InLog l q c b × (w'.board.memory q ≡ line_at T S q c b)
    -- nothing else changes
    pub idle : w.board.register.journal ≡ none → w'.board ≡ w.board
    pub spends : NotRaised w.board.power w'.board.power
    pub keeps : (w'.board.size ≡ w.board.size) × (w'.board.register ≡ w.board.register)
        × ((q : ℕ) → (w'.board.memory q ≡ w.board.memory q) ⊎ ((L : Line) × (w.board.register.journal ≡ some (record { at = q; line = L })) × (w'.board.memory q ≡ L)))

-- A bring-up of a board not yet formatted is refused and changes nothing.
pub record UnformattedLaw (cap : ℕ) (w : World) (l : Log) (x : Answer) (w' : World) (l' : Log) : Type 0 where
  pub bad_slots : (cap < 1) ⊎ (64 < cap) → (x ≡ refused (fault bad_size 0) 0) × Unchanged w (latched (fault bad_size 0)) l w' l'
  pub invalid : 1 ≤ cap → cap ≤ 64 → (x ≡ refused (fault invalid_register 0) 0) × Unchanged w (latched (fault invalid_register 0)) l w' l'

-- An open chip has 1 to 64 slots, and no more dirty nodes than slots.
abbrev pub Within : Shape → Chip → Type 0
Within T cold = Unit {0}
Within T (latched r) = Unit {0}
Within T (opened cap t) = (1 ≤ cap) × (cap ≤ 64) × (dirty_count T t ≤ cap)

module _ (shapes : ℕ → Shape) (S : Scheme) where
  -- A board not yet formatted has no commits; the register of a formatted one says what was committed.
  abbrev pub RegisterSays : BoardState → Log → Type 0
  RegisterSays b l = ((b.register.formatted ≡ 0) × (l ≡ [])) ⊎ ((b.register.formatted ≡ 1) × RegisterLaw S (shape_of shapes b) b.register l)

  -- The law of each event. What cannot happen has none, and nor has what comes from outside.
  abbrev pub Law : World → Log → Chip → Event → Answer → World → Log → Type 0
  Law w l cold (format h) x w' l' = FormatLaw S (shapes h) h w l x w' l'
  Law w l cold (bring_up cap num) x w' l' =
      (l' ≡ l) × (w.board.register.formatted ≡ 1 → BringUpLaw S (shape_of shapes w.board) cap num w l x w') × (w.board.register.formatted ≡ 0 → UnformattedLaw cap w l x w' l')
  Law w l cold (read a) x w' l' = Unit {0}
  Law w l cold (write a b) x w' l' = Unit {0}
  Law w l cold flush x w' l' = Unit {0}
  Law w l cold shut_down x w' l' = Unit {0}
  Law w l cold (tamper a L) x w' l' = Unit {0}
  Law w l cold (recharge p) x w' l' = Unit {0}
  Law w l (opened cap t) (format h) x w' l' = Unit {0}
  Law w l (opened cap t) (bring_up c num) x w' l' = Unit {0}
  Law w l (opened cap t) (read a) x w' l' = ReadLaw S (shape_of shapes w.board) w l a x × Unchanged w (opened cap t) l w' l'
  Law w l (opened cap t) (write a b) x w' l' = WriteLaw S (shape_of shapes w.board) cap t w l a b x w' l'
  Law w l (opened cap t) flush x w' l' = FlushLaw S (shape_of shapes w.board) cap w l x w' l'
  Law w l (opened cap t) shut_down x w' l' = (x ≡ nothing) × Unchanged w cold l w' l'
  Law w l (opened cap t) (tamper a L) x w' l' = Unit {0}
  Law w l (opened cap t) (recharge p) x w' l' = Unit {0}
  Law w l (latched r) (format h) x w' l' = Unit {0}
  Law w l (latched r) (bring_up c num) x w' l' = Unit {0}
  Law w l (latched r) (read a) x w' l' = (x ≡ refused r 0) × Unchanged w (latched r) l w' l'
  Law w l (latched r) (write a b) x w' l' = (x ≡ refused r 0) × Unchanged w (latched r) l w' l'
  Law w l (latched r) flush x w' l' = (x ≡ refused r 0) × Unchanged w (latched r) l w' l'
  Law w l (latched r) shut_down x w' l' = (x ≡ nothing) × Unchanged w cold l w' l'
  Law w l (latched r) (tamper a L) x w' l' = Unit {0}
  Law w l (latched r) (recharge p) x w' l' = Unit {0}

  -- What holds at a point of a history: no counter was used twice at an address, the register and the slots say what was committed, and whatever comes next obeys its law.
  pub record Promises (w : World) (l : Log) : Type 0 where
    pub no_reuse : NoReuse l
    pub register : RegisterSays w.board l
    pub slots : SlotsLaw (shape_of shapes w.board) w.chip l
    pub within : Within (shape_of shapes w.board) w.chip
    pub next : (e : Event) (x : Answer) (w' : World) (l' : Log) → Step shapes S w l e x w' l' → Law w l w.chip e x w' l'

-- A call did not lose power.
abbrev pub NotLost : Answer → Type 0
NotLost x = (r : Fault) (n : ℕ) → x ≡ refused r n → r.cause ≢ power_lost

-- Two outcomes are one: the answer, the commits, and every line.
pub record SameOutcome (x : Answer) (u : World) (j : Log) (y : Answer) (v : World) (k : Log) : Type 0 where
  pub answer : x ≡ y
  pub log : j ≡ k
  pub memory : (q : ℕ) → u.board.memory q ≡ v.board.memory q

-- The law of commits leaves a write and a flush no choice but where power is lost. The register and the slots follow from the log.
pub record LawsDecide : Type 0 where
  pub writes : (S : Scheme) (T : Shape) (cap a : ℕ) (b : Body) (w : World) (l : Log) (x y : Answer) (u v : World) (j k : Log) → NotLost x → NotLost y → RegisterLaw S T u.board.register j → RegisterLaw S T v.board.register k →
      CommitLaw S T cap (Written T cap a b) w l x u j → CommitLaw S T cap (Written T cap a b) w l y v k → SameOutcome x u j y v k
  pub flushes : (S : Scheme) (T : Shape) (cap : ℕ) (w : World) (l : Log) (x y : Answer) (u v : World) (j k : Log) → NotLost x → NotLost y → RegisterLaw S T u.board.register j → RegisterLaw S T v.board.register k →
      CommitLaw S T cap (EvictedUntil T 0) w l x u j → CommitLaw S T cap (EvictedUntil T 0) w l y v k → SameOutcome x u j y v k

-- In every history of a board with these layouts, at every point, under every suite.
abbrev pub KeepsPromises : (ℕ → Shape) → Type 0
KeepsPromises shapes = (S : Scheme) (w : World) (l : Log) → Reached shapes S w l → Promises shapes S w l

-- At each number of levels a layout that obeys the tree laws.
abbrev pub TreeLayouts : (ℕ → Shape) → Type 0
TreeLayouts shapes = (h : ℕ) → 1 ≤ h → h ≤ 4 → TreeLaws (shapes h)

-- The promises hold for every such layout, and for those with eight counters to a node in particular.
pub record HistoryHolds : Type 0 where
  pub every : (shapes : ℕ → Shape) → TreeLayouts shapes → KeepsPromises shapes
  pub eight : KeepsPromises eight_ary
  -- sixteen counters to a leaf make a layout too
  pub sixteen : TreeLayouts sixteen_leaves
