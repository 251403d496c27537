-- Which lines a call commits, in which order, and what the register and the slots say: over the log alone.
use Rattle.std.specs.Prelude.{◌≡◌, ℕ, suc, ◌+◌, ◌-◌, ◌<◌, ◌≤◌, cond, ◌&&◌, ◌⊎◌, [], ◌∷◌, ◌++◌, length, ◌==◌, ◌≢◌, nat_lt}
use Rattle.std.proofs.Math.Option.{Option, some, none}
use Rattle.suite.specs.Scheme.{Body, Line, Scheme}
use Rattle.board.specs.Meaning.{Power, endless, writes}
use Rattle.machine.specs.Layout.{Shape, sum_to, clip}
use Rattle.machine.specs.Store.{line_at, Journal, Register, Log, Cut}
use Rattle.machine.specs.Faults.{Fault, fault, corrupt, power_lost, at_limit}
use Rattle.machine.specs.Plans.{Table}
use Rattle.machine.specs.History.{Chip, cold, opened, latched, World, Answer, done, refused, counter_in, InLog}
use Rattle.machine.specs.Laws.{Stands, Rests, WayStands}

-- A node's pending increments: how many of its children's commits came since its own. It is dirty when there is one.
unfoldable pub pending_in : Shape → Log → ℕ → ℕ
pending_in T [] p = 0
pending_in T (e ∷ l) p = cond (e.at == p) 0 (cond (T.parent e.at == p) (suc (pending_in T l p)) (pending_in T l p))

-- Dirty nodes, counted.
unfoldable pub dirty_in : Shape → Log → ℕ
dirty_in T l = sum_to T.lines (λ p. cond (nat_lt 0 (pending_in T l p)) 1 0)

-- A node's current counters.
unfoldable pub counters_in : Shape → Log → ℕ → Body
counters_in T l p = clip (T.arity p) (λ i. counter_in l (T.child p i))

-- The log once body b is committed at a: under the next counter.
abbrev pub with_next : Log → ℕ → Body → Log
with_next l a b = record { at = a; counter = suc (counter_in l a); body = b } ∷ l

-- Evicting node A: a parent with 1,023 pending increments or more first, then A's line with A's current counters.
pub data Evicted (T : Shape) : Log → ℕ → Log → Type 0 where
  alone : {l : Log} {A : ℕ} → (T.parent A ≡ T.lines) ⊎ (pending_in T l (T.parent A) < 1023) → Evicted T l A (with_next l A (counters_in T l A))
  parent_first : {l k : Log} {A : ℕ} → T.parent A < T.lines → 1023 ≤ pending_in T l (T.parent A) → Evicted T l (T.parent A) k → Evicted T l A (with_next k A (counters_in T k A))

-- The dirty node of lowest address is evicted until at most m are dirty.
pub data EvictedUntil (T : Shape) (m : ℕ) : Log → Log → Type 0 where
  enough : {l : Log} → dirty_in T l ≤ m → EvictedUntil T m l l
  lowest_first : {l k j : Log} {A : ℕ} → m < dirty_in T l → A < T.lines → 0 < pending_in T l A → ((q : ℕ) → q < A → pending_in T l q ≡ 0) → Evicted T l A k → EvictedUntil T m k j → EvictedUntil T m l j

-- Writing body b at a with so many slots: an overdue leaf is evicted; a leaf that is not dirty has a slot made free for it; then the data line.
pub data Written (T : Shape) (cap a : ℕ) (b : Body) : Log → Log → Type 0 where
  under_root : {l : Log} → T.parent a ≡ T.lines → Written T cap a b l (with_next l a b)
  leaf_dirty : {l : Log} → T.parent a < T.lines → 0 < pending_in T l (T.parent a) → pending_in T l (T.parent a) < 1023 → Written T cap a b l (with_next l a b)
  leaf_clean : {l k : Log} → T.parent a < T.lines → pending_in T l (T.parent a) ≡ 0 → EvictedUntil T (cap - 1) l k → Written T cap a b l (with_next k a b)
  leaf_overdue : {l k j : Log} → T.parent a < T.lines → 1023 ≤ pending_in T l (T.parent a) → Evicted T l (T.parent a) k → EvictedUntil T (cap - 1) k j → Written T cap a b l (with_next j a b)

-- The first commit still to come, of those left (newest first).
unfoldable pub to_come : Log → Option ℕ
to_come [] = none
to_come (e ∷ []) = some e.at
to_come (e ∷ f ∷ r) = to_come (f ∷ r)

-- The address of the newest commit.
abbrev pub newest : Log → Option ℕ
newest [] = none
newest (e ∷ l) = some e.at

-- Power does not rise; without end it stays so.
abbrev pub NotRaised : Power → Power → Type 0
NotRaised endless endless = Unit {0}
NotRaised endless (writes q) = ⊥
NotRaised (writes p) endless = ⊥
NotRaised (writes p) (writes q) = q ≤ p

-- The slots hold the dirty nodes, with their counters and pending increments.
abbrev pub SlotsLaw : Shape → Chip → Log → Type 0
SlotsLaw T cold l = Unit {0}
SlotsLaw T (latched r) l = Unit {0}
SlotsLaw T (opened cap t) l = (p : ℕ) → t p ≡ cond (nat_lt p T.lines && nat_lt 0 (pending_in T l p)) (some (record { counters = counters_in T l p; pending = pending_in T l p })) none

module _ (S : Scheme) where
  -- The fault of a call that did not end: it is that of the line in hand, the next to be committed or the one just journaled.
  pub data InHand (T : Shape) (w' : World) (new left_over l' : Log) : Fault → Type 0 where
    -- the highest line above it that does not stand
    corrupt_above : {q p : ℕ} → to_come left_over ≡ some q → Rests T w'.board.register.dirty q p → (p ≢ q) → (Stands T S l' w'.board.memory p → ⊥) → WayStands T S l' w'.board.memory w'.board.register.dirty p → InHand T w' new left_over l' (fault corrupt p)
    -- all above it stands, and its counter is at the limit
    limit_reached : {q : ℕ} → to_come left_over ≡ some q → WayStands T S l' w'.board.memory w'.board.register.dirty q → counter_in l' q ≡ T.limit q → InHand T w' new left_over l' (fault at_limit q)
    -- all above it stands, its counter can be raised, and no power is left for the register
    before_register : {q : ℕ} → to_come left_over ≡ some q → WayStands T S l' w'.board.memory w'.board.register.dirty q → counter_in l' q < T.limit q → w'.board.power ≡ writes 0 → InHand T w' new left_over l' (fault power_lost q)
    -- it is journaled, does not stand yet, and no power is left for its line
    before_line : {q : ℕ} → newest new ≡ some q → (Stands T S l' w'.board.memory q → ⊥) → w'.board.power ≡ writes 0 → InHand T w' new left_over l' (fault power_lost q)

  -- Each line was committed only after all it rests on above itself was found to stand: as it was in the memory m of the start, unless the call itself had committed it.
  pub data Checked (T : Shape) (m : ℕ → Line) (l : Log) : Log → Type 0 where
    none_yet : Checked T m l l
    then : {k : Log} (a : ℕ) (b : Body) → Checked T m l k → ((u : ℕ) → Rests T (λ p. nat_lt p T.lines && nat_lt 0 (pending_in T k p)) a u → (u ≢ a) → counter_in k u ≡ counter_in l u → Stands T S l m u) → Checked T m l (with_next k a b)

  -- A write or flush. Full says which commits lead from the log at its start to the log at its end.
  pub record CommitLaw (T : Shape) (cap : ℕ) (Full : Log → Log → Type 0) (w : World) (l : Log) (x : Answer) (w' : World) (l' : Log) : Type 0 where
    pub answers : ((n : ℕ) × (x ≡ done n)) ⊎ ((r : Fault) × (n : ℕ) × (x ≡ refused r n))
    -- the commits made are the first of those, as many as reported: all of them if done, and then the slots are as many as before; else up to the line in hand
    pub begins : (full left_over new : Log) × Full l full × (full ≡ left_over ++ l') × (l' ≡ new ++ l)
        × ((n : ℕ) → x ≡ done n → (n ≡ length new) × (left_over ≡ []) × ((t : Table) × (w'.chip ≡ opened cap t)))
        × ((r : Fault) (n : ℕ) → x ≡ refused r n → (n ≡ length new) × InHand T w' new left_over l' r)
    -- lost power latches, and nothing else does
    pub latches : (r : Fault) (n : ℕ) → x ≡ refused r n → ((r.cause ≡ power_lost) × (w'.chip ≡ latched r)) ⊎ ((r.cause ≢ power_lost) × ((t : Table) × (w'.chip ≡ opened cap t)))
    pub board : (w'.board.size ≡ w.board.size) × (w'.board.register.formatted ≡ w.board.register.formatted) × (w'.board.register.levels ≡ w.board.register.levels)
    -- two writes for each commit
    pub spends : NotRaised w.board.power w'.board.power × ((n : ℕ) → x ≡ done n → Cut w.board.power (n + n) (n + n) w'.board.power)
    pub checked : Checked T w.board.memory l l'
    -- a line that was not committed is as before
    pub untouched : (q : ℕ) → counter_in l' q ≡ counter_in l q → w'.board.memory q ≡ w.board.memory q
    -- a line that was committed stands, unless power was lost right after its journal
    pub stored : (q : ℕ) → (counter_in l' q ≢ counter_in l q) → Stands T S l' w'.board.memory q ⊎ ((n : ℕ) × (x ≡ refused (fault power_lost q) n) × (newest l' ≡ some q))
    -- a line that was written is one committed there
    pub only : (q : ℕ) → (w'.board.memory q ≡ w.board.memory q) ⊎ ((c : ℕ) × (b : Body) × InLog l' q c b × (w'.board.memory q ≡ line_at T S q c b))

  -- The journal is the newest commit; there is none as long as format's commits are all.
  abbrev pub JournalLaw : Shape → Log → Option Journal → Type 0
  JournalLaw T [] n = ⊥
  JournalLaw T (e ∷ l) none = length (e ∷ l) ≡ T.lines
  JournalLaw T (e ∷ l) (some n) = n ≡ record { at = e.at; line = line_at T S e.at e.counter e.body }

  -- The register of a formatted board says what was committed, and nothing else.
  pub record RegisterLaw (T : Shape) (g : Register) (l : Log) : Type 0 where
    pub number : g.suite ≡ S.number
    pub roots : (i : ℕ) → i < T.arity T.lines → g.roots i ≡ counter_in l (T.child T.lines i)
    pub dirty : (p : ℕ) → g.dirty p ≡ nat_lt p T.lines && nat_lt 0 (pending_in T l p)
    pub dirty_sum : g.dirty_sum ≡ sum_to T.lines (λ p. cond (g.dirty p) (sum_to (T.arity p) (counters_in T l p)) 0)
    pub journal : JournalLaw T l g.journal
    -- lines were committed, and the newest commit of each has its largest counter
    pub inside : (a c : ℕ) (b : Body) → InLog l a c b → (a < T.lines) × (c ≤ counter_in l a)
    -- no counter is above the limit
    pub small : (a : ℕ) → a < T.lines → counter_in l a ≤ T.limit a
