-- What the laws speak of: lines that stand, what a call rests on, and commits.
use Rattle.std.specs.Prelude.{◌≡◌, ℕ, suc, ◌<◌, Bool, true, false, [], ◌∷◌, ◌≢◌}
use Rattle.suite.specs.Scheme.{Body, Line, Scheme}
use Rattle.machine.specs.Layout.{Shape}
use Rattle.machine.specs.Store.{line_at, Log}
use Rattle.machine.specs.History.{Chip, World, counter_in, body_in, InLog}

-- No address is committed twice under one counter.
abbrev pub NoReuse : Log → Type 0
NoReuse [] = Unit {0}
NoReuse (e ∷ l) = ((b : Body) → InLog l e.at e.counter b → ⊥) × NoReuse l

-- The line at an address is the one last committed there.
abbrev pub Stands : Shape → Scheme → Log → (ℕ → Line) → ℕ → Type 0
Stands T S l m q = m q ≡ line_at T S q (counter_in l q) (body_in l q)

-- What line a rests on: itself, and its ancestors below the nearest dirty one.
pub data Rests (T : Shape) (dirty : ℕ → Bool) (a : ℕ) : ℕ → Type 0 where
  itself : Rests T dirty a a
  above : {q : ℕ} → Rests T dirty a q → T.parent q < T.lines → dirty (T.parent q) ≡ false → Rests T dirty a (T.parent q)

-- All that line a rests on above itself stands.
abbrev pub WayStands : Shape → Scheme → Log → (ℕ → Line) → (ℕ → Bool) → ℕ → Type 0
WayStands T S l m dirty a = (q : ℕ) → Rests T dirty a q → (q ≢ a) → Stands T S l m q

-- What a bring-up rests on: each dirty node's line, its clean ancestors, and its children.
pub data RecoveryRests (T : Shape) (dirty : ℕ → Bool) : ℕ → Type 0 where
  way : {p q : ℕ} → p < T.lines → dirty p ≡ true → Rests T dirty p q → RecoveryRests T dirty q
  child : {p : ℕ} (i : ℕ) → p < T.lines → dirty p ≡ true → i < T.arity p → RecoveryRests T dirty (T.child p i)

-- What was last committed at address q stays so.
abbrev pub SameCommit : Log → Log → ℕ → Type 0
SameCommit l l' q = (counter_in l' q ≡ counter_in l q) × (body_in l' q ≡ body_in l q)

-- Body b became the one last committed at address a, under the next counter.
abbrev pub CommitsNext : Log → Log → ℕ → Body → Type 0
CommitsNext l l' a b = (counter_in l' a ≡ suc (counter_in l a)) × (body_in l' a ≡ b)

-- The board and the log stay, and the chip is left like this.
abbrev pub Unchanged : World → Chip → Log → World → Log → Type 0
Unchanged w c l w' l' = (w'.board ≡ w.board) × (w'.chip ≡ c) × (l' ≡ l)
