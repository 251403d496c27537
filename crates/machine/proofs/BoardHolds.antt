-- What holds of a board at every point of its history.
use Rattle.std.proofs.Common.{◌≡◌, ℕ, ◌≤◌, ◌⊎◌, []}
use Rattle.suite.specs.Scheme.{Scheme}
use Rattle.machine.specs.Layout.{Shape}
use Rattle.machine.specs.Store.{Log, Register, BoardState}
use Rattle.machine.specs.Plans.{dirty_count}
use Rattle.machine.specs.History.{Chip, cold, opened, latched, shape_of, view_of}
use Rattle.machine.proofs.Trails.{OpenHolds, ColdHolds}

module _ (shapes : ℕ → Shape) (S : Scheme) where
  -- A formatted board, its layout and suite.
  pub record FormattedBoard (size : ℕ) (g : Register) : Type 0 where
    pub formatted : g.formatted ≡ 1
    pub low : 1 ≤ g.levels
    pub high : g.levels ≤ 4
    pub fitting : (shapes g.levels).lines ≤ size
    pub own : g.suite ≡ S.number

  -- A board without an open chip.
  abbrev pub BoardHolds : BoardState → Log → Type 0
  BoardHolds b l = ((b.register.formatted ≡ 0) × (l ≡ [])) ⊎ (FormattedBoard b.size b.register × ColdHolds shapes (shape_of shapes b) S l b.memory b.register)

  abbrev pub Holds : Chip → BoardState → Log → Type 0
  Holds cold b l = BoardHolds b l
  Holds (latched r) b l = BoardHolds b l
  Holds (opened cap t) b l = FormattedBoard b.size b.register × OpenHolds shapes (shape_of shapes b) S l (view_of b t) × (1 ≤ cap) × (cap ≤ 64) × (dirty_count (shape_of shapes b) t ≤ cap)
