-- The layout that code holds, as the definitions see it.
use Rattle.std.specs.Prelude.{◌≡◌, ℕ, ◌<◌, ◌≤◌, Bool, ◌&&◌, Some, None, Option as Maybe, nat_le, nat_lt}
use Rattle.machine.specs.Layout.{Shape, eight_ary}
use Rattle.machine.specs.declared.layout.Layout.{Layout}

-- The shape of a layout: eight counters to a node.
abbrev pub shape_in : Layout → Shape
shape_in l = eight_ary l.levels

-- Whether an address is that of a node.
abbrev pub is_node : Shape → ℕ → Bool
is_node T a = nat_le T.data_lines a && nat_lt a T.lines

-- A layout has 1 to 4 levels; of any other number there is none.
abbrev pub LayoutMade : ℕ → Maybe Layout → Type 0
LayoutMade h (Some l) = (l.levels ≡ h) × (1 ≤ h) × (h ≤ 4)
LayoutMade h None = 1 ≤ h → 4 < h
