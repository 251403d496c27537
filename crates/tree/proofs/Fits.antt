-- What is known of an address once the code has tested it.
use Rattle.std.proofs.Common.{◌≡◌, ℕ, ◌<◌, ◌≤◌, true, false, ltb, leb, sym, refl}
use mathlib.Core.Bool.{false≢true}
use mathlib.Core.Option.{Option, some, none}
use Rattle.std.proofs.lemmas.Bool.{and_parts, leb-true, ltb-true}
use Rattle.machine.specs.Layout.{Shape}
use Rattle.machine.specs.Plans.{Slot as DirtyNode, is_dirty}
use Rattle.machine.specs.Layouts.{is_node}

pub node_parts : (T : Shape) (a : ℕ) → is_node T a ≡ true → (T.data_lines ≤ a) × (a < T.lines)
node_parts T a e = let p = and_parts (leb T.data_lines a) (ltb a T.lines) e in (leb-true T.data_lines a p.0, ltb-true a T.lines p.1)

pub not_dirty : (o : Option DirtyNode) → is_dirty o ≡ false → o ≡ none
not_dirty none e = refl
not_dirty (some s) e = absurd (false≢true (sym e))
