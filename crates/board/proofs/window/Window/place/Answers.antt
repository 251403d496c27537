use Rattle.std.proofs.Common.{arith}
use Rattle.board.proofs.Windows.{window_at}
use Rattle.board.proofs.window.Window.place.Goals as goal

pub returns : goal.returns
returns g c = window_at _ _ _ _ (omega (arith, c.shown.ensures.count))
