use Rattle.std.proofs.Common.{◌≡◌, [], length, ap, rules}
use Rattle.text.proofs.Cuts.{line_up_to}
use Rattle.text.proofs.next_line.Goals as goal

pub returns : goal.returns
returns c =
    let some : c.args.text.now ≡ [] → ⊥ = λ e. let none : length c.args.text.now ≡ 0 = ap length e in search rules in
    rw c.unwrap_or.ensures (line_up_to c.args.text.now _ c.cut.result.1 c.after.result c.cut.ensures some c.after.ensures)
