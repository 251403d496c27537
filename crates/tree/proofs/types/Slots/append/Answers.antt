use Rattle.std.proofs.Common.{◌≡◌, suc, ◌+◌, set, refl, ap, ◌∙◌, arith, rules}
use mathlib.Core.Path.{fun_ext}
use Rattle.tree.specs.Tables.{rows_in}
use Rattle.tree.specs.SlotTable.{table_in}
use Rattle.tree.proofs.InOrder.{ordered_in, ordered_push}
use Rattle.tree.proofs.Rows.{table_push}
use Rattle.tree.proofs.types.Slots.append.Goals as goal

pub returns-clause-table : goal.returns-clause-table
unfolding table_in
returns-clause-table c =
    let s = c.args.self.now in
    let plus : s.used + 1 ≡ suc s.used = omega arith in
    ap (rows_in (set s.table s.used c.args.slot)) plus ∙ fun_ext (λ q. table_push s.table s.used c.args.slot.address c.args.slot (search rules) c.requires.clean refl q)

pub invariant_of-self : goal.invariant_of-self
unfolding table_in
invariant_of-self c =
    let D = ordered_push c.args.self.now.layout.levels c.args.self.now.table c.args.self.now.used (ordered_in c.args.self.now) c.args.self.now.fit c.args.slot (search rules) c.requires.node c.requires.range c.requires.clean c.requires.within in
    record { few = search rules; fit = D.fit; apart = D.apart; range = D.range; node = D.node; small = D.small }
