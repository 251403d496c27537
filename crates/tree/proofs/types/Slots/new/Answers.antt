use Rattle.std.proofs.Common.{arith}
use mathlib.Core.Path.{fun_ext}
use Rattle.tree.specs.SlotTable.{table_in}
use Rattle.tree.proofs.Rows.{table_missing}
use Rattle.tree.proofs.types.Slots.new.Goals as goal

pub returns-clause-table : goal.returns-clause-table
unfolding table_in
returns-clause-table c = fun_ext (λ p. table_missing _ 0 p (λ k h e. omega arith))
