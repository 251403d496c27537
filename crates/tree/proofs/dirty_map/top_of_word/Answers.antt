use Rattle.std.proofs.Common.{arith}
use Rattle.std.proofs.lemmas.Grind.{common_steps}
use Rattle.tree.specs.DirtyMap.{TopOfWord}
use Rattle.tree.proofs.dirty_map.top_of_word.Goals as goal

pub returns : goal.returns
unfolding TopOfWord
returns c = grind (arith, common_steps)

pub returns-in_err-checked_sub : goal.returns-in_err-checked_sub
unfolding TopOfWord
returns-in_err-checked_sub c = grind (arith, common_steps, c.in_err-checked_sub.ensures, c.from_residual.ensures)

pub returns-in_err-top_bit : goal.returns-in_err-top_bit
unfolding TopOfWord
returns-in_err-top_bit c = grind (arith, common_steps, c.in_err-top_bit.ensures, c.from_residual-in_err-top_bit.ensures)
