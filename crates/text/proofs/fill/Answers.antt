use Rattle.std.proofs.Common.{Some, refl, arith, rules}
use Rattle.std.proofs.lemmas.List.{take_more_set}
use Rattle.std.specs.Fn.{FnReturnsAt}
use Rattle.text.specs.Taking.{steps_of}
use Rattle.text.proofs.Pieces.{in_turn_more}
use Rattle.text.proofs.fill.Goals as goal

pub loop-value-preserved : goal.loop-value-preserved
loop-value-preserved g c =
    rw (take_more_set c.loop-value.value-items c.loop-value.value-index c.in_ok-value.field-0-0 (omega arith))
    (in_turn_more (steps_of (FnReturnsAt g.F.Fn c.args.next)) _ _ _ _ _ c.loop-value.invariant (Some (c.in_ok-value.field-0-0, c.in_ok-value.field-0-1), search rules, refl))
