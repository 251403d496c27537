use Rattle.std.proofs.lemmas.Result.{IfOk-weaker}
use Rattle.std.proofs.Common.{Ok, Err, refl}
use Rattle.text.specs.Writing.{bad}
use Rattle.bench.specs.Printed.{blank, Printed}
use Rattle.bench.proofs.running.print_all.Goals as goal

pub returns-in-Ok : goal.returns-in-Ok
unfolding blank Printed
returns-in-Ok c = IfOk-weaker c.play_keyed.result _ _ (λ _ e. (e.0, e.1, (Ok (c.in-Ok.header, c.in-Ok.steps), c.in-Ok.ensures, e.2))) c.play_keyed.ensures

pub returns-in_ok-writeln-in-Err : goal.returns-in_ok-writeln-in-Err
unfolding Printed
returns-in_ok-writeln-in-Err c = (bad c.in-Err.bad.number, c.in_ok-writeln-in-Err.ensures.bytes, (Err c.in-Err.bad, c.in-Err.ensures, refl))
