-- The bits past the nodes decide.
use Rattle.std.proofs.Common.{◌≡◌, ℕ, ◌-◌, Bool, true, false, not, refl, rules}
use Rattle.std.proofs.lemmas.Iterator.{cases_from_all, YieldsList-from_range}
use Rattle.machine.specs.Words.{bit}
use Rattle.machine.proofs.ValidParts.{every_past}
use Rattle.machine.proofs.validity.map_is_valid.Goals as goal

pub returns : goal.returns
returns c =
    let p : ℕ → Bool = λ j. not (bit c.args.dirty.now j) in
    every_past c.args.nodes 640 p c.all.result c.requires
    (cases_from_all _ _ _ (λ j. p j ≡ true) (λ j. p j ≡ false) c.all.ensures.ran (YieldsList-from_range c.args.nodes 640 (640 - c.args.nodes) refl refl) (λ x q k. search rules) (λ x q k. search rules))
