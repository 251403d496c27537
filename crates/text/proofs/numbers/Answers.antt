use Rattle.std.proofs.Common.{◌≡◌, length, rules}
use Rattle.text.specs.Spelling.{Spaced, Numbers}
use Rattle.text.specs.Taking.{Stops}
use Rattle.text.proofs.Pieces.{filled, unfilled}
use Rattle.text.proofs.Decimals.{numbers_none, numbers_here, numbers_more}
use Rattle.text.proofs.Readers.{at_end}
use Rattle.text.proofs.numbers.Goals as goal

pub returns-in_err-rest : goal.returns-in_err-rest
returns-in_err-rest g c =
    let k = unfilled _ Spaced (Stops 32) (λ t r h. search rules) c.args.text.now _ c.in_err-rest.ensures in
    rw c.from_residual.ensures (numbers_none g.row.N c.args.text.now k.0 k.1 k.3 (search rules) k.4)

pub returns : goal.returns
returns g c =
    let k = filled _ Spaced (Stops 32) (λ t r h. search rules) c.args.text.now _ _ c.in_ok-rest.ensures in
    let many : length c.fill.new.values ≡ g.row.N = search rules in
    rw (c.then_some.ensures, c.is_empty.ensures) (at_end (Numbers g.row.N) c.args.text.now c.in_ok-rest.rest.now _ (numbers_here g.row.N c.args.text.now _ _ k many) (numbers_more g.row.N c.args.text.now _ _ k many))
