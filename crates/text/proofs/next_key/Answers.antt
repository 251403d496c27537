use Rattle.std.proofs.Common.{rules}
use Rattle.text.specs.Spelling.{HexByte}
use Rattle.text.specs.Taking.{Any}
use Rattle.text.proofs.Pieces.{filled, unfilled}
use Rattle.text.proofs.Hexes.{key_here, key_none}
use Rattle.text.proofs.next_key.Goals as goal

pub returns-in_err-rest : goal.returns-in_err-rest
returns-in_err-rest c =
    let k = unfilled _ HexByte Any (λ t r h. search rules) c.args.text.now _ c.in_err-rest.ensures in
    rw c.from_residual.ensures (key_none c.args.text.now k.0 k.1 (search rules) k.3 k.4)

pub returns : goal.returns
returns c = key_here c.args.text.now _ _ (search rules) (filled _ HexByte Any (λ t r h. search rules) c.args.text.now _ _ c.in_ok-rest.ensures)
