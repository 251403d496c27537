use Rattle.std.proofs.Common.{rules}
use Rattle.script.specs.Script.{bad_line}
use Rattle.script.proofs.Headers.{header_as}
use Rattle.script.proofs.header.read_header_as.Goals as goal

pub returns : goal.returns
returns g c = header_as bad_line bad_line _ _ (λ l o k. search rules) _ _ (λ n e. e) (λ x e. e) _ c.read_lines.ensures
