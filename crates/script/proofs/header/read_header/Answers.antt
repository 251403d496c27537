use Rattle.std.proofs.Common.{rules}
use Rattle.script.proofs.Headers.{header_numbered}
use Rattle.script.proofs.header.read_header.Goals as goal

pub returns : goal.returns
returns c = header_numbered _ _ (λ l o k. search rules) _ _ (search rules) _ c.read_lines.ensures
