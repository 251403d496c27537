use Rattle.std.proofs.Common.{rules}
use Rattle.aes.specs.Aes.{aes128}
use Rattle.cbench.proofs.Turning.{turned_by_fold}
use Rattle.cbench.proofs.cbench_aes.Goals as goal

pub returns : goal.returns
returns c = turned_by_fold _ _ (aes128 c.args.key.now.bytes) c.args.turns c.args.block.now.bytes c.fold-block.result c.fold-block.ensures.ran (λ x i y q h. (search rules, search rules))
