use Rattle.std.proofs.Common.{rules}
use Rattle.cbench.specs.Turns.{tagged}
use Rattle.cbench.proofs.Turning.{turned_by_fold}
use Rattle.cbench.proofs.cbench_cmac.Goals as goal

pub returns : goal.returns
returns c = turned_by_fold _ _ (tagged c.args.key.now.bytes) c.args.turns c.args.message.now.bytes c.fold-message.result c.fold-message.ensures.ran (λ x i y q h. (search rules, search rules))
