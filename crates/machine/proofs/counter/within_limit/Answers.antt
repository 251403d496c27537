-- The test of each of the eight counters decides.
use Rattle.std.proofs.Common.{◌≡◌, true, false, leb, rules}
use Rattle.std.proofs.lemmas.Iterator.{cases_from_all, YieldsList-from_slice}
use Rattle.machine.specs.Layout.{counter_limit, all_within}
use Rattle.machine.proofs.Basics.{every_listed}
use Rattle.machine.proofs.counter.within_limit.Goals as goal

pub returns : goal.returns
unfolding all_within
returns c =
    let xs = c.args.counters.now in
    every_listed 8 (λ x. leb x counter_limit) xs 0 c.all.result (search rules)
    (cases_from_all _ _ _ (λ x. leb x counter_limit ≡ true) (λ x. leb x counter_limit ≡ false) c.all.ensures.ran (YieldsList-from_slice xs cc) (λ x q k. search rules) (λ x q k. search rules))
