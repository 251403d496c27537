-- The words are those of before but for the commit's, and mean its register.
use Rattle.std.proofs.Common.{◌≡◌, ◌++◌, length, take, drop, ap, ◌∙◌, subst, rules}
use Rattle.machine.specs.Words.{register_in}
use Rattle.machine.proofs.Encodings.{commit_put, commit_meant}
use Rattle.machine.proofs.register.put_commit.Goals as goal

pub returns-clause-is : goal.returns-clause-is
returns-clause-is c = c.put.ensures.is ∙ ap (λ w. take 22 w ++ (c.args.dirty.now ++ drop 32 w)) c.put_entry.ensures.is ∙ commit_put c.args.words.now c.args.dirty_sum c.args.entry.now c.args.dirty.now c.told-words c.put_entry.ensures.long

pub returns-clause-meaning : goal.returns-clause-meaning
returns-clause-meaning c =
    let r = c.put.ensures.is ∙ ap (λ w. take 22 w ++ (c.args.dirty.now ++ drop 32 w)) c.put_entry.ensures.is ∙ commit_put c.args.words.now c.args.dirty_sum c.args.entry.now c.args.dirty.now c.told-words c.put_entry.ensures.long in
    λ n. ap register_in r ∙ commit_meant c.args.words.now c.args.dirty_sum c.args.entry.now c.args.dirty.now c.told-words c.put_entry.ensures.long c.put.ensures.long n (subst (λ w. length w ≡ 32) r (search rules))
