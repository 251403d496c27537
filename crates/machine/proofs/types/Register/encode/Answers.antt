-- The words are those of the fields, and give them back.
use Rattle.std.proofs.Common.{◌≡◌, ◌++◌, length, take, drop, set, Some, sym, ap, ◌∙◌, subst, rules}
use Rattle.machine.specs.declared.types.Journal.{Journal as Entry}
use Rattle.machine.specs.Encoding.{decoded, register_meant, with_journal, EightWords}
use Rattle.machine.proofs.Encodings.{put_is, back, same_meaning}
use Rattle.machine.proofs.types.Register.encode.Goals as goal

pub returns : goal.returns
returns c =
    let f = c.args.self.now in
    let l : length c.put-2.new.words ≡ 32 = search rules in
    let h : (j : Entry) → f.journal ≡ Some j → length j.line.body ≡ 8 = λ j e. subst EightWords e c.put_journal.ensures.long in
    let r = c.put-2.ensures.is
    ∙ ap (λ w. take 22 w ++ (f.dirty ++ drop 32 w)) (c.put_journal.ensures.is ∙ ap (λ w. with_journal (set w 11 f.dirty_sum) f.journal) c.put.ensures.is)
    ∙ put_is f c.put.ensures.long h in
    let b = back f c.put.ensures.long c.put-2.ensures.long h in
    record {
      is = r;
      back = λ n. ap decoded r ∙ b n;
      meaning = λ n. sym (same_meaning c.put-2.new.words l) ∙ ap (λ w. register_meant (decoded w)) r ∙ ap register_meant (b n);
    }
