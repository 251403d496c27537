use Rattle.std.proofs.Common.{◌≡◌, ◌%◌, ◌^◌, ◌<◌, sym, ap, ◌∙◌, mod-eq_of_lt, arith, rules}
use borrow.Author.Tests.{tests}
use Rattle.std.proofs.lemmas.Option.{IfSome_then}
use Rattle.tree.proofs.Bits.{mask_of, top_of}
use Rattle.tree.proofs.dirty_map.top_bit.Goals as goal
use Rattle.tree.proofs.dirty_map.top_bit.Goals.{then-below-lt64, else-below-lt64}

pub returns : goal.returns
returns c =
    let w0 = c.args.word in
    let r0 = c.args.below in
    let is : c.if-below-lt64.low ≡ w0 % 2 ^ r0 = elim c.if-below-lt64.branch [
      | then-below-lt64 w ↦ mask_of w0 r0 _ w.if-below-lt64.true w.low-is
      | else-below-lt64 w ↦ (let e : r0 ≡ 64 = omega (arith, w.if-below-lt64.false) in let f : w0 < 2 ^ 64 = omega (arith, c.ranges.word.fits) in w.low-is ∙ sym (mod-eq_of_lt f) ∙ ap (λ x. w0 % 2 ^ x) (sym e))
    ] in
    top_of w0 r0 _ c.then.result c.requires is c.then.ensures.variant (IfSome_then c.then.result c.then.ensures.some (λ x k. search (rules, tests)))
