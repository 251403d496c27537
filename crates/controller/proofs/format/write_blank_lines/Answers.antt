use Rattle.std.proofs.Common.{◌≡◌, ◌+◌, ◌<◌, length, sym, refl, ap, ◌∙◌, arith}
use mathlib.Core.Option.{some, none}
use Rattle.std.proofs.lemmas.Result.{err_from_is_err_and}
use Rattle.machine.specs.Layout.{eight_ary, lines_of}
use Rattle.machine.specs.Store.{line_at}
use Rattle.machine.specs.Words.{line_in}
use Rattle.controller.specs.declared.types.TreeFault.TheVariants.{Board}
use Rattle.controller.specs.Views.{tree_fault}
use Rattle.controller.proofs.FormatWrites.{blank_none, blank_more, blank_stop, line_lost, line_done, row_zeros, line_kept}
use Rattle.controller.proofs.format.write_blank_lines.Goals as goal

pub loop-at-init : goal.loop-at-init
loop-at-init g c = (blank_none c.args.layout.levels (g.S.Suite.scheme c.args.suite.now) (g.B.Board.meaning c.args.board.now), refl, refl)

pub returns-in_err-at_line-clause-wrote : goal.returns-in_err-at_line-clause-wrote
returns-in_err-at_line-clause-wrote g c =
    let x = err_from_is_err_and c.from_residual.result c.from_residual.ensures.1 in
    let h = c.args.layout.levels in
    let M = g.B.Board.meaning c.args.board.now in
    let K = g.S.Suite.scheme c.args.suite.now in
    let M₁ = g.B.Board.meaning c.loop-at.board in
    let M₂ = g.B.Board.meaning c.write_line.new.self in
    let i = c.loop-at.at in
    let L = line_at (eight_ary h) K i 0 (λ k. 0) in
    let same : line_in c.sealed_line-line.result ≡ line_at (eight_ary c.args.layout.levels) K c.loop-at.at 0 (λ k. 0) = c.sealed_line-line.ensures ∙ ap (line_at (eight_ary h) K i 0) (sym row_zeros) in
    let f = c.in_err-at_line.field-0.0 in
    let y = tree_fault (Board f) in
    let here : c.loop-at.at < length M₁.lines = omega (arith, c.loop-at.invariant.1, c.lines-at-end.ensures.value, c.loop-at-test.true, c.requires) in
    rw (x.1, x.2) (blank_stop h K (lines_of h) (i + 1) M M₂ y (omega (arith, c.loop-at-test.true, c.lines-at-end.ensures.value)) (blank_more h K i M M₁ M₂ (some y) c.loop-at.invariant.0 (line_lost M₁ i c.sealed_line-line.result L same M₂ here c.write_line.result f c.write_line.ensures c.in_err-at_line.ensures)))

pub loop-at-preserved : goal.loop-at-preserved
loop-at-preserved g c =
    let h = c.args.layout.levels in
    let M = g.B.Board.meaning c.args.board.now in
    let K = g.S.Suite.scheme c.args.suite.now in
    let M₁ = g.B.Board.meaning c.loop-at.board in
    let M₂ = g.B.Board.meaning c.write_line.new.self in
    let i = c.loop-at.at in
    let L = line_at (eight_ary h) K i 0 (λ k. 0) in
    let same : line_in c.sealed_line-line.result ≡ line_at (eight_ary c.args.layout.levels) K c.loop-at.at 0 (λ k. 0) = c.sealed_line-line.ensures ∙ ap (line_at (eight_ary h) K i 0) (sym row_zeros) in
    let d = line_done M₁ i c.sealed_line-line.result L same M₂ c.write_line.result c.write_line.ensures c.in_ok-at_line.ensures in
    (blank_more h K i M M₁ M₂ none c.loop-at.invariant.0 d.0, d.1 ∙ c.loop-at.invariant.1, line_kept M₁ i c.sealed_line-line.result M₂ c.write_line.result c.write_line.ensures ∙ c.loop-at.invariant.2)
