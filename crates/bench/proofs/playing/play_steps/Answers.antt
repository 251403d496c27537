use Rattle.std.proofs.Common.{◌≡◌, ◌+◌, ◌∷◌, length, string_bytes, refl, ap, ◌∙◌, subst, inl, inr, arith, rules}
use Rattle.std.specs.Iterator.Adapters.{zip_first, zip_second}
use Rattle.text.specs.Spelling.{lines_of}
use Rattle.text.proofs.Cuts.{lines_within}
use Rattle.bench.specs.Rows.{row_of}
use Rattle.bench.specs.Steps.{copy_after}
use Rattle.bench.specs.Printed.{Played}
use Rattle.bench.proofs.Adding.{rows_none, rows_more, rows_end}
use Rattle.bench.proofs.playing.play_steps.Goals as goal

pub loop-number-init : goal.loop-number-init
loop-number-init g c =
    let first : (zip_first c.into_iter-number-iterator.result).start ≡ 1 = search rules in
    let lines : lines_of (zip_second c.into_iter-number-iterator.result).text.now ≡ lines_of c.args.text.now = search rules in (
      (tt, tt),
      tt,
      refl,
      rows_none (g.S.Suite.scheme c.args.opened.suite) c.args.slots (lines_of c.args.text.now) (g.B.Board.meaning c.args.opened.board) c.args.opened.chip (string_bytes c.args.out.now) _ _ first lines,
      omega (arith, ap length lines),
    )

pub print_bad_step-requires : goal.print_bad_step-requires
print_bad_step-requires g c = omega (arith, c.in-Some.ensures.steps.0, c.loop-number.invariant.4, lines_within c.args.text.now)

pub loop-number-preserved : goal.loop-number-preserved
loop-number-preserved g c =
    let meaning = g.B.Board.meaning in
    let scheme = g.S.Suite.scheme in
    let before = c.loop-number.number-iterator in
    let after = c.next.new.self in
    let next : (zip_first after).start ≡ (zip_first before).start + 1 = omega (arith, c.in-Some.ensures.steps.0) in
    let line : lines_of (zip_second before).text.now ≡ c.in-Some.line.now ∷ lines_of (zip_second after).text.now = c.in-Some.ensures.steps.1 in
    let plays = subst (λ y. Played (scheme y) c.args.slots (meaning c.loop-number.open.board) c.loop-number.open.chip c.event_of.result c.play-next.result.1 (meaning c.play-next.result.0.board) c.play-next.result.0.chip) c.loop-number.invariant.2 c.play-next.ensures.plays in (
      (tt, tt),
      tt,
      c.play-next.ensures.suite ∙ c.loop-number.invariant.2,
      rows_more (scheme c.args.opened.suite) c.args.slots (lines_of c.args.text.now) (meaning c.args.opened.board) c.args.opened.chip (lines_of (zip_second before).text.now) (zip_first before).start (meaning c.loop-number.open.board) c.loop-number.open.chip c.loop-number.copy (string_bytes c.args.out.now) (string_bytes c.loop-number.out) c.loop-number.invariant.3 c.in-Some.line.now (lines_of (zip_second after).text.now) line c.in-Some-read_step.step c.event_of.result c.play-next.result.1 (meaning c.play-next.result.0.board) c.play-next.result.0.chip c.copy_after-kept.result c.read_register.result c.row_of-row.result (string_bytes c.writeln.new.self) (zip_first after).start c.in-Some-read_step.ensures.reads
          (c.copy_after-kept.ensures ∙ ap (λ y. copy_after (meaning y) c.loop-number.copy c.in-Some-read_step.step) c.board.ensures) c.event_of.ensures plays
          (c.read_register.ensures ∙ ap (λ y. (meaning y).register) c.board-in-loop-number.ensures) (c.row_of-row.ensures ∙ ap (λ n. row_of n c.play-next.result.1 c.read_register.result) c.in-Some.ensures.steps.0.0) c.in_default-writeln.ensures.bytes next,
      omega (arith, c.loop-number.invariant.4, ap length line),
    )

pub returns : goal.returns
returns g c =
    elim c.in-None.ensures.steps [
      | inl (_, h) ↦ absurd (omega (arith, h.0, c.loop-number.invariant.4, lines_within c.args.text.now))
      | inr (_, h) ↦ rows_end (g.S.Suite.scheme c.args.opened.suite) c.args.slots (lines_of c.args.text.now) (g.B.Board.meaning c.args.opened.board) c.args.opened.chip _ _ (g.B.Board.meaning c.loop-number.open.board) c.loop-number.open.chip c.loop-number.copy (string_bytes c.args.out.now) (string_bytes c.loop-number.out) c.loop-number.invariant.3 h.0
    ]
