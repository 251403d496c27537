use Rattle.std.proofs.Common.{◌≡◌, ◌+◌, ◌∷◌, length, string_bytes, ap, inl, inr, arith}
use Rattle.std.specs.Iterator.Adapters.{zip_first, zip_second}
use Rattle.text.specs.Spelling.{lines_of}
use Rattle.text.proofs.Cuts.{lines_within}
use Rattle.seal.proofs.Rows.{rows_more, rows_end}
use Rattle.seal.proofs.running.print_rows.Goals as goal

pub loop-number-preserved : goal.loop-number-preserved
loop-number-preserved g c =
    let next : (zip_first c.next.new.self).start ≡ (zip_first c.loop-number.number-iterator).start + 1 = omega (arith, c.in-Some.ensures.steps.0) in
    let line : lines_of (zip_second c.loop-number.number-iterator).text.now ≡ c.in-Some.line.now ∷ lines_of (zip_second c.next.new.self).text.now = c.in-Some.ensures.steps.1 in (
      (tt, tt),
      tt,
      rows_more (g.S.Suite.scheme c.args.suite.now) (lines_of c.args.text.now) _ _ (string_bytes c.args.out.now) (string_bytes c.loop-number.out) c.loop-number.invariant.2 _ _ line c.in-Some-read_item.item c.answer-reply.result (string_bytes c.writeln-in-loop-number.new.self) _ c.in-Some-read_item.ensures c.answer-reply.ensures c.in_ok-writeln-2.ensures.bytes next,
      omega (arith, c.loop-number.invariant.3, ap length line),
    )

pub returns : goal.returns
returns g c =
    elim c.in-None.ensures.steps [
      | inl (_, h) ↦ absurd (omega (arith, h.0, c.loop-number.invariant.3, lines_within c.args.text.now))
      | inr (_, h) ↦ rows_end (g.S.Suite.scheme c.args.suite.now) (lines_of c.args.text.now) _ _ (string_bytes c.args.out.now) (string_bytes c.loop-number.out) c.loop-number.invariant.2 h.0
    ]
