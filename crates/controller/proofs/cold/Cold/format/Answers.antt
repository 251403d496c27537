use Rattle.std.proofs.Common.{ℕ, ◌<◌, ◌≤◌, List, length, get_or, sym, refl, ap, ◌∙◌, subst, arith}
use Rattle.std.proofs.lemmas.Result.{err_from_is_err_and}
use Rattle.machine.specs.Layout.{eight_ary, lines_of}
use Rattle.machine.specs.Faults.{fault, bad_size, too_few_lines, already_formatted}
use Rattle.machine.specs.Plans.{format_writes}
use Rattle.machine.specs.declared.types.Register.{Register}
use Rattle.controller.specs.declared.types.Fault.TheVariants.{BadLevels}
use Rattle.controller.specs.Runs.{Wrote, ended}
use Rattle.controller.specs.Worlds.{RegisterMade}
use Rattle.controller.proofs.Keeping.{format_kept, format_others}
use Rattle.controller.proofs.LayoutChecks.{no_layout}
use Rattle.controller.proofs.FormatWrites.{format_refused, outside, too_few, twice, format_does, register_says}
use Rattle.controller.proofs.cold.Cold.format.Goals as goal

pub returns-in_err-layout : goal.returns-in_err-layout
returns-in_err-layout g c =
    let x = err_from_is_err_and c.from_residual.result c.from_residual.ensures.1 in
    let m = g.B.Board.meaning c.args.self.now.board in
    let K = g.S.Suite.scheme c.args.suite.now in
    let h = c.args.levels in
    let e = rw c.in_err-layout.ensures.ok_part at c.new.ensures in
    let f = no_layout c.new.result BadLevels c.in_err-layout.field-0.0 c.in_err-layout.ensures.ok_part c.in_err-layout.ensures.value in
    let d = format_refused K m h (fault bad_size 0) (outside K m h e) in
    rw (x.1, x.2, f) (record { law = format_kept K h m _ m d; others = format_others K h m _ m d; does = d; register = refl })

pub returns-then-lines-count : goal.returns-then-lines-count
returns-then-lines-count g c =
    let m = g.B.Board.meaning c.args.self.now.board in
    let K = g.S.Suite.scheme c.args.suite.now in
    let h = c.args.levels in
    let e = rw c.in_ok-layout.ensures.ok_part at c.new.ensures in
    let k : length m.lines < lines_of c.args.levels = subst (λ x. length m.lines < lines_of x) e.0 (omega (arith, c.if-lines-count.true, c.lines.ensures.value, c.count.ensures)) in
    let d = format_refused K m h (fault too_few_lines 0) (too_few K m h e.1 e.2 k) in
    record { law = format_kept K h m _ m d; others = format_others K h m _ m d; does = d; register = refl }

pub returns-then-register-ne0 : goal.returns-then-register-ne0
returns-then-register-ne0 g c =
    let m = g.B.Board.meaning c.args.self.now.board in
    let K = g.S.Suite.scheme c.args.suite.now in
    let h = c.args.levels in
    let e = rw c.in_ok-layout.ensures.ok_part at c.new.ensures in
    let first = ap (λ (r : Register). r.formatted) c.decode-register.ensures.is ∙ ap (λ (ws : List ℕ). get_or ws 0 0) c.read_register.ensures in
    let k : lines_of c.args.levels ≤ length m.lines = subst (λ x. lines_of x ≤ length m.lines) e.0 (omega (arith, c.if-lines-count.false, c.lines.ensures.value, c.count.ensures)) in
    let d = format_refused K m h (fault already_formatted 0) (twice K m h e.1 e.2 k (λ z. c.if-register-ne0.true (first ∙ z))) in
    record { law = format_kept K h m _ m d; others = format_others K h m _ m d; does = d; register = refl }

pub returns : goal.returns
returns g c =
    let m = g.B.Board.meaning c.args.self.now.board in
    let K = g.S.Suite.scheme c.args.suite.now in
    let h = c.args.levels in
    let e = rw c.in_ok-layout.ensures.ok_part at c.new.ensures in
    let m' = g.B.Board.meaning c.write_format.new.board in
    let first = ap (λ (r : Register). r.formatted) c.decode-register.ensures.is ∙ ap (λ (ws : List ℕ). get_or ws 0 0) c.read_register.ensures in
    let k : lines_of c.args.levels ≤ length m.lines = subst (λ x. lines_of x ≤ length m.lines) e.0 (omega (arith, c.if-lines-count.false, c.lines.ensures.value, c.count.ensures)) in
    let d = format_does K m h e.1 e.2 k (sym first ∙ c.if-register-ne0.false) m' c.write_format.result c.answer.result c.answer.ensures (subst (λ x. Wrote (format_writes (eight_ary x) K x) m (ended c.write_format.result) m') e.0 c.write_format.ensures.wrote) in
    record { law = format_kept K h m _ m' d; others = format_others K h m _ m' d; does = d; register = register_says h K.number m.register c.write_format.result c.answer.result c.answer.ensures m'.register (subst (λ x. RegisterMade x K.number m.register c.write_format.result m'.register) e.0 c.write_format.ensures.register) }
