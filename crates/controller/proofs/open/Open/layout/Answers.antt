use Rattle.machine.specs.Words.{register_in}
use Rattle.std.proofs.Common.{ℕ, ◌<◌, ◌≤◌, sym, ap, ◌∙◌, subst, arith}
use Rattle.std.proofs.lemmas.Result.{err_from_is_err_and}
use Rattle.controller.specs.declared.types.Fault.TheVariants.{InvalidRegister}
use Rattle.machine.specs.declared.layout.Layout.{Layout}
use Rattle.controller.proofs.LayoutChecks.{no_layout, levels_word, check_levels, check_few, check_other, check_found}
use Rattle.controller.proofs.open.Open.layout.Goals as goal
use Rattle.controller.proofs.open.Open.layout.Goals.{else-used-gt0-via-then-used-gt0+else-levels, else-used-gt0-via-else-used-gt0}

pub returns-in_err-layout : goal.returns-in_err-layout
returns-in_err-layout g c =
    let s = c.args.self.now.chip.slots in
    let x = err_from_is_err_and c.from_residual.result c.from_residual.ensures.1 in
    let e = rw c.in_err-layout.ensures.ok_part at c.new.ensures in
    let f = no_layout c.new.result InvalidRegister c.in_err-layout.field-0.0 c.in_err-layout.ensures.ok_part c.in_err-layout.ensures.value in
    rw (x.1, x.2, f) (check_levels (g.B.Board.meaning c.args.self.now.board) s.layout.levels s.used (subst (λ (k : ℕ). 1 ≤ k → 4 < k) (levels_word c.decode-register.result _ (c.decode-register.ensures.meaning ∙ ap register_in c.read_register.ensures)) e))

pub returns-then-lines-count : goal.returns-then-lines-count
returns-then-lines-count g c =
    let s = c.args.self.now.chip.slots in
    let e = rw c.in_ok-layout.ensures.ok_part at c.new.ensures in
    check_few (g.B.Board.meaning c.args.self.now.board) s.layout.levels s.used c.in_ok-layout.layout (e.0 ∙ levels_word c.decode-register.result _ (c.decode-register.ensures.meaning ∙ ap register_in c.read_register.ensures)) (omega (arith, c.if-lines-count.true, c.lines.ensures.value, c.count.ensures))

pub returns-then-levels : goal.returns-then-levels
returns-then-levels g c =
    let s = c.args.self.now.chip.slots in
    let e = rw c.in_ok-layout.ensures.ok_part at c.new.ensures in
    check_other (g.B.Board.meaning c.args.self.now.board) s.layout.levels s.used c.in_ok-layout.layout (e.0 ∙ levels_word c.decode-register.result _ (c.decode-register.ensures.meaning ∙ ap register_in c.read_register.ensures)) (omega (arith, c.if-lines-count.false, c.lines.ensures.value, c.count.ensures)) (λ k. omega (arith, c.if-used-gt0.true, c.used.ensures.value, k)) (λ k. c.if-levels.true (c.levels.ensures ∙ ap (λ (y : Layout). y.levels) c.layout.ensures ∙ sym k ∙ sym c.levels-then-used-gt0.ensures))

pub returns : goal.returns
returns g c =
    let s = c.args.self.now.chip.slots in
    let e = rw c.in_ok-layout.ensures.ok_part at c.new.ensures in
    check_found (g.B.Board.meaning c.args.self.now.board) s.layout.levels s.used c.in_ok-layout.layout (e.0 ∙ levels_word c.decode-register.result _ (c.decode-register.ensures.meaning ∙ ap register_in c.read_register.ensures)) (omega (arith, c.if-lines-count.false, c.lines.ensures.value, c.count.ensures)) (elim c.else-used-gt0.branch [
      | else-used-gt0-via-then-used-gt0+else-levels w ↦ λ _. sym w.levels-then-used-gt0.ensures ∙ sym w.if-levels.false ∙ w.levels.ensures ∙ ap (λ (y : Layout). y.levels) w.layout.ensures
      | else-used-gt0-via-else-used-gt0 w ↦ λ k. absurd (omega (arith, w.if-used-gt0.false, c.used.ensures.value, k))
    ])
