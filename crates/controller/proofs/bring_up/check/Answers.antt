use Rattle.std.proofs.Common.{◌≤◌, sym, ap, ◌∙◌, arith, rules}
use Rattle.machine.specs.Layout.{eight_ary}
use Rattle.machine.specs.Words.{register_in}
use Rattle.machine.specs.History.{register_valid}
use Rattle.controller.proofs.RestoreSteps.{fields_levels, fields_suite, fields_map}
use Rattle.controller.proofs.RegisterChecks.{valid_parts, refuse_slots, refuse_invalid, refuse_short, refuse_suite, refuse_many, pass}
use Rattle.controller.proofs.bring_up.check.Goals as goal

pub returns-then-not-contains : goal.returns-then-not-contains
returns-then-not-contains g c = refuse_slots c.args.number c.args.slots (g.B.Board.meaning c.args.board.now) (search rules)

pub returns-then-not-is_valid : goal.returns-then-not-is_valid
returns-then-not-is_valid g c =
    let slots : (1 ≤ c.args.slots) × (c.args.slots ≤ 64) = search rules in
    refuse_invalid c.args.number c.args.slots (g.B.Board.meaning c.args.board.now) slots.0 slots.1 (sym (ap (register_valid eight_ary) c.requires) ∙ sym c.is_valid.ensures ∙ c.if-not-is_valid.true)

pub returns-in_err-layout : goal.returns-in_err-layout
returns-in_err-layout g c =
    let M = g.B.Board.meaning c.args.board.now in
    let p = valid_parts (register_in M.register) (sym (ap (register_valid eight_ary) c.requires) ∙ sym c.is_valid.ensures ∙ c.if-not-is_valid.false) in
    let e = fields_levels c.args.register.now M.register c.requires in
    absurd (omega (arith, p.1, p.2, e, (rw c.in_err-layout.ensures.ok_part at c.new-2.ensures) (omega (arith, p.1, e))))

pub returns-then-lines-count : goal.returns-then-lines-count
returns-then-lines-count g c =
    let slots : (1 ≤ c.args.slots) × (c.args.slots ≤ 64) = search rules in
    let made = rw c.in_ok-layout.ensures.ok_part at c.new-2.ensures in
    let own = made.0 ∙ fields_levels c.args.register.now (g.B.Board.meaning c.args.board.now).register c.requires in
    refuse_short c.args.number c.args.slots (g.B.Board.meaning c.args.board.now) slots.0 slots.1 (sym (ap (register_valid eight_ary) c.requires) ∙ sym c.is_valid.ensures ∙ c.if-not-is_valid.false) c.in_ok-layout.layout.levels own (omega (arith, c.if-lines-count.true, c.lines.ensures.value, c.count.ensures))

pub returns-then-number-register : goal.returns-then-number-register
returns-then-number-register g c =
    let slots : (1 ≤ c.args.slots) × (c.args.slots ≤ 64) = search rules in
    let made = rw c.in_ok-layout.ensures.ok_part at c.new-2.ensures in
    let own = made.0 ∙ fields_levels c.args.register.now (g.B.Board.meaning c.args.board.now).register c.requires in
    refuse_suite c.args.number c.args.slots (g.B.Board.meaning c.args.board.now) slots.0 slots.1 (sym (ap (register_valid eight_ary) c.requires) ∙ sym c.is_valid.ensures ∙ c.if-not-is_valid.false) c.in_ok-layout.layout.levels own (omega (arith, c.if-lines-count.false, c.lines.ensures.value, c.count.ensures)) (λ e. c.if-number-register.true (e ∙ sym (fields_suite c.args.register.now (g.B.Board.meaning c.args.board.now).register c.requires)))

pub returns-then-from-slots : goal.returns-then-from-slots
returns-then-from-slots g c =
    let slots : (1 ≤ c.args.slots) × (c.args.slots ≤ 64) = search rules in
    let made = rw c.in_ok-layout.ensures.ok_part at c.new-2.ensures in
    let own = made.0 ∙ fields_levels c.args.register.now (g.B.Board.meaning c.args.board.now).register c.requires in
    refuse_many c.args.number c.args.slots (g.B.Board.meaning c.args.board.now) slots.0 slots.1 (sym (ap (register_valid eight_ary) c.requires) ∙ sym c.is_valid.ensures ∙ c.if-not-is_valid.false) c.in_ok-layout.layout.levels own (omega (arith, c.if-lines-count.false, c.lines.ensures.value, c.count.ensures)) (c.if-number-register.false ∙ fields_suite c.args.register.now (g.B.Board.meaning c.args.board.now).register c.requires) c.args.register.now.dirty (fields_map c.args.register.now (g.B.Board.meaning c.args.board.now).register c.requires c.in_ok-layout.layout.levels made.0) (omega (arith, c.if-from-slots.true, c.from.ensures, c.dirty_nodes.ensures))

pub returns : goal.returns
returns g c =
    let slots : (1 ≤ c.args.slots) × (c.args.slots ≤ 64) = search rules in
    let made = rw c.in_ok-layout.ensures.ok_part at c.new-2.ensures in
    let own = made.0 ∙ fields_levels c.args.register.now (g.B.Board.meaning c.args.board.now).register c.requires in
    pass c.args.number c.args.slots (g.B.Board.meaning c.args.board.now) slots.0 slots.1 (sym (ap (register_valid eight_ary) c.requires) ∙ sym c.is_valid.ensures ∙ c.if-not-is_valid.false) c.in_ok-layout.layout.levels own (omega (arith, c.if-lines-count.false, c.lines.ensures.value, c.count.ensures)) (c.if-number-register.false ∙ fields_suite c.args.register.now (g.B.Board.meaning c.args.board.now).register c.requires) c.args.register.now.dirty (fields_map c.args.register.now (g.B.Board.meaning c.args.board.now).register c.requires c.in_ok-layout.layout.levels made.0) (omega (arith, c.if-from-slots.false, c.from.ensures, c.dirty_nodes.ensures))
