use Rattle.std.proofs.Common.{◌≡◌, ℕ, ◌-◌, true, get_or, refl, ap, ◌∙◌, arith, rules}
use Rattle.std.proofs.lemmas.List.{get_or-set_other}
use Rattle.std.proofs.lemmas.Result.{err_from_is_err_and}
use Rattle.machine.specs.Layout.{sum_to}
use Rattle.machine.specs.Words.{memory_in}
use Rattle.machine.specs.Plans.{child_counter, child_valid}
use Rattle.machine.specs.Layouts.{shape_in}
use Rattle.machine.proofs.EightAry.{lines_near}
use Rattle.tree.proofs.Sums.{sum_none}
use Rattle.controller.proofs.RestoreNode.{first_child, child_in, child_ok, child_bad, children_valid, below_one, set_more, sum_step}
use Rattle.controller.proofs.view.View.slot_from.Goals as goal

pub loop-i-init : goal.loop-i-init
loop-i-init g c = ((λ k h. absurd (omega arith)), (λ k h. refl), (λ k h. absurd (omega arith)), sum_none _, omega arith)

pub overflow_add-first : goal.overflow_add-first
overflow_add-first g c =
    let v = c.args.self.now in
    let k = child_in v.layout.levels (g.B.Board.meaning v.board.now) v.fits (g.S.Suite.scheme v.suite.now) c.args.at c.first_child-first.result c.requires.place.0 c.requires.place.1 (first_child v.layout.levels c.args.at c.first_child-first.result v.layout.low v.layout.high c.requires.place.1 c.first_child-first.ensures) c.loop-i.i c.loop-i-test.true in
    omega (arith, k, lines_near v.layout.levels v.layout.low v.layout.high)

pub restore_child-requires : goal.restore_child-requires
restore_child-requires g c =
    let v = c.args.self.now in
    child_in v.layout.levels (g.B.Board.meaning v.board.now) v.fits (g.S.Suite.scheme v.suite.now) c.args.at c.first_child-first.result c.requires.place.0 c.requires.place.1 (first_child v.layout.levels c.args.at c.first_child-first.result v.layout.low v.layout.high c.requires.place.1 c.first_child-first.ensures) c.loop-i.i c.loop-i-test.true

pub returns-in_err-restored-clause-value : goal.returns-in_err-restored-clause-value
returns-in_err-restored-clause-value g c =
    let v = c.args.self.now in
    let M = g.B.Board.meaning v.board.now in
    let x = err_from_is_err_and c.from_residual.result c.from_residual.ensures.1 in
    let I = c.loop-i.invariant in
    let w : get_or c.loop-i.counter-items c.loop-i.i 0 ≡ (memory_in M.lines c.args.at).words c.loop-i.i = I.1 c.loop-i.i (omega arith) ∙ ap (λ (f : ℕ → ℕ). f c.loop-i.i) c.requires.own_counters in
    rw (x.1, x.2) (child_bad v.layout.levels M v.fits (g.S.Suite.scheme v.suite.now) c.args.at c.first_child-first.result c.requires.place.0 c.requires.place.1 c.first_child-first.ensures c.loop-i.i (get_or c.loop-i.counter-items c.loop-i.i 0) w c.in_err-restored.field-0.0 c.in_err-restored.ensures c.loop-i-test.true I.2)

pub loop-i-preserved : goal.loop-i-preserved
loop-i-preserved g c =
    let v = c.args.self.now in
    let M = g.B.Board.meaning v.board.now in
    let K = g.S.Suite.scheme v.suite.now in
    let I = c.loop-i.invariant in
    let w : get_or c.loop-i.counter-items c.loop-i.i 0 ≡ (memory_in M.lines c.args.at).words c.loop-i.i = I.1 c.loop-i.i (omega arith) ∙ ap (λ (f : ℕ → ℕ). f c.loop-i.i) c.requires.own_counters in
    let d = child_ok v.layout.levels M v.fits K c.args.at c.first_child-first.result c.requires.place.0 c.requires.place.1 c.first_child-first.ensures c.loop-i.i (get_or c.loop-i.counter-items c.loop-i.i 0) w c.in_ok-restored.restored c.in_ok-restored.ensures in (
      set_more c.loop-i.counter-items (child_counter (shape_in v.layout) (memory_in M.lines) c.args.at) c.loop-i.i c.in_ok-restored.restored (omega (arith, c.loop-i-test.true)) d.0 I.0,
      (λ k h. get_or-set_other c.loop-i.counter-items c.loop-i.i k c.in_ok-restored.restored 0 (λ y. omega arith) ∙ I.1 k (omega arith)),
      (λ k h. below_one (λ k. child_valid (shape_in v.layout) K (memory_in M.lines) c.args.at k ≡ true) c.loop-i.i k h d.1 (I.2 k)),
      sum_step (λ k. child_counter (shape_in v.layout) (memory_in M.lines) c.args.at k - (memory_in M.lines c.args.at).words k) c.loop-i.i c.loop-i.pending c.moved-pending.result I.3 (c.moved-pending.ensures ∙ ap (λ x. x - get_or c.loop-i.counter-items c.loop-i.i 0) d.0 ∙ ap (λ x. child_counter (shape_in v.layout) (memory_in M.lines) c.args.at c.loop-i.i - x) w),
      omega (arith, I.4, d),
    )

pub returns-clause-value : goal.returns-clause-value
returns-clause-value g c =
    let v = c.args.self.now in
    let M = g.B.Board.meaning v.board.now in
    let e : c.loop-i.i ≡ 8 = search rules in
    let I = c.loop-i.invariant in
    children_valid v.layout.levels M v.fits (g.S.Suite.scheme v.suite.now) c.args.at c.first_child-first.result c.requires.place.0 c.requires.place.1 (first_child v.layout.levels c.args.at c.first_child-first.result v.layout.low v.layout.high c.requires.place.1 c.first_child-first.ensures) c.loop-i.counter-items c.loop-i.pending (search rules) (λ j h. I.0 j (omega arith)) (λ j h. I.2 j (omega arith)) (I.3 ∙ ap (λ n. sum_to n (λ k. child_counter (shape_in v.layout) (memory_in M.lines) c.args.at k - (memory_in M.lines c.args.at).words k)) e)
