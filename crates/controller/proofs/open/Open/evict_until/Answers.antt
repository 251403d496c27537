use Rattle.std.proofs.Common.{◌≡◌, ◌<◌, refl, ap, arith, rules}
use mathlib.Core.Option.{some, none}
use Rattle.std.proofs.lemmas.Result.{err_from_is_err_and}
use Rattle.machine.specs.Layout.{lines_of}
use Rattle.machine.specs.Plans.{is_dirty, dirty_count, evict}
use Rattle.machine.specs.Layouts.{shape_in}
use Rattle.tree.specs.SlotTable.{table_in, Lowest}
use Rattle.machine.specs.declared.layout.Layout.{Layout}
use Rattle.controller.specs.Views.{view_in, tree_fault, Fits}
use Rattle.controller.specs.Runs.{Went}
use Rattle.controller.specs.Registers.{LeftSlot}
use Rattle.controller.proofs.Chains.{of_before, of_after}
use Rattle.controller.proofs.EvictTurns.{all_clean, next_leaf, turns_left, turns_tally, turns_start, turns_fall, turns_done, turns_stop, turns_more}
use Rattle.controller.proofs.RegisterIs.{lines_small}
use Rattle.controller.proofs.open.Open.evict_until.Goals as goal

pub loop-self-init : goal.loop-self-init
loop-self-init g c =
    let s = c.args.self.now in
    record {
      fits = c.requires.0;
      rest = search rules;
      turns = turns_start s.chip.slots.layout.levels (g.S.Suite.scheme s.suite) c.args.keep (g.B.Board.meaning s.board) (table_in s.chip.slots) c.args.commits.now;
      leaves = λ q k e. e;
    }

pub unreachable-requires : goal.unreachable-requires
unreachable-requires g c =
    let s = c.loop-self.self.chip.slots in
    let z = all_clean s.layout.levels (table_in s) (λ q _. ap is_dirty (c.in_default.ensures q)) in
    omega (arith, c.used.ensures.counted, z)

pub evict-requires-clause-node : goal.evict-requires-clause-node
evict-requires-clause-node g c = (c.loop-self.invariant.fits, (c.in-Some.ensures.range, c.in-Some.ensures.dirty))

pub evict-requires-clause-countable : goal.evict-requires-clause-countable
evict-requires-clause-countable g c =
    let i = c.loop-self.invariant in
    let T = table_in c.loop-self.self.chip.slots in
    let e = of_before i.rest (λ s (y : Layout). c.used.result ≡ dirty_count (shape_in y) T) c.used.ensures.counted in
    let L = of_before i.rest (λ s (y : Layout). Lowest (shape_in y) T c.in-Some.at) c.in-Some.ensures in
    let k : c.args.keep < c.used.result = omega arith in
    let small = lines_small c.args.self.now.chip.slots.layout.levels c.args.self.now.chip.slots.layout.low c.args.self.now.chip.slots.layout.high in
    let same = of_before i.rest (λ s (y : Layout). lines_of c.loop-self.self.chip.slots.layout.levels ≡ lines_of y.levels) refl in
    omega (arith, turns_tally i.turns c.used.result e c.in-Some.at k L, same, small, c.requires.1)

pub loop-self-smaller : goal.loop-self-smaller
loop-self-smaller g c =
    let l = c.loop-self in
    let d = c.in_ok-evict.ensures in
    let T = table_in l.self.chip.slots in
    let T₁ = table_in c.evict.new.self.chip.slots in
    of_after d.rest (λ s (y : Layout). turns_left y.levels T₁ < turns_left l.self.chip.slots.layout.levels T) (turns_fall l.self.chip.slots.layout.levels l.invariant.fits T T₁ c.in-Some.at c.in-Some.ensures d.out)

pub loop-self-preserved : goal.loop-self-preserved
loop-self-preserved g c =
    let l = c.loop-self in
    let i = l.invariant in
    let h = c.args.self.now.chip.slots.layout.levels in
    let M = g.B.Board.meaning l.self.board in
    let M₁ = g.B.Board.meaning c.evict.new.self.board in
    let T = table_in l.self.chip.slots in
    let T₁ = table_in c.evict.new.self.chip.slots in
    let a = c.in-Some.at in
    let d = c.in_ok-evict.ensures in
    let e = of_before i.rest (λ s (y : Layout). c.used.result ≡ dirty_count (shape_in y) T) c.used.ensures.counted in
    let L = of_before i.rest (λ s (y : Layout). Lowest (shape_in y) T c.in-Some.at) c.in-Some.ensures in
    let k : c.args.keep < c.used.result = omega arith in
    let out = of_before i.rest (λ s (y : Layout). LeftSlot (shape_in y) a T none T₁) d.out in
    let went = of_before i.rest (λ s (y : Layout). Went (evict (shape_in y) (g.S.Suite.scheme s) (view_in M T) a) M none M₁ T₁ l.commits c.evict.new.commits) d.went in
    let fits = of_before i.rest (λ s (y : Layout). Fits y.levels M) i.fits in
    let small = lines_small l.self.chip.slots.layout.levels l.self.chip.slots.layout.low l.self.chip.slots.layout.high in
    record {
      fits = d.fits;
      rest = search rules;
      turns = turns_more i.turns c.used.result e a k L fits went (omega (arith, d.tally, small)) out;
      leaves = λ q j f. next_leaf h T T₁ a L out q j (i.leaves q j f);
    }

pub returns-in_err-evict-clause-tally : goal.returns-in_err-evict-clause-tally
returns-in_err-evict-clause-tally g c =
    let i = c.loop-self.invariant in
    let T = table_in c.loop-self.self.chip.slots in
    let e = of_before i.rest (λ s (y : Layout). c.used.result ≡ dirty_count (shape_in y) T) c.used.ensures.counted in
    let L = of_before i.rest (λ s (y : Layout). Lowest (shape_in y) T c.in-Some.at) c.in-Some.ensures in
    let k : c.args.keep < c.used.result = omega arith in
    let s = c.args.self.now.chip.slots in
    let same = of_before i.rest (λ s (y : Layout). lines_of c.loop-self.self.chip.slots.layout.levels ≡ lines_of y.levels) refl in
    omega (arith, turns_tally i.turns c.used.result e c.in-Some.at k L, same, lines_small s.layout.levels s.layout.low s.layout.high, c.in_err-evict.ensures.tally)

pub returns-in_err-evict-clause-went : goal.returns-in_err-evict-clause-went
returns-in_err-evict-clause-went g c =
    let l = c.loop-self in
    let i = l.invariant in
    let x = err_from_is_err_and c.from_residual.result c.from_residual.ensures.1 in
    let M = g.B.Board.meaning l.self.board in
    let M₁ = g.B.Board.meaning c.evict.new.self.board in
    let T = table_in l.self.chip.slots in
    let T₁ = table_in c.evict.new.self.chip.slots in
    let a = c.in-Some.at in
    let y = tree_fault c.in_err-evict.field-0.0 in
    let e = of_before i.rest (λ s (y : Layout). c.used.result ≡ dirty_count (shape_in y) T) c.used.ensures.counted in
    let L = of_before i.rest (λ s (y : Layout). Lowest (shape_in y) T c.in-Some.at) c.in-Some.ensures in
    let k : c.args.keep < c.used.result = omega arith in
    let went = of_before i.rest (λ s (z : Layout). Went (evict (shape_in z) (g.S.Suite.scheme s) (view_in M T) a) M (some y) M₁ T₁ l.commits c.evict.new.commits) c.in_err-evict.ensures.went in
    rw (x.1, x.2) (turns_stop i.turns c.used.result e a k L y went)

pub returns-clause-tally : goal.returns-clause-tally
returns-clause-tally g c =
    let s = c.args.self.now.chip.slots in
    omega (arith, c.loop-self.invariant.turns.tally, lines_small s.layout.levels s.layout.low s.layout.high)

pub returns-clause-freed : goal.returns-clause-freed
returns-clause-freed g c = λ _. (omega (arith, c.used.ensures.value), c.loop-self.invariant.leaves)

pub returns-clause-went : goal.returns-clause-went
returns-clause-went g c =
    let i = c.loop-self.invariant in
    let T = table_in c.loop-self.self.chip.slots in
    let e = of_before i.rest (λ s (y : Layout). c.used.result ≡ dirty_count (shape_in y) T) c.used.ensures.counted in
    turns_done i.turns c.used.result e (omega arith)
