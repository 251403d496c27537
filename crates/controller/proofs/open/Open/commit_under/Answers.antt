use Rattle.std.proofs.Common.{sym, refl, ◌∙◌, subst, arith}
use Rattle.std.proofs.lemmas.Result.{err_from_is_err_and}
use Rattle.tree.specs.SlotTable.{table_in}
use Rattle.machine.specs.declared.layout.Layout.{Layout}
use Rattle.controller.specs.Views.{Fits}
use Rattle.controller.proofs.RegisterIs.{raised_is}
use Rattle.controller.proofs.CommitWrites.{prepared, commit_lost, commit_half, commit_done, register_written}
use Rattle.controller.proofs.open.Open.commit_under.Goals as goal

pub returns-in_err-at_line : goal.returns-in_err-at_line
returns-in_err-at_line g c =
    let s = c.args.self.now.chip.slots in
    let s₁ = c.raise_at.new.slots in
    let F = c.requires.place.0 in
    let k = c.requires.place.1.0 in
    let n = c.args.commits.now in
    let d = c.in_ok-raise_at.ensures in
    let ready = prepared s s₁ F k c.layout.result c.layout.ensures c.sealed_line-line.ensures c.dirty_map.result c.raise_at.new.register d.table c.read_register-register.ensures d.register d.layout c.put_commit.ensures.meaning c.sum.ensures c.dirty_map.ensures in
    let m₁ = g.B.Board.meaning c.write_register.new.self in
    let x = err_from_is_err_and c.from_residual-in_err-at_line.result c.from_residual-in_err-at_line.ensures.1 in
    let z = commit_lost ready F k c.write_register.result c.in_err-at_line.field-0.0 m₁ (table_in s₁) c.write_register.ensures c.in_err-at_line.ensures n in
    record { tally = omega arith; went = rw (x.1, x.2) z.0; fits = subst (λ (y : Layout). Fits y.levels m₁) (sym d.layout) z.1; rest = record { suite = refl; layout = d.layout; capacity = refl; latched = refl } }

pub returns-in_err-at_line-2 : goal.returns-in_err-at_line-2
returns-in_err-at_line-2 g c =
    let s = c.args.self.now.chip.slots in
    let s₁ = c.raise_at.new.slots in
    let F = c.requires.place.0 in
    let k = c.requires.place.1.0 in
    let n = c.args.commits.now in
    let d = c.in_ok-raise_at.ensures in
    let ready = prepared s s₁ F k c.layout.result c.layout.ensures c.sealed_line-line.ensures c.dirty_map.result c.raise_at.new.register d.table c.read_register-register.ensures d.register d.layout c.put_commit.ensures.meaning c.sum.ensures c.dirty_map.ensures in
    let m₁ = g.B.Board.meaning c.write_register.new.self in
    let m₂ = g.B.Board.meaning c.write_line.new.self in
    let w = register_written ready F k m₁ c.write_register.result c.in_ok-at_line.ensures c.write_register.ensures in
    let x = err_from_is_err_and c.from_residual-in_err-at_line-2.result c.from_residual-in_err-at_line-2.ensures.1 in
    let z = commit_half ready F k m₁ w c.write_line.result c.in_err-at_line-2.field-0.0 m₂ (table_in s₁) c.write_line.ensures c.in_err-at_line-2.ensures n in
    record { tally = omega arith; went = rw (x.1, x.2) z.0; fits = subst (λ (y : Layout). Fits y.levels m₂) (sym d.layout) z.1; rest = record { suite = refl; layout = d.layout; capacity = refl; latched = refl } }

pub returns : goal.returns
returns g c =
    let s = c.args.self.now.chip.slots in
    let s₁ = c.raise_at.new.slots in
    let F = c.requires.place.0 in
    let k = c.requires.place.1.0 in
    let n = c.args.commits.now in
    let d = c.in_ok-raise_at.ensures in
    let ready = prepared s s₁ F k c.layout.result c.layout.ensures c.sealed_line-line.ensures c.dirty_map.result c.raise_at.new.register d.table c.read_register-register.ensures d.register d.layout c.put_commit.ensures.meaning c.sum.ensures c.dirty_map.ensures in
    let m₁ = g.B.Board.meaning c.write_register.new.self in
    let m₂ = g.B.Board.meaning c.write_line.new.self in
    let w = register_written ready F k m₁ c.write_register.result c.in_ok-at_line.ensures c.write_register.ensures in
    let e = d.table ∙ raised_is s.layout.levels (g.B.Board.meaning c.args.self.now.board) F (g.S.Suite.scheme c.args.self.now.suite) (table_in s) c.args.at c.args.counter k in
    let z = commit_done ready F k m₁ w c.write_line.result m₂ (table_in s₁) e c.write_line.ensures c.in_ok-at_line-2.ensures n in
    record { tally = omega arith; went = z.0; fits = subst (λ (y : Layout). Fits y.levels m₂) (sym d.layout) z.1; rest = record { suite = refl; layout = d.layout; capacity = refl; latched = refl } }
