use Rattle.std.proofs.Common.{◌≡◌, ℕ, List, length, get_or, take, refl, ◌∙◌, subst, arith}
use Rattle.std.proofs.lemmas.List.{length-set, length-take, take_all}
use Rattle.controller.specs.declared.event.Event.{Event}
use Rattle.controller.specs.declared.event.Event.TheVariants.{Read}
use Rattle.controller.specs.declared.event.Reply.{Reply}
use Rattle.controller.specs.Worlds.{world_in}
use Rattle.controller.specs.Scripts.{Plays, PlaysOne, DoesOne, DoesAll}
use Rattle.controller.proofs.ScriptSteps.{plays_none, script_more, script_does, dropped_more, dropped_all}
use Rattle.controller.proofs.open.Open.run_script.Goals as goal

pub loop-i-init : goal.loop-i-init
loop-i-init g c = (plays_none (g.S.Suite.scheme c.args.self.suite) c.args.slots (world_in (g.B.Board.meaning c.args.self.board) c.args.self.chip), (refl, refl), refl, refl, refl)

pub loop-i-preserved : goal.loop-i-preserved
loop-i-preserved g c =
    let i = c.loop-i.i in
    let es = take c.min.result c.args.events.now in
    let e = get_or es i (Read 0) in
    let rs = c.loop-i.replies in
    let r = c.run-next.result.1 in
    let num = c.args.slots in
    let own = c.args.self in
    let now = c.loop-i.current in
    let next = c.run-next.result.0 in
    let m = g.B.Board.meaning own.board in
    let m₁ = g.B.Board.meaning now.board in
    let m₂ = g.B.Board.meaning next.board in
    let P : g.row.S.Denot → Type 0 = λ s. PlaysOne (g.S.Suite.scheme s) num (world_in m₁ now.chip) e r (world_in m₂ next.chip) in
    let D : g.row.S.Denot → Type 0 = λ s. DoesOne (g.S.Suite.scheme s) num (g.B.Recharge.supply now.board) m₁ now.chip e r m₂ next.chip in
    let K = g.S.Suite.scheme own.suite in (
      script_more K num (world_in m own.chip) (world_in m₁ now.chip) (world_in m₂ next.chip) es rs i e (Read 0) r c.loop-i-test.true (omega (arith, length-take c.min.result c.args.events.now, c.min.ensures)) refl c.loop-i.invariant.0 (subst P c.loop-i.invariant.2 c.run-next.ensures.plays),
      script_does K num (g.B.Recharge.supply now.board) m m₁ m₂ own.chip now.chip next.chip es rs i (Read 0) r c.loop-i-test.true (omega (arith, length-take c.min.result c.args.events.now, c.min.ensures)) c.loop-i.invariant.1 (subst D c.loop-i.invariant.2 c.run-next.ensures.does),
      c.run-next.ensures.suite ∙ c.loop-i.invariant.2,
      length-set rs i r ∙ c.loop-i.invariant.3,
      dropped_more rs c.args.replies.now i r c.loop-i.invariant.4,
    )

pub returns : goal.returns
returns g c =
    let i = c.loop-i.i in
    let es = c.args.events.now in
    let n = c.min.result in
    let K = g.S.Suite.scheme c.args.self.suite in
    let m = g.B.Board.meaning c.args.self.board in
    let m₁ = g.B.Board.meaning c.loop-i.current.board in
    let P : List Event → List Reply → Type 0 = λ xs rs. Plays K c.args.slots (world_in m c.args.self.chip) xs rs (world_in m₁ c.loop-i.current.chip) in
    let D : List Event → List Reply → Type 0 = λ xs rs. DoesAll K c.args.slots m c.args.self.chip xs rs m₁ c.loop-i.current.chip in
    let all = take_all i (take n es) c.loop-i-test.false in
    let end : i ≡ n = omega (arith, length-take n es, c.min.ensures) in
    let took = λ (Q : List Event → List Reply → Type 0) (q : Q (take i (take n es)) (take i c.loop-i.replies)). subst (λ (k : ℕ). Q (take k es) (take k c.loop-i.replies)) c.min.ensures (subst (λ (k : ℕ). Q (take n es) (take k c.loop-i.replies)) end (subst (λ (xs : List Event). Q xs (take i c.loop-i.replies)) all q)) in
    record {
      plays = took P c.loop-i.invariant.0;
      does = took D c.loop-i.invariant.1;
      rest = dropped_all c.loop-i.replies c.args.replies.now i (length es) (omega (arith, end, c.min.ensures)) c.loop-i.invariant.4;
      suite = c.loop-i.invariant.2;
    }
