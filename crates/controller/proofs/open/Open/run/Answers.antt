use Rattle.std.proofs.Common.{sym, subst, rules}
use Rattle.controller.specs.declared.event.Event.{Event}
use Rattle.controller.specs.Worlds.{world_in}
use Rattle.controller.specs.Scripts.{PlaysOne, DoesOne}
use Rattle.controller.proofs.open.Open.run.Goals as goal

pub returns-in-Read : goal.returns-in-Read
returns-in-Read g c = let p = c.play_read.ensures.plays c.args.slots in search rules

pub returns-in-Write : goal.returns-in-Write
returns-in-Write g c =
    let S = g.S.Suite.scheme c.args.self.suite in
    let m = g.B.Board.meaning c.args.self.board in
    let m' = g.B.Board.meaning c.play_write.result.0.board in
    record {
      plays = subst (λ (e : Event). PlaysOne S c.args.slots (world_in m c.args.self.chip) e c.play_write.result.1 (world_in m' c.play_write.result.0.chip)) (sym c.in-Write.is) (c.play_write.ensures.plays c.args.slots);
      does = subst (λ (e : Event). DoesOne S c.args.slots (g.B.Recharge.supply c.args.self.board) m c.args.self.chip e c.play_write.result.1 m' c.play_write.result.0.chip) (sym c.in-Write.is) c.play_write.ensures.does;
      suite = c.play_write.ensures.suite;
    }

pub returns-in-Flush : goal.returns-in-Flush
returns-in-Flush g c = let p = c.play_flush.ensures.plays c.args.slots in search rules

pub returns-in-Tamper : goal.returns-in-Tamper
returns-in-Tamper g c = let p = c.put_line.ensures.plays c.args.slots in search rules
