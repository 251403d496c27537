use Rattle.std.proofs.Common.{◌^◌, ◌<◌, ◌≤◌, get_or, sym, refl, ap, ◌∙◌, subst}
use Rattle.std.proofs.lemmas.Bool.{lt-leb}
use Rattle.suite.specs.Words.{row}
use Rattle.machine.specs.Layout.{lines_of, counter_limit}
use Rattle.machine.specs.Plans.{Slot as DirtyNode, overdue}
use Rattle.machine.proofs.Basics.{none≢some}
use Rattle.tree.specs.Tables.{no_slot}
use Rattle.tree.specs.SlotTable.{table_in}
use Rattle.tree.proofs.InOrder.{ordered_in, ordered_held, raised_small}
use Rattle.tree.proofs.Rows.{raise_held}
use Rattle.tree.proofs.types.Slots.raise.Goals as goal

pub invariant_of-self : goal.invariant_of-self
unfolding table_in
invariant_of-self c =
    let s = c.args.self.now in
    let D = ordered_held s.layout.levels s.table s.used c.in-Some.i c.args.index c.args.counter c.raise_slot.new.slot (ordered_in s) s.fit c.in-Some.ensures.0 c.raise_slot.ensures.place c.raise_slot.ensures.raised c.if-counter-gt-LIMIT.false in
    record { few = s.few; fit = D.fit; apart = D.apart; range = D.range; node = D.node; small = D.small }

pub returns-in-Some : goal.returns-in-Some
unfolding table_in
returns-in-Some c =
    let s = c.args.self.now in
    let F = c.in-Some.ensures in (
      record {
        index = c.if-index-ge8.false;
        node = subst (λ x. 8 ^ c.args.self.now.layout.levels ≤ x) F.2 (s.node c.in-Some.i F.0);
        range = subst (λ x. x < lines_of c.args.self.now.layout.levels) F.2 (s.range c.in-Some.i F.0);
        within = c.if-counter-gt-LIMIT.false;
        in_time = ap overdue F.1 ∙ lt-leb 1023 (get_or s.table c.in-Some.i no_slot).pending c.if-self-i-ge-MOST_PENDING.false;
        room = λ e. absurd (none≢some (sym e ∙ F.1));
        fresh = λ e. absurd (none≢some (sym e ∙ F.1));
      },
      raise_held s.table s.used c.args.at c.args.index c.args.counter s.fit c.in-Some.i c.raise_slot.new.slot (row c.args.fresh.now) F.0 F.1 F.2 F.3 c.raise_slot.ensures.place c.raise_slot.ensures.raised,
      refl,
    )

pub append-requires : goal.append-requires
append-requires c =
    let R = c.if-not-has_room.ensures.0 refl in
    let e = sym c.raise_slot-2.ensures.place in record {
      room = R.room;
      node = subst (λ x. 8 ^ c.args.self.now.layout.levels ≤ x) e R.node;
      range = subst (λ x. x < lines_of c.args.self.now.layout.levels) e R.range;
      clean = ap (table_in c.args.self.now) (sym e) ∙ c.in_default.ensures;
      within = λ k h. subst (λ (z : DirtyNode). z.counters k ≤ counter_limit) (sym c.raise_slot-2.ensures.raised) (raised_small (row c.args.fresh.now) c.args.index c.args.counter k c.if-counter-gt-LIMIT.false (R.within k h));
    }
