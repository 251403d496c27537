use Rattle.std.proofs.Common.{◌≡◌, ℕ, ◌-◌, ◌^◌, ◌<◌, List, length, get_or, take, refl, ap, ◌∙◌, arith, rules}
use mathlib.Core.Path.{fun_ext}
use Rattle.std.proofs.lemmas.List.{get_or-take, length-set}
use Rattle.machine.specs.Plans.{is_dirty}
use Rattle.tree.specs.declared.types.Slot.{Slot}
use Rattle.tree.specs.declared.types.Slots.{Slots}
use Rattle.tree.specs.Tables.{no_slot, rows_in}
use Rattle.tree.specs.SlotTable.{table_in, map_in}
use Rattle.tree.proofs.InOrder.{ordered_in}
use Rattle.machine.proofs.EightAry.{lines_near}
use Rattle.tree.proofs.MapBits.{map_none, map_more}
use Rattle.tree.proofs.types.Slots.dirty_map.Goals as goal

-- The bit of slot i, counted from the first node.
bit_of_slot : (s : Slots) (xs : List Slot) (i base : ℕ) → xs ≡ take s.used s.table → base ≡ 8 ^ s.layout.levels → i < s.used
    → ((get_or xs i no_slot).address - base ≡ (get_or s.table i no_slot).address - 8 ^ s.layout.levels) × ((get_or xs i no_slot).address - base < 640)
bit_of_slot s xs i base e b h =
    let same : (get_or xs i no_slot).address ≡ (get_or s.table i no_slot).address = ap (λ (ys : List Slot). (get_or ys i no_slot).address) e ∙ ap (λ (x : Slot). x.address) (get_or-take s.used s.table i no_slot h) in
    (omega (arith, same, b), omega (arith, same, b, s.range i h, lines_near s.layout.levels s.layout.low s.layout.high))

pub set_bit-requires : goal.set_bit-requires
set_bit-requires c = (bit_of_slot c.args.self.now _ c.loop-slot.slot-index _ c.slots_in_use-slot-items.ensures c.data_lines-base.ensures.value (search rules)).1

pub loop-slot-init : goal.loop-slot-init
loop-slot-init c = (refl, map_none c.args.self.now.layout.levels c.args.self.now.table)

pub loop-slot-preserved : goal.loop-slot-preserved
loop-slot-preserved c =
    let s = c.args.self.now in
    let i = c.loop-slot.slot-index in
    let below : i < s.used = search rules in
    let bit = bit_of_slot s _ i _ c.slots_in_use-slot-items.ensures c.data_lines-base.ensures.value below in
    let e = c.set_bit.ensures in (
      ap length e ∙ length-set c.loop-slot.map _ _ ∙ c.loop-slot.invariant.0,
      λ p. ap (λ (ms : List ℕ). map_in c.args.self.now.layout.levels ms p) e
          ∙ map_more s.layout.levels s.table s.used i c.loop-slot.map _ (ordered_in s) below (omega (arith, bit.1, c.loop-slot.invariant.0)) bit.0 c.loop-slot.invariant.1 p,
    )

pub returns : goal.returns
unfolding table_in
returns c =
    let e : c.loop-slot.slot-index ≡ c.args.self.now.used = search rules in
    fun_ext (λ p. c.loop-slot.invariant.1 p ∙ ap (λ n. is_dirty (rows_in c.args.self.now.table n p)) e)
