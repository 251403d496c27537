use Rattle.std.proofs.Common.{◌≡◌, ℕ, ◌<◌, Some, None, Option as Maybe, ◌≢◌, length, take, MatchOption, rules}
use borrow.Author.Tests.{tests}
use Rattle.std.specs.List.{AllWithin, HoldsAt}
use Rattle.std.proofs.lemmas.Iterator.{YieldsList-from_slice, IsFirst-from_position}
use Rattle.tree.specs.declared.types.Slot.{Slot}
use Rattle.tree.specs.declared.types.Slots.{Slots}
use Rattle.tree.specs.Tables.{no_slot}
use Rattle.tree.specs.SlotTable.{Finds}
use Rattle.tree.proofs.FirstSlot.{first_at, none_at}
use Rattle.tree.proofs.types.Slots.find.Goals as goal

found : (s : Slots) (a : ℕ) (r : Maybe ℕ)
    → MatchOption r (AllWithin (λ (x : Slot). x.address ≢ a) (take s.used s.table) 0 (length (take s.used s.table))) (λ i. (i < length (take s.used s.table)) × HoldsAt (λ (x : Slot). x.address ≡ a) (take s.used s.table) i × AllWithin (λ (x : Slot). x.address ≢ a) (take s.used s.table) 0 i)
    → Finds s a r
found s a (Some i) (low, here, before) = first_at s a i low (here no_slot) before
found s a None past = none_at s a past

pub returns : goal.returns
returns c =
    found c.args.self.now c.args.at c.position.result
    (IsFirst-from_position _ _ c.position.result (λ (x : Slot). x.address ≡ c.args.at) (λ (x : Slot). x.address ≢ c.args.at) c.position.ensures.ran (YieldsList-from_slice (take c.args.self.now.used c.args.self.now.table) cc) (λ x q k. search (rules, tests)) (λ x q k. search (rules, tests)))
