use Rattle.std.proofs.Common.{◌≡◌, ℕ, ◌<◌, ◌≤◌, Some, None, Option as Maybe, take, length, get_or, MatchOption, sym, ap, ◌∙◌, subst, length-take, arith, rules}
use Rattle.std.proofs.lemmas.List.{get_or-take}
use Rattle.std.proofs.iter.runs.Made.{chains}
use Rattle.tree.specs.declared.types.Slot.{Slot}
use Rattle.tree.specs.declared.types.Slots.{Slots}
use Rattle.machine.specs.Layouts.{shape_in}
use Rattle.tree.specs.Tables.{no_slot, rows_in}
use Rattle.tree.specs.SlotTable.{table_in, Lowest, LowestIs}
use Rattle.tree.proofs.InOrder.{ordered_in}
use Rattle.tree.proofs.Lowest.{lowest_is}
use Rattle.tree.proofs.Rows.{table_missing}
use Rattle.tree.proofs.types.Slots.lowest.Goals as goal

-- The slot in use of lowest address.
least_slot : (s : Slots) (r : Maybe ℕ)
    → MatchOption r (length (take s.used s.table) ≡ 0) (λ m. ((k : ℕ) × (k < length (take s.used s.table)) × ((get_or (take s.used s.table) k no_slot).address ≡ m)) × ((k : ℕ) → k < length (take s.used s.table) → m ≤ (get_or (take s.used s.table) k no_slot).address))
    → LowestIs (shape_in s.layout) (table_in s) r
unfolding table_in
least_slot s None none = λ p. table_missing s.table s.used p (λ k h e. omega (arith, s.fit, length-take s.used s.table))
least_slot s (Some m) ((k, h, e), low) =
    let b : k < s.used = omega (arith, s.fit, length-take s.used s.table) in
    let is : (get_or s.table k no_slot).address ≡ m = ap (λ (x : Slot). x.address) (sym (get_or-take s.used s.table k no_slot b)) ∙ e in
    subst (Lowest (shape_in s.layout) (rows_in s.table s.used)) is
    (lowest_is s.layout.levels s.table s.used k (ordered_in s) b (λ j i. omega (arith, is, low j (omega (arith, s.fit, length-take s.used s.table)), ap (λ (x : Slot). x.address) (get_or-take s.used s.table j no_slot i))))

pub returns : goal.returns
returns c =
    let ss = take c.args.self.now.used c.args.self.now.table in
    let least : MatchOption c.min.result (length ss ≡ 0) (λ m. ((k : ℕ) × (k < length ss) × ((get_or ss k no_slot).address ≡ m)) × ((k : ℕ) → k < length ss → m ≤ (get_or ss k no_slot).address)) = search (rules, chains) in
    least_slot c.args.self.now c.min.result least
