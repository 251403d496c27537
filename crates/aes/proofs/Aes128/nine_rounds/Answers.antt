use Rattle.std.proofs.Common.{◌≡◌, ◌<◌, ap, ◌∙◌, arith, length, map, rules}
use Rattle.std.proofs.lemmas.List.{get_or-take}
use Rattle.aes.specs.Aes.{after, round_keys}
use Rattle.aes.specs.Columns.{unpack}
use Rattle.aes.proofs.Keys.{after_none, after_more, key_at}
use Rattle.aes.proofs.Aes128.nine_rounds.Goals as goal

pub loop-key-init : goal.loop-key-init
loop-key-init c = after_none c.args.self.now.key c.args.block.now _ _ _ c.from.ensures c.from-2.ensures c.bitxor-state.ensures

pub loop-key-preserved : goal.loop-key-preserved
loop-key-preserved c =
    let len : length c.args.self.now.rounds ≡ 10 = search rules in
    let expanded : map unpack c.args.self.now.rounds ≡ round_keys c.args.self.now.key = search rules in
    let few : c.loop-key.key-index < 9 = omega arith in
    let key = ap unpack (get_or-take 9 c.args.self.now.rounds c.loop-key.key-index _ few) ∙ key_at _ c.args.self.now.rounds c.loop-key.key-index _ len expanded (omega arith) in
    after_more _ _ c.loop-key.key-index _ _ _ c.loop-key.invariant key c.round-state.ensures

pub returns : goal.returns
returns c =
    let n : c.loop-key.key-index ≡ 9 = omega arith in
    c.loop-key.invariant ∙ ap (after c.args.self.now.key c.args.block.now) n
