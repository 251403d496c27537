use Rattle.std.proofs.Common.{◌≡◌, ℕ, ◌+◌, ◌-◌, ◌*◌, ◌/◌, ◌<◌, length, get_or, drop, ◌++◌, ◌∷◌, [], List, refl, sym, ap, ◌∙◌, arith, rules}
use Rattle.std.proofs.lemmas.List.{length-drop, get_or-drop, length_push, get_or_push, get_or_append_left}
use Rattle.sip.specs.Sip.{le}
use Rattle.sip.proofs.Bytes.{le_none, le_step, last_from}
use Rattle.sip.proofs.words.last_word.Goals as goal

pub loop-byte-init : goal.loop-byte-init
loop-byte-init c =
    let m = c.args.message.now in
    let left : c.into_iter-byte-iterator.result.iter.rest.now ≡ drop (8 * (length m / 8)) m = search rules in
    let long : 8 * (length m / 8) + length c.into_iter-byte-iterator.result.iter.rest.now ≡ length m = rw left (simp length-drop (omega arith)) in
    (le_none m ∙ ap (λ (k : ℕ). le (drop k m)) (sym long), omega arith, omega arith, λ k h. rw left (get_or-drop (8 * (length m / 8)) m k 0))

pub loop-byte-preserved : goal.loop-byte-preserved
loop-byte-preserved c =
    let m = c.args.message.now in
    let whole = 8 * (length m / 8) in
    let left = c.loop-byte.byte-iterator.iter.rest.now in
    let after = c.next.new.self.iter.rest.now in
    let split : left ≡ after ++ c.in-Some.byte.now ∷ [] = search rules in
    let long : length left ≡ length after + 1 = ap length split ∙ length_push after c.in-Some.byte.now in
    let place : whole + length left - 1 ≡ whole + length after = omega arith in
    let same : (k : ℕ) → k < length left → get_or (after ++ c.in-Some.byte.now ∷ []) k 0 ≡ get_or m (whole + k) 0 = λ k h. ap (λ (xs : List ℕ). get_or xs k 0) (sym split) ∙ c.loop-byte.invariant.3 k h in
    let last : c.in-Some.byte.now ≡ get_or m (whole + length left - 1) 0 =
    sym (get_or_push after c.in-Some.byte.now 0 (length after) refl) ∙ same (length after) (omega arith) ∙ ap (λ (k : ℕ). get_or m k 0) (sym place) in
    let small : (k : ℕ) → get_or m k 0 < 256 = search rules in
    let step = le_step m (whole + length left) c.loop-byte.word c.from.result small (omega arith) (omega arith) (omega arith) c.loop-byte.invariant.0 (c.from.ensures ∙ last) in
    (step.0 ∙ ap (λ (k : ℕ). le (drop k m)) place, step.1, omega arith, λ k h. sym (get_or_append_left after (c.in-Some.byte.now ∷ []) 0 k h) ∙ same k (omega arith))

pub returns : goal.returns
returns c =
    let none : length c.loop-byte.byte-iterator.iter.rest.now ≡ 0 = search rules in
    last_from c.args.message.now (8 * (length c.args.message.now / 8) + length c.loop-byte.byte-iterator.iter.rest.now) c.loop-byte.word (omega arith) c.loop-byte.invariant.0
