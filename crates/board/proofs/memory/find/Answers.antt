use Rattle.std.proofs.Common.{◌≡◌, ◌/◌, ◌<◌, ◌≤◌, length, get_or, sym, ap, ◌∙◌, arith, rules}
use Rattle.std.specs.Simd.{first_chunks}
use Rattle.board.specs.Memory.{line_of}
use Rattle.board.proofs.Memories.{memory_count, memory_read, memory_chunk}
use Rattle.board.proofs.memory.find.Goals as goal

pub returns-in_err-get : goal.returns-in_err-get
returns-in_err-get c =
    let past : length c.as_chunks.result.0.now ≤ c.args.at = search rules in
    rw c.from_residual.ensures (omega (arith, past, c.as_chunks.ensures.front_len, memory_count c.args.words.now))

pub returns : goal.returns
returns c =
    let ws = c.args.words.now in
    let x = c.in_ok-get.field-0.now in
    let inside : c.args.at < length c.as_chunks.result.0.now = search rules in
    let within : c.args.at < length ws / 9 = omega (arith, inside, c.as_chunks.ensures.front_len) in
    let here : x ≡ get_or c.as_chunks.result.0.now c.args.at x = search rules in
    let there : x ≡ get_or (first_chunks 9 (length ws / 9) ws) c.args.at x = here ∙ ap (λ cs. get_or cs c.args.at x) c.as_chunks.ensures.front in (
      omega (arith, within, memory_count ws),
      c.from.ensures ∙ ap line_of there ∙ memory_chunk ws c.args.at x within ∙ sym (memory_read ws c.args.at c.from.result within),
    )
