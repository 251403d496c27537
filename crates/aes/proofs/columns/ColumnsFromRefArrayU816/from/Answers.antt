use Rattle.std.proofs.Common.{◌≡◌, ℕ, ◌<◌, length, get_or, rules}
use Rattle.aes.proofs.Packed.{loaded, quads}
use Rattle.aes.proofs.columns.ColumnsFromRefArrayU816.from.Goals as goal

pub returns : goal.returns
returns c =
    let len : length c.args.block.now ≡ 16 = search rules in
    let small : (i : ℕ) → get_or c.args.block.now i 0 < 256 = search rules in
    let q = quads c.args.block.now c.as_chunks.result.0.now len c.as_chunks.ensures.front in
    loaded c.args.block.now _ _ _ _ len small (rw q at c.from_be_bytes.ensures) (rw q at c.from_be_bytes-2.ensures) (rw q at c.from_be_bytes-3.ensures) (rw q at c.from_be_bytes-4.ensures)
