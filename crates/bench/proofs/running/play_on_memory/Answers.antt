use Rattle.std.proofs.Common.{◌≡◌, ℕ, List, replicate, Option, ap, ◌∙◌, subst}
use Rattle.std.proofs.lemmas.Result.{IfOk-weaker}
use Rattle.board.specs.Meaning.{Meaning}
use Rattle.board.specs.Memory.{memory}
use Rattle.board.specs.Piles.{fused}
use Rattle.text.specs.Spelling.{lines_of}
use Rattle.bench.specs.Printed.{on_memory, Run}
use Rattle.bench.proofs.running.play_on_memory.Goals as goal

-- a fuse over memory, by the parts of both
of_parts : (ws ws' reg reg' : List ℕ) (left left' : Option ℕ) → ws ≡ ws' → reg ≡ reg' → left ≡ left' → fused (memory ws reg) left ≡ fused (memory ws' reg') left'
of_parts ws ws' reg reg' left left' p q r =
    ap (λ (x : List ℕ). fused (memory x reg) left) p ∙ ap (λ (x : List ℕ). fused (memory ws' x) left) q ∙ ap (fused (memory ws' reg')) r

pub returns : goal.returns
returns g c =
    let b = c.fused_memory-board.result in
    let same : fused (memory b.below.words.now b.below.register) b.left ≡ on_memory c.args.words.now c.args.script.now.header.fuse =
    of_parts b.below.words.now c.args.words.now b.below.register (replicate 32 0) b.left c.args.script.now.header.fuse
    c.fused_memory-board.ensures.words c.fused_memory-board.ensures.register c.fused_memory-board.ensures.left in
    IfOk-weaker c.play_script-board.result.1 _ _
    (λ _ e. (e.0, e.1, subst (λ (y : Meaning). Run (g.S.Suite.scheme c.args.suite) c.args.script.now.header (lines_of c.args.script.now.steps.now) y e.0) same e.2))
    c.play_script-board.ensures
