use Rattle.std.proofs.Common.{ap, ◌∙◌}
use Rattle.machine.specs.Encoding.{encoded}
use Rattle.controller.specs.Registers.{new_words}
use Rattle.controller.proofs.format.new_register.Goals as goal

pub returns : goal.returns
unfolding encoded
returns c = c.encode.ensures.is ∙ ap (λ n. new_words n c.args.number) c.levels.ensures
