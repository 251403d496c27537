-- The fields mean what the words mean, and give them back.
use Rattle.std.proofs.Common.{ap, ◌∙◌}
use Rattle.machine.specs.Words.{words_of}
use Rattle.machine.proofs.Encodings.{again, same_meaning, words_again}
use Rattle.machine.proofs.types.Register.decode.Goals as goal

pub returns-clause-meaning : goal.returns-clause-meaning
returns-clause-meaning c = rw (c.part.ensures, c.journal_in.ensures, c.part-2.ensures) (same_meaning c.args.words.now c.told-words)

pub returns-clause-again : goal.returns-clause-again
returns-clause-again c = rw (c.part.ensures, c.journal_in.ensures, c.part-2.ensures) (again c.args.words.now c.told-words)

pub returns-clause-meant : goal.returns-clause-meant
returns-clause-meant c = rw (c.part.ensures, c.journal_in.ensures, c.part-2.ensures) (ap words_of (same_meaning c.args.words.now c.told-words) ∙ words_again c.args.words.now c.told-words c.fits-words)
