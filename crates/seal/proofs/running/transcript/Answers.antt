use Rattle.std.proofs.Common.{rules}
use Rattle.text.specs.Spelling.{lines_of}
use Rattle.seal.proofs.Single.{printed_once}
use Rattle.seal.proofs.running.transcript.Goals as goal

pub returns-in_err-print_all : goal.returns-in_err-print_all
returns-in_err-print_all c = record { single = printed_once (lines_of c.args.input.now); printed = search rules }

pub returns : goal.returns
returns c = record { single = printed_once (lines_of c.args.input.now); printed = search rules }
