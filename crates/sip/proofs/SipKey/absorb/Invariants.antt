use Rattle.std.proofs.Common.{◌≡◌}
use Rattle.sip.specs.Sip.{absorbed}
use Rattle.sip.proofs.SipKey.absorb.Given as goal

abbrev pub invariant-loop-word : goal.invariant-loop-word
invariant-loop-word l = l.state ≡ absorbed l.self.bytes l.message l.word-index
