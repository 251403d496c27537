-- The two suites by their kind.
use Rattle.std.specs.Prelude.{◌≡◌, ℕ, List, Result, MatchResult}
use Rattle.suite.specs.Scheme.{Scheme}
use Rattle.suite.specs.Suites.{sip_scheme, cmac_scheme}
use Rattle.suite.specs.declared.kind.SuiteKind.{SuiteKind}
use Rattle.suite.specs.declared.kind.SuiteKind.TheVariants.{Sip, Cmac}
use Rattle.suite.specs.declared.kind.UnknownSuite.{UnknownSuite}

-- What a suite of this kind computes under a mac key and a pad key.
abbrev pub scheme_of : SuiteKind → List ℕ → List ℕ → Scheme
scheme_of Sip mac_key pad_key = sip_scheme mac_key pad_key
scheme_of Cmac mac_key pad_key = cmac_scheme mac_key

-- The number of a kind, which is that of its scheme.
abbrev pub number_of : SuiteKind → ℕ
number_of Sip = 1
number_of Cmac = 2

-- The kind with this number, or that number where no kind has it.
abbrev pub Names : ℕ → Result SuiteKind UnknownSuite → Type 0
Names n r = MatchResult r (λ kind. number_of kind ≡ n) (λ e. (e.0 ≡ n) × ((kind : SuiteKind) → number_of kind ≡ n → ⊥))
