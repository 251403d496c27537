use Rattle.std.proofs.lemmas.Slice.Eq.{strip_prefix_is}
use Rattle.std.specs.Option.{option_map}
use Rattle.std.proofs.Common.{◌≡◌, ℕ, List, ◌++◌, Some, None, Option, Bor, MatchOption}
use Rattle.text.specs.Spelling.{Reads, Behind}
use Rattle.text.proofs.after.Goals as goal
use Rattle.std.proofs.lemmas.Bool.Decides.{Decides-eqb}

-- the clause of `strip_prefix`, in the words of the readers
reads_behind : (p t : List ℕ) (r : Option (Bor (List ℕ))) → MatchOption r ((rest : List ℕ) → t ≡ p ++ rest → ⊥) (λ x. t ≡ p ++ x.now) → Reads (Behind p) t (option_map (λ (x : Bor (List ℕ)). x.now) r)
reads_behind p t (Some x) h = h
reads_behind p t None h = h

pub returns : goal.returns
returns c = reads_behind c.args.prefix.now c.args.text.now _ (strip_prefix_is Decides-eqb c.args.text.now c.args.prefix.now _ c.strip_prefix.ensures.cases)
