use Rattle.std.proofs.Common.{rules, codes, refl}
use Rattle.text.specs.Spelling.{Reads, After, Decimal, Keys}
use Rattle.script.specs.Script.{Limit}
use Rattle.script.proofs.Headers.{field, bad_field}
use Rattle.script.proofs.header.read_lines.Goals as goal

pub returns-in_err-suite : goal.returns-in_err-suite
returns-in_err-suite g c = search (rules, field, bad_field) depth 9

pub returns-in_err-keys : goal.returns-in_err-keys
returns-in_err-keys g c = search (rules, field, bad_field) depth 9

pub returns-in_err-fuse : goal.returns-in_err-fuse
returns-in_err-fuse g c =
    field (Reads (After (codes "levels=") Decimal)) _ _ c.in_ok-levels.ensures (λ l o k. search rules)
    (field (Reads (After (codes "slots=") Decimal)) _ _ c.in_ok-slots.ensures (λ l o k. search rules)
    (field _ _ _ c.in_ok-suite.ensures (λ l o k. k)
    (field (Reads (After (codes "key=") Keys)) _ _ c.in_ok-keys.ensures (λ l o k. search rules)
    (bad_field (Reads (After (codes "fuse=") Limit)) _ _ c.in_err-fuse.ensures (λ l o k. search rules) c.from_residual-in_err-fuse.ensures.1))))

pub returns : goal.returns
returns g c =
    field (Reads (After (codes "levels=") Decimal)) _ _ c.in_ok-levels.ensures (λ l o k. search rules)
    (field (Reads (After (codes "slots=") Decimal)) _ _ c.in_ok-slots.ensures (λ l o k. search rules)
    (field _ _ _ c.in_ok-suite.ensures (λ l o k. k)
    (field (Reads (After (codes "key=") Keys)) _ _ c.in_ok-keys.ensures (λ l o k. search rules)
    (field (Reads (After (codes "fuse=") Limit)) _ _ c.in_ok-fuse.ensures (λ l o k. search rules) (refl, refl)))))
