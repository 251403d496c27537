-- The levels, and then four parts, each of which decides where those before it pass.
use Rattle.std.proofs.Common.{◌≡◌, ◌+◌, ◌^◌, sym, ◌∙◌, subst}
use Rattle.std.proofs.lemmas.Bool.{both_ways, ne_eqb}
use Rattle.machine.specs.Layout.{lines_of}
use Rattle.machine.proofs.ValidParts.{no_levels, not_formatted, bad_roots, bad_map, the_rest}
use Rattle.machine.proofs.types.Register.is_valid.Goals as goal
use Rattle.machine.proofs.types.Register.is_valid.Goals.{then-self-eq1, else-self-eq1, then-within_limit, else-within_limit}

pub returns-in_default : goal.returns-in_default
returns-in_default c = sym (no_levels c.args.self.now c.in_default.ensures)

pub returns-then-map_is_valid : goal.returns-then-map_is_valid
returns-then-map_is_valid c =
    let f = c.args.self.now in
    let y = c.in-Some.ensures in
    elim c.if-within_limit.branch [
      | then-within_limit w ↦ elim c.if-self-eq1.branch [
        | then-self-eq1 v ↦
            let e = subst (λ h. w.nodes.result + 8 ^ h ≡ lines_of h) y.0 w.nodes.ensures.value in
            c.journal_is_valid.ensures f.levels (subst (λ h. c.lines.result ≡ lines_of h) y.0 c.lines.ensures.value)
            ∙ sym (the_rest f w.nodes.result e v.if-self-eq1.true y.1 y.2 (sym v.within_limit.ensures ∙ sym v.value-is ∙ w.if-within_limit.true) (sym w.map_is_valid.ensures ∙ sym w.value-is ∙ c.if-map_is_valid.true))
        | else-self-eq1 v ↦ absurd (both_ways c.if-self-eq1.value (v.value-is ∙ ne_eqb f.formatted 1 v.if-self-eq1.false) w.if-within_limit.true)
      ]
      | else-within_limit w ↦ absurd (both_ways c.if-within_limit.value (w.value-is ∙ w.if-within_limit.false) c.if-map_is_valid.true)
    ]

pub returns-else-map_is_valid : goal.returns-else-map_is_valid
returns-else-map_is_valid c =
    let f = c.args.self.now in
    c.if-map_is_valid.false
    ∙ sym (elim c.if-within_limit.branch [
      | then-within_limit w ↦ bad_map f w.nodes.result (subst (λ h. w.nodes.result + 8 ^ h ≡ lines_of h) c.in-Some.ensures.0 w.nodes.ensures.value) (sym w.map_is_valid.ensures ∙ sym w.value-is ∙ c.if-map_is_valid.false)
      | else-within_limit w ↦ elim c.if-self-eq1.branch [
        | then-self-eq1 v ↦ bad_roots f (sym v.within_limit.ensures ∙ sym v.value-is ∙ w.if-within_limit.false)
        | else-self-eq1 v ↦ not_formatted f v.if-self-eq1.false
      ]
    ])
