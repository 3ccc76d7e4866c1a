use Rattle.std.proofs.Common.{rules, Ok, FitsSigned, to_z-of_z, subst, sym, ap, ◌∙◌}
use Rattle.std.specs.Int.{w128}
use Rattle.model_types.specs.Refusals.{IsSineOf}
use Rattle.model_types.specs.declared.answers.Bounds.{Bounds}
use Rattle.model_text.proofs.reader.sine_of.Goals as goal

pub returns-in-Bend : goal.returns-in-Bend
returns-in-Bend c =
    let lo_fits : FitsSigned w128 c.sine.inside.lo = search rules in
    let hi_fits : FitsSigned w128 c.sine.inside.hi = search rules in
    let ends : Bounds = record { lo = c.sine.inside.lo; hi = c.sine.inside.hi } in
    rw (to_z-of_z lo_fits, to_z-of_z hi_fits)
    (subst (λ shape. IsSineOf shape ends) (sym c.in-Bend.is) (c.half-sine.ensures.value.sin ∙ ap Ok (sym c.sine.view_is)))
