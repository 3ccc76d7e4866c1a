use Rattle.std.proofs.Common.{◌≡◌, Ok, FitsSigned, to_z-of_z, subst, ap, ◌∙◌, arith, sym}
use Rattle.std.proofs.lemmas.Int.{ints}
use Rattle.std.specs.Int.{w64}
use Rattle.flex_interval.specs.Operations.{ends}
use Rattle.angle_table.specs.HalfAngle.{sine_of}
use Rattle.model_types.specs.Bends.{difference_to}
use Rattle.model_types.specs.Ranges.{ShapeInForm, BendInForm}
use Rattle.model_types.specs.Refusals.{IsSineOf, is_bad_bend, is_bad_shape}
use Rattle.model_types.proofs.spans.is_bad_shape.Goals as goal

pub is_bad_bend-requires-clause-sine : goal.is_bad_bend-requires-clause-sine
is_bad_bend-requires-clause-sine c = c.sines_are_sines.ensures c.in-Bend.angle _ (subst (λ shape. IsSineOf shape c.args.sine) c.in-Bend.is c.requires.sine)

pub returns-in-Bend : goal.returns-in-Bend
returns-in-Bend c =
    let form : BendInForm c.in-Bend.r c.in-Bend.angle c.in-Bend.px c.in-Bend.py c.in-Bend.pz = subst ShapeInForm c.in-Bend.is c.requires.shape in
    let sine : sine_of c.in-Bend.angle ≡ Ok (ends c.args.sine.lo c.args.sine.hi) = subst (λ shape. IsSineOf shape c.args.sine) c.in-Bend.is c.requires.sine in
    let r_fits : FitsSigned w64 c.in-Bend.r = omega (arith, ints, form.radius.least, form.radius.most) in
    let x_fits : FitsSigned w64 c.in-Bend.px = omega (arith, ints, form.x.least, form.x.most) in
    let y_fits : FitsSigned w64 c.in-Bend.py = omega (arith, ints, form.y.least, form.y.most) in
    let z_fits : FitsSigned w64 c.in-Bend.pz = omega (arith, ints, form.z.least, form.z.most) in
    let corner = rw (to_z-of_z x_fits, to_z-of_z y_fits, to_z-of_z z_fits) at c.difference_to-corner.ensures in
    let bad = rw (to_z-of_z r_fits, corner) at c.is_bad_bend.ensures in
    bad ∙ ap (is_bad_bend c.args.from.now c.args.to.now c.args.section.now c.in-Bend.r (difference_to c.args.from.now c.in-Bend.px c.in-Bend.py c.in-Bend.pz)) (sym sine)
    ∙ ap (is_bad_shape c.args.from.now c.args.to.now c.args.section.now) (sym c.in-Bend.is)
