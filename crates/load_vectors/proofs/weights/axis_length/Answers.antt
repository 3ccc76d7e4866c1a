use Rattle.std.proofs.Common.{rules, subst, FitsSigned, to_z-of_z}
use Rattle.std.specs.Int.{w64}
use Rattle.model_types.specs.Ranges.{ShapeInForm}
use Rattle.load_vectors.proofs.HalfLemmas.{half_low, half_high}
use Rattle.load_vectors.proofs.weights.axis_length.Goals as goal

pub arc_length-requires-clause-lo : goal.arc_length-requires-clause-lo
arc_length-requires-clause-lo c =
    let form = subst ShapeInForm c.in-Bend.is c.requires.shape in
    half_low c.in-Bend.angle c.half.result form.listed c.half.ensures.value

pub arc_length-requires-clause-hi : goal.arc_length-requires-clause-hi
arc_length-requires-clause-hi c =
    let form = subst ShapeInForm c.in-Bend.is c.requires.shape in
    half_high c.in-Bend.angle c.half.result form.listed c.half.ensures.value

pub returns-in-Bend-clause-within : goal.returns-in-Bend-clause-within
returns-in-Bend-clause-within c =
    let fits : FitsSigned w64 c.in-Bend.r = search rules in
    let within = rw (to_z-of_z fits) at c.arc_length.ensures.within in
    rw c.in-Bend.is (λ pi l in_pi in_l. within _ (c.half.ensures.encloses.arc pi in_pi))
