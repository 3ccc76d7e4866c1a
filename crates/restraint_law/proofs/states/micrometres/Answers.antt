use Rattle.std.proofs.Common.{◌≡◌, ◌^◌, refl, arith, ◌∙◌, sym, FitsSigned, to_z-of_z, Ok, pos}
use Rattle.std.specs.Int.{w128}
use Rattle.int_laws.proofs.Sums.{int_sums}
use Rattle.flex_interval.specs.Fraction.{Within, whole}
use Rattle.flex_interval.specs.Operations.{point_of, ratio_of}
use Rattle.restraint_law.specs.States.{micrometres_of}
use Rattle.restraint_law.proofs.GapLemmas.{length_ratio}
use Rattle.restraint_law.proofs.states.micrometres.Goals as goal

pub unwrap-requires : goal.unwrap-requires
unwrap-requires c =
    let fits : FitsSigned w128 c.args.length = omega (arith, int_sums, c.requires.least, c.requires.most) in
    let point = rw (to_z-of_z c.ranges.length, to_z-of_z fits) at c.point.ensures.value in
    let value : c.ratio.result ≡ ratio_of (point_of c.args.length) (pos (2 ^ 56)) (pos 1000000) = rw point at c.ratio.ensures.value in
    rw (value, length_ratio c.args.length c.requires) refl

pub returns-clause-value : goal.returns-clause-value
returns-clause-value c =
    let fits : FitsSigned w128 c.args.length = omega (arith, int_sums, c.requires.least, c.requires.most) in
    let point = rw (to_z-of_z c.ranges.length, to_z-of_z fits) at c.point.ensures.value in
    let value : c.ratio.result ≡ ratio_of (point_of c.args.length) (pos (2 ^ 56)) (pos 1000000) = rw point at c.ratio.ensures.value in
    let same : Ok c.unwrap.result ≡ Ok (micrometres_of c.args.length) = sym c.unwrap.ensures ∙ value ∙ length_ratio c.args.length c.requires in
    cc

pub returns-clause-within : goal.returns-clause-within
returns-clause-within c =
    let fits : FitsSigned w128 c.args.length = omega (arith, int_sums, c.requires.least, c.requires.most) in
    let point : Within c.point.result (whole c.args.length) = rw (to_z-of_z c.ranges.length, to_z-of_z fits) at c.point.ensures.within in
    (rw c.unwrap.ensures at c.ratio.ensures.within) (whole c.args.length) point
