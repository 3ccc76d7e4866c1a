use Rattle.std.proofs.Common.{◌≡◌, refl, arith, FitsSigned, to_z-of_z, ◌∙◌, sym}
use Rattle.std.specs.Int.{w128}
use Rattle.int_laws.proofs.Sums.{int_sums}
use Rattle.flex_interval.specs.Fraction.{Within, whole}
use Rattle.load_vectors.specs.NodeLoads.{units_of}
use Rattle.load_vectors.proofs.Sizes.{units_of-ok, same_outcome}
use Rattle.load_vectors.proofs.UnitLemmas.{scaled_within}
use Rattle.load_vectors.proofs.rows.units.Goals as goal

pub unwrap-requires : goal.unwrap-requires
unwrap-requires c =
    let fits : FitsSigned w128 c.args.part = omega (arith, int_sums, c.requires.least, c.requires.most) in
    let point = rw (to_z-of_z c.ranges.part, to_z-of_z fits) at c.point.ensures.value in
    let value : c.ratio.result ≡ units_of c.args.part = rw point at c.ratio.ensures.value in
    rw (value, (units_of-ok c.args.part c.requires).1) refl

-- what was unwrapped
ratio_is : (c : goal.After-unwrap) → c.ratio.result ≡ units_of c.args.part
ratio_is c =
    let fits : FitsSigned w128 c.args.part = omega (arith, int_sums, c.requires.least, c.requires.most) in
    let point = rw (to_z-of_z c.ranges.part, to_z-of_z fits) at c.point.ensures.value in
    rw point at c.ratio.ensures.value

pub returns-clause-value : goal.returns-clause-value
returns-clause-value c = sym (ratio_is c) ∙ c.unwrap.ensures

pub returns-clause-within : goal.returns-clause-within
returns-clause-within c =
    let fits : FitsSigned w128 c.args.part = omega (arith, int_sums, c.requires.least, c.requires.most) in
    let point : Within c.point.result (whole c.args.part) = rw (to_z-of_z c.ranges.part, to_z-of_z fits) at c.point.ensures.within in
    let within = rw c.unwrap.ensures at c.ratio.ensures.within in
    scaled_within c.unwrap.result c.args.part (within (whole c.args.part) point)

pub returns-clause-size : goal.returns-clause-size
returns-clause-size c =
    let ok = units_of-ok c.args.part c.requires in
    rw (same_outcome (units_of c.args.part) (sym (ratio_is c) ∙ c.unwrap.ensures) ok.1) ok.2
