use Rattle.std.proofs.Common.{rules, arith, ap, ◌^◌, pos, FitsSigned, to_z-of_z}
use Rattle.std.specs.Int.{w128}
use Rattle.std.proofs.lemmas.Int.{ints}
use Rattle.flex_interval.specs.Ends.{Ends}
use Rattle.int_laws.proofs.Sums.{int_sums}
use Rattle.certificate.proofs.radii.root_of_ratio.Goals as goal

pub returns-clause-bounded : goal.returns-clause-bounded
returns-clause-bounded c =
    let fits : FitsSigned w128 c.isqrt_up.result = search rules in
    let ratio_fits : FitsSigned w128 c.quotient_up.result = search rules in
    let meaning = rw (to_z-of_z ratio_fits) at c.isqrt_up.ensures.meaning in
    rw (to_z-of_z fits) (meaning.least (pos (2 ^ 63)) (omega (arith, int_sums)) c.quotient_up.ensures.bounded)

pub product-requires-clause-first_not_negative : goal.product-requires-clause-first_not_negative
product-requires-clause-first_not_negative c =
    let lo = ap (λ (x : Ends). x.lo) c.kappa.view_is in
    omega (arith, ints, lo, c.kappa.invariant, c.requires.stiff)

pub product-requires-clause-first_bounded : goal.product-requires-clause-first_bounded
product-requires-clause-first_bounded c =
    let hi = ap (λ (x : Ends). x.hi) c.kappa.view_is in
    omega (arith, ints, hi, c.kappa.invariant, c.requires.stiff)

pub isqrt_up-requires : goal.isqrt_up-requires
isqrt_up-requires c = omega (arith, ints, c.quotient_up.ensures.not_negative)

pub quotient_up-requires-clause-bounded : goal.quotient_up-requires-clause-bounded
quotient_up-requires-clause-bounded c = omega (arith, ints, c.product.ensures.bounded)
