use Rattle.std.proofs.Common.{rules, arith, ◌∙◌, ◌^◌, pos, FitsSigned, to_z-of_z}
use Rattle.std.specs.Int.{w128}
use Rattle.int_laws.proofs.Sums.{int_sums}
use Rattle.certificate.proofs.radii.root_of_squares.Goals as goal

pub returns-clause-value : goal.returns-clause-value
returns-clause-value c =
    let fits : FitsSigned w128 c.isqrt_up.result = search rules in
    let sum_fits : FitsSigned w128 (pos c.args.sum) = search rules in
    to_z-of_z fits ∙ (rw (to_z-of_z sum_fits) at c.isqrt_up.ensures.value)

pub returns-clause-bounded : goal.returns-clause-bounded
returns-clause-bounded c =
    let fits : FitsSigned w128 c.isqrt_up.result = search rules in
    let sum_fits : FitsSigned w128 (pos c.args.sum) = search rules in
    let meaning = rw (to_z-of_z sum_fits) at c.isqrt_up.ensures.meaning in
    rw (to_z-of_z fits) (meaning.least (pos (2 ^ 63)) (omega (arith, int_sums)) (omega (arith, int_sums)))
