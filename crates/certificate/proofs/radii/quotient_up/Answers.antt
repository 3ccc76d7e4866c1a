use Rattle.std.proofs.Common.{rules, arith, ◌^◌, pos, FitsSigned, to_z-of_z}
use Rattle.std.specs.Int.{w128}
use Rattle.int_laws.proofs.Sums.{int_sums}
use Rattle.certificate.proofs.BoundsLemmas.{ceiling_bounded}
use Rattle.certificate.proofs.radii.quotient_up.Goals as goal

pub returns-clause-bounded : goal.returns-clause-bounded
returns-clause-bounded c =
    let fits : FitsSigned w128 c.ceil_div.result = search rules in
    let meaning = rw (to_z-of_z c.ranges.n, to_z-of_z c.ranges.d) at c.ceil_div.ensures.meaning in
    rw (to_z-of_z fits) (ceiling_bounded c.args.n c.args.d c.ceil_div.result (pos (2 ^ 126)) c.requires.positive (omega (arith, int_sums)) c.requires.bounded meaning)
