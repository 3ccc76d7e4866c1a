use Rattle.std.proofs.Common.{rules, arith, FitsSigned, to_z-of_z}
use Rattle.std.proofs.lemmas.Int.{clamps}
use Rattle.std.specs.Int.{w128}
use Rattle.int_laws.proofs.Sums.{int_sums}
use Rattle.flex_interval.proofs.QuotientLemmas.{floor_of-divisor, floor_of-divisor_negative}
use Rattle.flex_interval.proofs.quotient.least_quotient.Goals as goal

pub returns-then-n-lt0 : goal.returns-then-n-lt0
returns-then-n-lt0 c =
    let fits : FitsSigned w128 c.floor_div.result = search rules in
    let value = rw (to_z-of_z c.ranges.n, to_z-of_z c.ranges.least) at c.floor_div.ensures.value in
    let order = floor_of-divisor_negative c.args.n c.args.least c.args.greatest c.requires.positive c.requires.ordered (omega (arith, int_sums)) in
    rw (to_z-of_z fits) (omega (arith, int_sums, clamps))

pub returns-else-n-lt0 : goal.returns-else-n-lt0
returns-else-n-lt0 c =
    let fits : FitsSigned w128 c.floor_div-else-n-lt0.result = search rules in
    let value = rw (to_z-of_z c.ranges.n, to_z-of_z c.ranges.greatest) at c.floor_div-else-n-lt0.ensures.value in
    let order = floor_of-divisor c.args.n c.args.least c.args.greatest c.requires.positive c.requires.ordered (omega (arith, int_sums)) in
    rw (to_z-of_z fits) (omega (arith, int_sums, clamps))
