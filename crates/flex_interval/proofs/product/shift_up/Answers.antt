use Rattle.std.proofs.Common.{arith, neg_ℤ, FitsSigned, to_z-of_z}
use Rattle.std.specs.Int.{w128}
use Rattle.int_laws.proofs.Sums.{int_sums}
use Rattle.int_laws.specs.Division.{ceil_of}
use Rattle.flex_interval.proofs.SumLemmas.{zero-sub}
use Rattle.flex_interval.proofs.EndsLemmas.{small_fits}
use Rattle.flex_interval.proofs.product.shift_up.Goals as goal

result : (c : goal.After-shift_down) → FitsSigned w128 (neg_ℤ c.shift_down.result)
result c = omega (arith, int_sums, c.shift_down.ensures.size)

pub returns-clause-value : goal.returns-clause-value
unfolding ceil_of
returns-clause-value c =
    let fits : FitsSigned w128 c.shift_down.result = small_fits c.shift_down.ensures.size in
    let turned : FitsSigned w128 (neg_ℤ c.args.n) = omega (arith, int_sums, c.requires.size) in
    let floor = rw (to_z-of_z c.ranges.n, zero-sub c.args.n, to_z-of_z turned) at c.shift_down.ensures.value in
    rw (to_z-of_z fits, zero-sub c.shift_down.result, to_z-of_z (result c), floor)
