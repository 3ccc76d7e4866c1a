use Rattle.std.proofs.Common.{rules, ◌≡◌, refl, arith, ◌+ℤ◌, FitsSigned, to_z, of_z, to_z-of_z}
use Rattle.std.proofs.lemmas.Int.{ints}
use Rattle.std.specs.Int.{w128}
use Rattle.int_laws.proofs.Sums.{int_sums}
use Rattle.section_data.proofs.tube.square_sum.Goals as goal

fits : (c : goal.After-square-2) → FitsSigned w128 (c.square.result +ℤ c.square-2.result)
fits c = omega (arith, ints, c.square.ensures.low, c.square.ensures.high, c.square-2.ensures.low, c.square-2.ensures.high)

sum : (c : goal.After-square-2) → to_z w128 (of_z w128 (to_z w128 (of_z w128 c.square.result) +ℤ to_z w128 (of_z w128 c.square-2.result))) ≡ c.square.result +ℤ c.square-2.result
sum c =
    let first : FitsSigned w128 c.square.result = search rules in
    let second : FitsSigned w128 c.square-2.result = search rules in
    rw (to_z-of_z first, to_z-of_z second) (to_z-of_z (fits c))

pub overflow_add-result : goal.overflow_add-result
overflow_add-result c =
    let first : FitsSigned w128 c.square.result = search rules in
    let second : FitsSigned w128 c.square-2.result = search rules in
    rw (to_z-of_z first, to_z-of_z second) (fits c)

pub returns-clause-value : goal.returns-clause-value
returns-clause-value c = rw (sum c, c.square.ensures.value, c.square-2.ensures.value, to_z-of_z c.ranges.outside, to_z-of_z c.ranges.inside) refl

pub returns-clause-low : goal.returns-clause-low
returns-clause-low c =
    let own = rw (to_z-of_z c.ranges.outside) at c.square.ensures.value in
    rw (sum c) (omega (arith, int_sums, own, c.square-2.ensures.low))

pub returns-clause-high : goal.returns-clause-high
returns-clause-high c = rw (sum c) (omega (arith, int_sums, c.square.ensures.high, c.square-2.ensures.high))
