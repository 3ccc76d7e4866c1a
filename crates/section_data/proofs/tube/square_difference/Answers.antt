use Rattle.std.proofs.Common.{rules, ◌≡◌, refl, arith, ◌-ℤ◌, ◌<ℤ◌, FitsSigned, to_z, of_z, to_z-of_z}
use Rattle.std.proofs.lemmas.Int.{ints}
use Rattle.std.specs.Int.{w128}
use Rattle.int_laws.proofs.Sums.{int_sums}
use Rattle.int_laws.proofs.Products.{square_less}
use Rattle.section_data.proofs.tube.square_difference.Goals as goal

-- the inside square is the lesser
lesser : (c : goal.After-square-2) → c.square-2.result <ℤ c.square.result
lesser c =
    let inside = rw (to_z-of_z c.ranges.inside) at c.square-2.ensures.value in
    let outside = rw (to_z-of_z c.ranges.outside) at c.square.ensures.value in
    omega (arith, int_sums, inside, outside, square_less c.args.inside c.args.outside (omega (arith, ints, c.requires.inside_low)) c.requires.thick)

fits : (c : goal.After-square-2) → FitsSigned w128 (c.square.result -ℤ c.square-2.result)
fits c = omega (arith, ints, c.square.ensures.low, c.square.ensures.high, c.square-2.ensures.low, c.square-2.ensures.high)

difference : (c : goal.After-square-2) → to_z w128 (of_z w128 (to_z w128 (of_z w128 c.square.result) -ℤ to_z w128 (of_z w128 c.square-2.result))) ≡ c.square.result -ℤ c.square-2.result
difference c =
    let first : FitsSigned w128 c.square.result = search rules in
    let second : FitsSigned w128 c.square-2.result = search rules in
    rw (to_z-of_z first, to_z-of_z second) (to_z-of_z (fits c))

pub overflow_sub-result : goal.overflow_sub-result
overflow_sub-result c =
    let first : FitsSigned w128 c.square.result = search rules in
    let second : FitsSigned w128 c.square-2.result = search rules in
    rw (to_z-of_z first, to_z-of_z second) (fits c)

pub returns-clause-value : goal.returns-clause-value
returns-clause-value c = rw (difference c, c.square.ensures.value, c.square-2.ensures.value, to_z-of_z c.ranges.outside, to_z-of_z c.ranges.inside) refl

pub returns-clause-low : goal.returns-clause-low
returns-clause-low c = rw (difference c) (omega (arith, int_sums, lesser c))

pub returns-clause-high : goal.returns-clause-high
returns-clause-high c = rw (difference c) (omega (arith, int_sums, c.square.ensures.high, c.square-2.ensures.low))
