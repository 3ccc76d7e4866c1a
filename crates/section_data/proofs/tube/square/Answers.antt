use Rattle.std.proofs.Common.{rules, ◌≡◌, arith, pos, ◌*ℤ◌, ◌≤ℤ◌, FitsSigned, to_z, of_z, to_z-of_z}
use Rattle.std.proofs.lemmas.Int.{ints}
use Rattle.std.specs.Int.{w128}
use Rattle.int_laws.proofs.Products.{square_le, square_nonnegative}
use Rattle.section_data.proofs.tube.square.Goals as goal

same : (c : goal.After-from-length) → to_z w128 (of_z w128 c.from-length.result) ≡ c.args.length
same c =
    let fits : FitsSigned w128 c.from-length.result = search rules in
    rw (to_z-of_z fits) (rw (to_z-of_z c.ranges.length) at c.from-length.ensures)

bound : (c : goal.After-from-length) → (c.args.length *ℤ c.args.length) ≤ℤ pos 4000000000000
bound c = square_le c.args.length (pos 2000000) c.requires.low c.requires.high

fits : (c : goal.After-from-length) → FitsSigned w128 (c.args.length *ℤ c.args.length)
fits c = let low = square_nonnegative c.args.length in let high = bound c in omega (arith, ints)

pub overflow_mul-result : goal.overflow_mul-result
overflow_mul-result c = rw (same c) (fits c)

pub returns-clause-value : goal.returns-clause-value
returns-clause-value c = rw (same c) (to_z-of_z (fits c))

pub returns-clause-low : goal.returns-clause-low
returns-clause-low c = rw (same c, to_z-of_z (fits c)) (square_nonnegative c.args.length)

pub returns-clause-high : goal.returns-clause-high
returns-clause-high c = rw (same c, to_z-of_z (fits c)) (bound c)
