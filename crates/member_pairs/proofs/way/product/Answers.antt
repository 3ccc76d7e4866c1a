use Rattle.std.proofs.Common.{rules, ◌≡◌, ◌*ℤ◌, FitsSigned, to_z, of_z, to_z-of_z}
use Rattle.std.specs.Int.{w128}
use Rattle.int_laws.proofs.Products.{square_nonnegative}
use Rattle.member_pairs.proofs.WayLemmas.{square_most, small_fits}
use Rattle.member_pairs.proofs.way.product.Goals as goal

same : (c : goal.After-from-part) → to_z w128 (of_z w128 c.from-part.result) ≡ c.args.part
same c =
    let fits : FitsSigned w128 c.from-part.result = search rules in
    rw (to_z-of_z fits) (rw (to_z-of_z c.ranges.part) at c.from-part.ensures)

fits : (c : goal.After-from-part) → FitsSigned w128 (c.args.part *ℤ c.args.part)
fits c = small_fits (c.args.part *ℤ c.args.part) (square_nonnegative c.args.part) (square_most c.args.part c.requires)

pub overflow_mul-result : goal.overflow_mul-result
overflow_mul-result c = rw (same c) (fits c)

pub returns-clause-value : goal.returns-clause-value
returns-clause-value c = rw (same c) (to_z-of_z (fits c))

pub returns-clause-low : goal.returns-clause-low
returns-clause-low c = rw (same c, to_z-of_z (fits c)) (square_nonnegative c.args.part)

pub returns-clause-high : goal.returns-clause-high
returns-clause-high c = rw (same c, to_z-of_z (fits c)) (square_most c.args.part c.requires)
