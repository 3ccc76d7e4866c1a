use Rattle.std.proofs.Common.{rules, ◌≡◌, pos, ◌*ℤ◌, arith, FitsSigned, to_z, of_z, to_z-of_z}
use Rattle.std.proofs.lemmas.Int.{ints}
use Rattle.std.specs.Int.{w64, w128}
use Rattle.sif_factors.proofs.RangeLemmas.{times_wall, coefficient_range}
use Rattle.sif_factors.proofs.characteristic.coefficient_inverse.Goals as goal

den_is : (c : goal.After-from) → to_z w128 (of_z w128 c.from.result) ≡ c.args.c *ℤ c.args.header.now.t
den_is c =
    let wall = times_wall c.args.header.now.t c.args.c (pos 100000) (omega (arith, ints, c.requires.section.form.t.least)) (omega (arith, ints, c.requires.section.form.t.most)) (omega (arith, ints, c.requires.coefficient.least)) (omega (arith, ints, c.requires.coefficient.most)) in
    let t_fits : FitsSigned w64 c.args.header.now.t = search rules in
    let product : FitsSigned w64 (c.args.c *ℤ c.args.header.now.t) = omega (arith, ints, wall.0, wall.1) in
    let fits : FitsSigned w128 c.from.result = search rules in
    rw (to_z-of_z fits) (rw (to_z-of_z c.ranges.c, to_z-of_z t_fits, to_z-of_z product) at c.from.ensures)

num_is : (c : goal.After-from) → to_z w128 (of_z w128 (pos 500 *ℤ to_z w128 (of_z w128 c.mean_diameter.result))) ≡ pos 500 *ℤ c.mean_diameter.result
num_is c =
    let fits : FitsSigned w128 c.mean_diameter.result = search rules in
    let product : FitsSigned w128 (pos 500 *ℤ c.mean_diameter.result) = omega (arith, ints, c.mean_diameter.ensures.low, c.mean_diameter.ensures.high) in
    rw (to_z-of_z fits) (to_z-of_z product)

pub returns-clause-range : goal.returns-clause-range
returns-clause-range c =
    rw (num_is c, den_is c)
    (coefficient_range c.mean_diameter.result c.args.c c.args.header.now.t c.mean_diameter.ensures.low c.mean_diameter.ensures.high
    (omega (arith, ints, c.requires.section.form.t.least)) (omega (arith, ints, c.requires.section.form.t.most))
    (omega (arith, ints, c.requires.coefficient.least)) (omega (arith, ints, c.requires.coefficient.most)))
