use Rattle.std.proofs.Common.{rules, ◌≡◌, pos, ◌*ℤ◌, arith, FitsSigned, to_z, of_z, to_z-of_z}
use Rattle.std.proofs.lemmas.Int.{ints}
use Rattle.std.specs.Int.{w64, w128}
use Rattle.int_laws.proofs.Products.{mul_comm, product_most, square_nonnegative}
use Rattle.sif_factors.proofs.RangeLemmas.{times_wall, bend_range}
use Rattle.sif_factors.proofs.characteristic.bend_inverse.Goals as goal

wall_is : (c : goal.After-from-2) → to_z w128 (of_z w128 c.from.result) ≡ c.args.s.now.t
wall_is c =
    let t_fits : FitsSigned w64 c.args.s.now.t = search rules in
    let fits : FitsSigned w128 c.from.result = search rules in
    rw (to_z-of_z fits) (rw (to_z-of_z t_fits) at c.from.ensures)

radius_is : (c : goal.After-from-2) → to_z w128 (of_z w128 c.from-2.result) ≡ c.args.r
radius_is c =
    let fits : FitsSigned w128 c.from-2.result = search rules in
    rw (to_z-of_z fits) (rw (to_z-of_z c.ranges.r) at c.from-2.ensures)

pub returns-clause-den : goal.returns-clause-den
returns-clause-den c =
    let wall = times_wall c.args.s.now.t c.args.r (pos 15000000) (omega (arith, ints, c.requires.section.form.t.least)) (omega (arith, ints, c.requires.section.form.t.most)) (omega (arith, ints, c.requires.radius.range.least)) (omega (arith, ints, c.requires.radius.range.most)) in
    let product : FitsSigned w128 (c.args.s.now.t *ℤ c.args.r) = omega (arith, ints, wall.0, wall.1, mul_comm c.args.s.now.t c.args.r) in
    let four : FitsSigned w128 (pos 4 *ℤ (c.args.s.now.t *ℤ c.args.r)) = omega (arith, ints, wall.0, wall.1, mul_comm c.args.s.now.t c.args.r) in
    rw (wall_is c, radius_is c, to_z-of_z product) (to_z-of_z four)

num_is : (c : goal.After-from-2) →
    to_z w128 (of_z w128 (to_z w128 (of_z w128 c.mean_diameter-diameter.result) *ℤ to_z w128 (of_z w128 c.mean_diameter-diameter.result))) ≡ c.mean_diameter-diameter.result *ℤ c.mean_diameter-diameter.result
num_is c =
    let m = c.mean_diameter-diameter.result in
    let fits : FitsSigned w128 c.mean_diameter-diameter.result = search rules in
    let high = product_most m m (pos 2000000) (pos 2000000) (omega (arith, ints)) (omega (arith, ints, c.mean_diameter-diameter.ensures.low)) c.mean_diameter-diameter.ensures.high c.mean_diameter-diameter.ensures.high in
    let square : FitsSigned w128 (c.mean_diameter-diameter.result *ℤ c.mean_diameter-diameter.result) = omega (arith, ints, high, square_nonnegative m) in
    rw (to_z-of_z fits) (to_z-of_z square)

pub returns-clause-range : goal.returns-clause-range
returns-clause-range c =
    let m = c.mean_diameter-diameter in
    rw (num_is c, returns-clause-den c)
    (bend_range m.result c.args.s.now.t c.args.r m.ensures.low m.ensures.high
    (omega (arith, ints, m.ensures.value, c.requires.radius.room, c.requires.section.form.t.least))
    (omega (arith, ints, c.requires.section.form.t.least)) (omega (arith, ints, c.requires.section.form.t.most))
    (omega (arith, ints, c.requires.radius.range.least)) (omega (arith, ints, c.requires.radius.range.most)))
