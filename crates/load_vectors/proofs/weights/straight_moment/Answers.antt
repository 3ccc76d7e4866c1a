use Rattle.std.proofs.Common.{rules, ◌≡◌, ◌-ℤ◌, ◌*ℤ◌, FitsSigned, to_z, of_z, to_z-of_z}
use Rattle.std.specs.Int.{w64, w128}
use Rattle.load_vectors.proofs.weights.straight_moment.Goals as goal

x_is : (c : goal.After-shares) → to_z w128 (of_z w128 c.from.result) ≡ (c.args.way.now.y *ℤ c.args.case.now.gz) -ℤ (c.args.way.now.z *ℤ c.args.case.now.gy)
x_is c =
    let y : FitsSigned w64 c.args.way.now.y = search rules in
    let z : FitsSigned w64 c.args.way.now.z = search rules in
    let gy : FitsSigned w64 c.args.case.now.gy = search rules in
    let gz : FitsSigned w64 c.args.case.now.gz = search rules in
    let fits : FitsSigned w64 c.lever-x.result = search rules in
    let from_fits : FitsSigned w128 c.from.result = search rules in
    let lever = rw (to_z-of_z y, to_z-of_z z, to_z-of_z gy, to_z-of_z gz) at c.lever-x.ensures.value in
    rw (to_z-of_z from_fits) (rw (to_z-of_z fits, lever) at c.from.ensures)

y_is : (c : goal.After-shares) → to_z w128 (of_z w128 c.from-2.result) ≡ (c.args.way.now.z *ℤ c.args.case.now.gx) -ℤ (c.args.way.now.x *ℤ c.args.case.now.gz)
y_is c =
    let x : FitsSigned w64 c.args.way.now.x = search rules in
    let z : FitsSigned w64 c.args.way.now.z = search rules in
    let gx : FitsSigned w64 c.args.case.now.gx = search rules in
    let gz : FitsSigned w64 c.args.case.now.gz = search rules in
    let fits : FitsSigned w64 c.lever-y.result = search rules in
    let from_fits : FitsSigned w128 c.from-2.result = search rules in
    let lever = rw (to_z-of_z z, to_z-of_z x, to_z-of_z gx, to_z-of_z gz) at c.lever-y.ensures.value in
    rw (to_z-of_z from_fits) (rw (to_z-of_z fits, lever) at c.from-2.ensures)

z_is : (c : goal.After-shares) → to_z w128 (of_z w128 c.from-3.result) ≡ (c.args.way.now.x *ℤ c.args.case.now.gy) -ℤ (c.args.way.now.y *ℤ c.args.case.now.gx)
z_is c =
    let x : FitsSigned w64 c.args.way.now.x = search rules in
    let y : FitsSigned w64 c.args.way.now.y = search rules in
    let gx : FitsSigned w64 c.args.case.now.gx = search rules in
    let gy : FitsSigned w64 c.args.case.now.gy = search rules in
    let fits : FitsSigned w64 c.lever-z.result = search rules in
    let from_fits : FitsSigned w128 c.from-3.result = search rules in
    let lever = rw (to_z-of_z x, to_z-of_z y, to_z-of_z gx, to_z-of_z gy) at c.lever-z.ensures.value in
    rw (to_z-of_z from_fits) (rw (to_z-of_z fits, lever) at c.from-3.ensures)

pub returns-clause-value : goal.returns-clause-value
returns-clause-value c = rw (x_is c, y_is c, z_is c) at c.shares.ensures.value

pub returns-clause-within : goal.returns-clause-within
returns-clause-within c = rw (x_is c, y_is c, z_is c) at c.shares.ensures.within
