use Rattle.std.proofs.Common.{rules, ◌≡◌, FitsSigned, to_z, of_z, to_z-of_z}
use Rattle.std.specs.Int.{w64, w128}
use Rattle.load_vectors.proofs.weights.end_force.Goals as goal

x_is : (c : goal.After-shares) → to_z w128 (of_z w128 c.from.result) ≡ c.args.case.now.gx
x_is c =
    let fits : FitsSigned w64 c.args.case.now.gx = search rules in
    let from_fits : FitsSigned w128 c.from.result = search rules in
    rw (to_z-of_z from_fits) (rw (to_z-of_z fits) at c.from.ensures)

y_is : (c : goal.After-shares) → to_z w128 (of_z w128 c.from-2.result) ≡ c.args.case.now.gy
y_is c =
    let fits : FitsSigned w64 c.args.case.now.gy = search rules in
    let from_fits : FitsSigned w128 c.from-2.result = search rules in
    rw (to_z-of_z from_fits) (rw (to_z-of_z fits) at c.from-2.ensures)

z_is : (c : goal.After-shares) → to_z w128 (of_z w128 c.from-3.result) ≡ c.args.case.now.gz
z_is c =
    let fits : FitsSigned w64 c.args.case.now.gz = search rules in
    let from_fits : FitsSigned w128 c.from-3.result = search rules in
    rw (to_z-of_z from_fits) (rw (to_z-of_z fits) at c.from-3.ensures)

pub returns-clause-within : goal.returns-clause-within
returns-clause-within c = rw (x_is c, y_is c, z_is c) at c.shares.ensures.within

pub returns-clause-value : goal.returns-clause-value
returns-clause-value c = rw (x_is c, y_is c, z_is c) at c.shares.ensures.value
