use Rattle.std.proofs.Common.{◌≡◌, arith, ℤ, ◌-ℤ◌, FitsSigned, to_z, of_z, to_z-of_z}
use Rattle.std.proofs.lemmas.Int.{ints}
use Rattle.std.specs.Int.{w64}
use Rattle.model_types.specs.Ranges.{IsIn}
use Rattle.model_types.specs.declared.ranges.TheConstants.{CORNER, COORDINATE}
use Rattle.bend_element.proofs.between.curve_from.Goals as goal

difference_is : (a b : ℤ) → IsIn CORNER a → IsIn COORDINATE b → to_z w64 (of_z w64 (to_z w64 (of_z w64 a) -ℤ to_z w64 (of_z w64 b))) ≡ a -ℤ b
difference_is a b p q =
    let a_fits : FitsSigned w64 a = omega (arith, ints, p.least, p.most) in
    let b_fits : FitsSigned w64 b = omega (arith, ints, q.least, q.most) in
    let fits : FitsSigned w64 (a -ℤ b) = omega (arith, ints, p.least, p.most, q.least, q.most) in
    rw (to_z-of_z a_fits, to_z-of_z b_fits, to_z-of_z fits)

pub returns : goal.returns
returns c =
    let from = c.requires.from in
    let form = c.requires.form in
    rw (to_z-of_z c.ranges.radius, difference_is c.args.x c.args.from.now.x form.x from.x, difference_is c.args.y c.args.from.now.y form.y from.y, difference_is c.args.z c.args.from.now.z form.z from.z)
