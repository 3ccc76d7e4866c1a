use Rattle.std.proofs.Common.{◌≡◌, arith, ℤ, ◌-ℤ◌, FitsSigned, to_z, of_z, to_z-of_z}
use Rattle.std.proofs.lemmas.Int.{ints}
use Rattle.std.specs.Int.{w64}
use Rattle.model_types.specs.Ranges.{IsIn}
use Rattle.model_types.specs.declared.ranges.TheConstants.{COORDINATE}
use Rattle.member_pairs.proofs.WayLemmas.{way_in_range}
use Rattle.member_pairs.proofs.way.way_between.Goals as goal

difference_is : (a b : ℤ) → IsIn COORDINATE a → IsIn COORDINATE b → to_z w64 (of_z w64 (to_z w64 (of_z w64 a) -ℤ to_z w64 (of_z w64 b))) ≡ a -ℤ b
difference_is a b p q =
    let a_fits : FitsSigned w64 a = omega (arith, ints, p.least, p.most) in
    let b_fits : FitsSigned w64 b = omega (arith, ints, q.least, q.most) in
    let fits : FitsSigned w64 (a -ℤ b) = omega (arith, ints, p.least, p.most, q.least, q.most) in
    rw (to_z-of_z a_fits, to_z-of_z b_fits, to_z-of_z fits)

pub returns-clause-value : goal.returns-clause-value
returns-clause-value c =
    let from = c.requires.from in
    let to = c.requires.to in
    rw (difference_is c.args.to.now.x c.args.from.now.x to.x from.x, difference_is c.args.to.now.y c.args.from.now.y to.y from.y, difference_is c.args.to.now.z c.args.from.now.z to.z from.z)

pub returns-clause-way : goal.returns-clause-way
returns-clause-way c =
    let from = c.requires.from in
    let to = c.requires.to in
    rw (difference_is c.args.to.now.x c.args.from.now.x to.x from.x, difference_is c.args.to.now.y c.args.from.now.y to.y from.y, difference_is c.args.to.now.z c.args.from.now.z to.z from.z)
    (way_in_range c.args.from.now c.args.to.now c.requires.span)
