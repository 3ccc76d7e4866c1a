use Rattle.std.proofs.Common.{rules, ◌≡◌, ◌^◌, pos, ◌*ℤ◌, arith, FitsSigned, to_z, of_z, to_z-of_z}
use Rattle.std.specs.Int.{w128}
use Rattle.int_laws.proofs.Sums.{int_sums}
use Rattle.int_laws.proofs.Products.{mul_right_comm, le_mul}
use Rattle.flex_interval.specs.Fraction.{whole}
use Rattle.sif_factors.proofs.PartLemmas.{whole_scaled}
use Rattle.sif_factors.proofs.index.rounded_inverse.Goals as goal

num_is : (c : goal.After-share) → to_z w128 (of_z w128 c.args.i.now.num) ≡ c.args.i.now.num
num_is c = let fits : FitsSigned w128 c.args.i.now.num = search rules in to_z-of_z fits

den_is : (c : goal.After-share) → to_z w128 (of_z w128 c.args.i.now.den) ≡ c.args.i.now.den
den_is c = let fits : FitsSigned w128 c.args.i.now.den = search rules in to_z-of_z fits

pub returns-clause-within : goal.returns-clause-within
returns-clause-within c =
    whole_scaled _ c.args.i.now.num (pos (2 ^ 40)) c.args.i.now.den
    ((rw (den_is c) at c.share.ensures.within) (whole c.args.i.now.num) (rw (num_is c) at c.point.ensures.within))

pub returns-clause-hi : goal.returns-clause-hi
returns-clause-hi c = λ b enough.
    (rw (den_is c) at c.share.ensures.hi) (b *ℤ pos (2 ^ 40))
    (rw (c.point.ensures.value, num_is c) (omega (arith, int_sums, le_mul (pos (2 ^ 40)) (omega (arith, int_sums)) enough, mul_right_comm b c.args.i.now.den (pos (2 ^ 40)))))
