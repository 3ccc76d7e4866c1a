use Rattle.std.proofs.Common.{arith, ◌≡◌, ◌≤◌, ◌^◌, ℤ, ◌*ℤ◌, unsigned_abs, to_z-of_z, to_z, of_z}
use Rattle.std.proofs.lemmas.Int.{ints, unsigned_abs-mul, fits_signed_mul}
use Rattle.std.proofs.lemmas.Nat.{mul-le}
use mir.Syntax.{w64, w128}
use mir.Val.{SFits}
use Rattle.certificate.proofs.row_sums.product.Goals as goal

-- a number of 64 bits is at most 2^63 in size, and is read as it stands among those of 128 bits
small : (a : ℤ) → SFits w64 a → unsigned_abs a ≤ 2 ^ 63
small a fits = omega (arith, ints)

read : (a : ℤ) → SFits w64 a → to_z w128 (of_z w128 (to_z w64 (of_z w64 a))) ≡ a
read a fits = omega (arith, ints)

fits : (a b : ℤ) → SFits w64 a → SFits w64 b → SFits w128 (a *ℤ b)
fits a b fa fb = fits_signed_mul w128 a b (2 ^ 63) (2 ^ 63) (small a fa) (small b fb) (omega arith)

pub overflow_mul-result : goal.overflow_mul-result
overflow_mul-result c =
    rw (read c.args.a c.ranges.a, read c.args.b c.ranges.b) (fits c.args.a c.args.b c.ranges.a c.ranges.b)

pub returns-clause-value : goal.returns-clause-value
returns-clause-value c =
    rw (read c.args.a c.ranges.a, read c.args.b c.ranges.b) (to_z-of_z (fits c.args.a c.args.b c.ranges.a c.ranges.b))

pub returns-clause-size : goal.returns-clause-size
returns-clause-size c =
    rw (read c.args.a c.ranges.a, read c.args.b c.ranges.b, to_z-of_z (fits c.args.a c.args.b c.ranges.a c.ranges.b), unsigned_abs-mul)
    (mul-le (unsigned_abs c.args.a) (unsigned_abs c.args.b) (2 ^ 63) (2 ^ 63) (small c.args.a c.ranges.a) (small c.args.b c.ranges.b))
