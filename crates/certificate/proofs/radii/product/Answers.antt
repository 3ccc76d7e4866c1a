use Rattle.std.proofs.Common.{arith, ◌≤◌, ◌^◌, ℤ, pos, ◌*ℤ◌, ◌≤ℤ◌, unsigned_abs, to_z-of_z}
use Rattle.std.proofs.lemmas.Int.{fits_signed_mul}
use Rattle.int_laws.proofs.Sums.{int_sums}
use Rattle.int_laws.proofs.Products.{le_mul, mul_comm, mul_nonnegative}
use mir.Syntax.{w128}
use mir.Val.{SFits}
use Rattle.certificate.proofs.radii.product.Goals as goal

size : (a : ℤ) → pos 0 ≤ℤ a → a ≤ℤ pos (2 ^ 63) → unsigned_abs a ≤ 2 ^ 63
size a up small = omega (arith, int_sums)

fits : (a b : ℤ) → pos 0 ≤ℤ a → a ≤ℤ pos (2 ^ 63) → pos 0 ≤ℤ b → b ≤ℤ pos (2 ^ 63) → SFits w128 (a *ℤ b)
fits a b a_up a_small b_up b_small = fits_signed_mul w128 a b (2 ^ 63) (2 ^ 63) (size a a_up a_small) (size b b_up b_small) (omega arith)

bounded : (a b : ℤ) → a ≤ℤ pos (2 ^ 63) → pos 0 ≤ℤ b → b ≤ℤ pos (2 ^ 63) → (a *ℤ b) ≤ℤ pos (2 ^ 126)
bounded a b a_small b_up b_small =
    let first = le_mul b b_up a_small in
    let second : (b *ℤ pos (2 ^ 63)) ≤ℤ (pos (2 ^ 63) *ℤ pos (2 ^ 63)) = le_mul (pos (2 ^ 63)) (omega (arith, int_sums)) b_small in
    omega (arith, int_sums, first, second, mul_comm b (pos (2 ^ 63)))

pub overflow_mul-result : goal.overflow_mul-result
overflow_mul-result c =
    rw (to_z-of_z c.ranges.a, to_z-of_z c.ranges.b)
    (fits c.args.a c.args.b c.requires.first_not_negative c.requires.first_bounded c.requires.second_not_negative c.requires.second_bounded)

pub returns-clause-value : goal.returns-clause-value
returns-clause-value c =
    rw (to_z-of_z c.ranges.a, to_z-of_z c.ranges.b)
    (to_z-of_z (fits c.args.a c.args.b c.requires.first_not_negative c.requires.first_bounded c.requires.second_not_negative c.requires.second_bounded))

pub returns-clause-not_negative : goal.returns-clause-not_negative
returns-clause-not_negative c =
    rw (returns-clause-value c) (mul_nonnegative c.args.a c.args.b c.requires.first_not_negative c.requires.second_not_negative)

pub returns-clause-bounded : goal.returns-clause-bounded
returns-clause-bounded c =
    rw (returns-clause-value c) (bounded c.args.a c.args.b c.requires.first_bounded c.requires.second_not_negative c.requires.second_bounded)
