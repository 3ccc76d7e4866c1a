-- How long an element can be.
use Rattle.std.proofs.Common.{◌≡◌, refl, ◌^◌, ◌<◌, arith, ℤ, pos, ◌*ℤ◌, ◌≤ℤ◌, Ok, unsigned_abs}
use Rattle.std.proofs.lemmas.Int.{ints}
use Rattle.int_laws.proofs.Sums.{int_sums}
use Rattle.int_laws.proofs.Products.{le_mul}
use Rattle.int_laws.proofs.RootLemmas.{root_of-is, root_up_of-is}
use Rattle.int_laws.specs.Root.{root_of, root_up_of}
use Rattle.flex_interval.specs.Ends.{Ends}
use Rattle.flex_interval.specs.Operations.{ends, shifted_of, sqrt_of}
use Rattle.flex_interval.proofs.SmallRatios.{product_is}
use Rattle.member_pairs.specs.Lengths.{length_of}
use Rattle.member_pairs.specs.Span.{square_of}
use Rattle.member_pairs.specs.Vectors.{IsWay, parts_of}
use Rattle.member_pairs.specs.declared.way.Way.{Way}

-- the square of a way's length in 2^-36 micrometre
abbrev shifted_square : Way → ℤ
shifted_square d = square_of (parts_of d) *ℤ pos (2 ^ 72)

pub length_ends : Way → Ends
length_ends d = ends (root_of (shifted_square d)) (root_up_of (shifted_square d))

square_low : (d : Way) → IsWay d → pos 0 ≤ℤ shifted_square d
square_low d way =
    let less : (pos 0 *ℤ pos (2 ^ 72)) ≤ℤ (square_of (parts_of d) *ℤ pos (2 ^ 72)) = (let some : pos 0 ≤ℤ square_of (parts_of d) = omega (arith, int_sums, way.not_zero) in le_mul (pos (2 ^ 72)) (omega (arith, ints)) some) in
    omega (arith, int_sums, less)

square_high : (d : Way) → IsWay d → shifted_square d ≤ℤ (pos 900000000000000 *ℤ pos (2 ^ 72))
square_high d way = le_mul (pos (2 ^ 72)) (omega (arith, ints)) way.short

pub length_is : (d : Way) → IsWay d → length_of (parts_of d) ≡ Ok (length_ends d)
unfolding length_of sqrt_of shifted_of length_ends
length_is d way =
    let low = square_low d way in
    let high = square_high d way in
    let small : unsigned_abs (square_of (parts_of d) *ℤ pos (2 ^ 72)) < 2 ^ 126 = omega (arith, int_sums, low, high) in
    rw (product_is (square_of (parts_of d)) (pos (2 ^ 72)) small) refl

pub length_low : (d : Way) → IsWay d → pos 0 ≤ℤ (length_ends d).lo
unfolding length_ends
length_low d way = (root_of-is (shifted_square d) (square_low d way)).nonnegative

pub length_high : (d : Way) → IsWay d → (length_ends d).hi ≤ℤ pos (2 ^ 61)
unfolding length_ends
length_high d way =
    (root_up_of-is (shifted_square d) (square_low d way)).least (pos (2 ^ 61)) (omega (arith, ints)) (omega (arith, int_sums, square_high d way))
