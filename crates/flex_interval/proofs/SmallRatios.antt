-- A ratio of an interval from 0 on has no fault where the upper product is small, and its ends are bounded.
use Rattle.std.proofs.Common.{◌≡◌, ◌^◌, ◌<◌, refl, arith, ℤ, pos, ◌*ℤ◌, ◌≤ℤ◌, ◌<ℤ◌, unsigned_abs, Ok}
use Rattle.std.proofs.lemmas.Int.{clamps}
use Rattle.std.specs.Int.{int_min, int_max}
use Rattle.std.proofs.lemmas.Bool.Decides.{nat_tests}
use Rattle.int_laws.proofs.Sums.{int_sums}
use Rattle.int_laws.proofs.Products.{le_mul, mul_nonnegative, zero-mul}
use Rattle.int_laws.specs.Division.{floor_of, ceil_of}
use Rattle.int_laws.proofs.DivisionLemmas.{floor_of-is, ceil_of-is, floor_greatest, ceiling_least}
use Rattle.flex_interval.specs.Ends.{Ends}
use Rattle.flex_interval.specs.Operations.{ends, product_of, multiple_of, ratio_of}

-- a product that is small is there
pub product_is : (x y : ℤ) → unsigned_abs (x *ℤ y) < 2 ^ 126 → product_of x y ≡ Ok (x *ℤ y)
product_is x y h = grind (arith, nat_tests)

-- the interval that a ratio answers
abbrev pub ratio_ends : Ends → ℤ → ℤ → Ends
ratio_ends a n m = ends (floor_of (int_min (a.lo *ℤ n) (a.hi *ℤ n)) m) (ceil_of (int_max (a.lo *ℤ n) (a.hi *ℤ n)) m)

ratio_is : (a : Ends) (n m : ℤ) → unsigned_abs (a.lo *ℤ n) < 2 ^ 126 → unsigned_abs (a.hi *ℤ n) < 2 ^ 126 → ratio_of a n m ≡ Ok (ratio_ends a n m)
unfolding ratio_of multiple_of
ratio_is a n m low high = rw (product_is a.lo n low, product_is a.hi n high) refl

-- an interval from 0 on times n from 0 on, with a small product
pub record IsSmall (a : Ends) (n : ℤ) : Type 0 where
  pub lo : pos 0 ≤ℤ a.lo
  pub ordered : a.lo ≤ℤ a.hi
  pub factor : pos 0 ≤ℤ n
  pub small : (a.hi *ℤ n) <ℤ pos (2 ^ 126)

-- the two products
product_bounds : (a : Ends) (n : ℤ) → IsSmall a n → (pos 0 ≤ℤ (a.lo *ℤ n)) × ((a.lo *ℤ n) ≤ℤ (a.hi *ℤ n))
product_bounds a n h = (mul_nonnegative a.lo n h.lo h.factor, le_mul n h.factor h.ordered)

pub small_ratio : (a : Ends) (n m : ℤ) → IsSmall a n → ratio_of a n m ≡ Ok (ratio_ends a n m)
small_ratio a n m h =
    let bounds = product_bounds a n h in
    ratio_is a n m (omega (arith, int_sums, bounds.0, bounds.1, h.small)) (omega (arith, int_sums, bounds.0, bounds.1, h.small))

pub ratio_lo : (a : Ends) (n m : ℤ) → pos 0 <ℤ m → IsSmall a n → pos 0 ≤ℤ (ratio_ends a n m).lo
ratio_lo a n m positive h =
    let bounds = product_bounds a n h in
    floor_greatest (pos 0) positive (floor_of-is _ m positive) (omega (arith, int_sums, clamps, zero-mul m, bounds.0, bounds.1))

pub ratio_hi : (a : Ends) (n m b : ℤ) → pos 0 <ℤ m → IsSmall a n → (a.hi *ℤ n) ≤ℤ (b *ℤ m) → (ratio_ends a n m).hi ≤ℤ b
ratio_hi a n m b positive h enough =
    let bounds = product_bounds a n h in
    ceiling_least b positive (ceil_of-is _ m positive) (omega (arith, int_sums, clamps, bounds.0, bounds.1))
