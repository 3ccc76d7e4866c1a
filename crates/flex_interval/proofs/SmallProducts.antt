-- A product of intervals from 0 on, and a cube root, have no fault where the upper end is small; and their ends are bounded.
use Rattle.std.proofs.Common.{◌≡◌, ℕ, ◌^◌, ◌<◌, refl, arith, ℤ, pos, ◌*ℤ◌, ◌≤ℤ◌, ◌<ℤ◌, unsigned_abs, Ok}
use Rattle.std.proofs.lemmas.Int.{clamps}
use Rattle.std.specs.Int.{int_min, int_max}
use Rattle.int_laws.specs.Powers.{power}
use Rattle.int_laws.proofs.Sums.{int_sums}
use Rattle.int_laws.proofs.Products.{le_mul, mul_comm, mul_nonnegative, zero-mul}
use Rattle.int_laws.specs.Division.{floor_of, ceil_of}
use Rattle.int_laws.specs.Root.{cube_root_of, cube_root_up_of}
use Rattle.int_laws.proofs.DivisionLemmas.{floor_of-is, ceil_of-is, floor_greatest, ceiling_least}
use Rattle.int_laws.proofs.RootLemmas.{cube_root_up_of-is}
use Rattle.flex_interval.specs.Ends.{Ends}
use Rattle.flex_interval.specs.Operations.{ends, multiple_of, products_of, mul_of, shifted_of, cbrt_of}
use Rattle.flex_interval.proofs.FractionLemmas.{power_positive}
use Rattle.flex_interval.proofs.SmallRatios.{product_is}

-- two intervals from 0 on with a small upper product
pub record AreSmall (a b : Ends) : Type 0 where
  pub a_lo : pos 0 ≤ℤ a.lo
  pub a_ordered : a.lo ≤ℤ a.hi
  pub b_lo : pos 0 ≤ℤ b.lo
  pub b_ordered : b.lo ≤ℤ b.hi
  pub small : (a.hi *ℤ b.hi) <ℤ pos (2 ^ 126)

-- the four products are from 0 on, and the upper one is the greatest
record AreBelow (a b : Ends) : Type 0 where
  ll : pos 0 ≤ℤ (a.lo *ℤ b.lo)
  hl : pos 0 ≤ℤ (a.hi *ℤ b.lo)
  lh : pos 0 ≤ℤ (a.lo *ℤ b.hi)
  ll_hl : (a.lo *ℤ b.lo) ≤ℤ (a.hi *ℤ b.lo)
  lh_hh : (a.lo *ℤ b.hi) ≤ℤ (a.hi *ℤ b.hi)
  hl_hh : (a.hi *ℤ b.lo) ≤ℤ (a.hi *ℤ b.hi)

below : (a b : Ends) → AreSmall a b → AreBelow a b
below a b h =
    let a_hi : pos 0 ≤ℤ a.hi = omega (arith, int_sums, h.a_lo, h.a_ordered) in
    let b_hi : pos 0 ≤ℤ b.hi = omega (arith, int_sums, h.b_lo, h.b_ordered) in
    record {
      ll = mul_nonnegative a.lo b.lo h.a_lo h.b_lo;
      hl = mul_nonnegative a.hi b.lo a_hi h.b_lo;
      lh = mul_nonnegative a.lo b.hi h.a_lo b_hi;
      ll_hl = le_mul b.lo h.b_lo h.a_ordered;
      lh_hh = le_mul b.hi b_hi h.a_ordered;
      hl_hh = omega (arith, int_sums, le_mul a.hi a_hi h.b_ordered, mul_comm a.hi b.lo, mul_comm a.hi b.hi);
    }

-- the interval that a product answers
abbrev pub mul_ends : Ends → Ends → ℕ → Ends
mul_ends a b s = ends
    (floor_of (int_min (int_min (a.lo *ℤ b.lo) (a.hi *ℤ b.lo)) (int_min (a.lo *ℤ b.hi) (a.hi *ℤ b.hi))) (pos (2 ^ s)))
    (ceil_of (int_max (int_max (a.lo *ℤ b.lo) (a.hi *ℤ b.lo)) (int_max (a.lo *ℤ b.hi) (a.hi *ℤ b.hi))) (pos (2 ^ s)))

pub small_mul : (a b : Ends) (s : ℕ) → AreSmall a b → mul_of a b s ≡ Ok (mul_ends a b s)
unfolding mul_of products_of multiple_of
small_mul a b s h =
    let order = below a b h in
    let small = h.small in
    let ll : unsigned_abs (a.lo *ℤ b.lo) < 2 ^ 126 = omega (arith, int_sums, order.ll, order.ll_hl, order.hl_hh) in
    let hl : unsigned_abs (a.hi *ℤ b.lo) < 2 ^ 126 = omega (arith, int_sums, order.hl, order.hl_hh) in
    let lh : unsigned_abs (a.lo *ℤ b.hi) < 2 ^ 126 = omega (arith, int_sums, order.lh, order.lh_hh) in
    let hh : unsigned_abs (a.hi *ℤ b.hi) < 2 ^ 126 = omega (arith, int_sums, order.lh, order.lh_hh) in
    rw (product_is a.lo b.lo ll, product_is a.hi b.lo hl, product_is a.lo b.hi lh, product_is a.hi b.hi hh) refl

pub mul_lo : (a b : Ends) (s : ℕ) → AreSmall a b → pos 0 ≤ℤ (mul_ends a b s).lo
mul_lo a b s h =
    let order = below a b h in
    floor_greatest (pos 0) (power_positive s) (floor_of-is _ (pos (2 ^ s)) (power_positive s))
    (omega (arith, int_sums, clamps, zero-mul (pos (2 ^ s)), order.ll, order.hl, order.lh, order.lh_hh))

pub mul_hi : (a b : Ends) (s : ℕ) (c : ℤ) → AreSmall a b → (a.hi *ℤ b.hi) ≤ℤ (c *ℤ pos (2 ^ s)) → (mul_ends a b s).hi ≤ℤ c
mul_hi a b s c h enough =
    let order = below a b h in
    ceiling_least c (power_positive s) (ceil_of-is _ (pos (2 ^ s)) (power_positive s))
    (omega (arith, int_sums, clamps, order.ll_hl, order.lh_hh, order.hl_hh))

-- ---- cube roots
pub record IsSmallShifted (a : Ends) (s : ℕ) : Type 0 where
  pub lo : pos 0 ≤ℤ a.lo
  pub ordered : a.lo ≤ℤ a.hi
  pub small : (a.hi *ℤ pos (2 ^ s)) <ℤ pos (2 ^ 126)

abbrev pub cbrt_ends : Ends → ℕ → Ends
cbrt_ends a s = ends (cube_root_of (a.lo *ℤ pos (2 ^ s))) (cube_root_up_of (a.hi *ℤ pos (2 ^ s)))

pub small_cbrt : (a : Ends) (s : ℕ) → IsSmallShifted a s → cbrt_of a s ≡ Ok (cbrt_ends a s)
unfolding cbrt_of shifted_of
small_cbrt a s h =
    let low = mul_nonnegative a.lo (pos (2 ^ s)) h.lo (omega (arith, int_sums)) in
    let more = le_mul (pos (2 ^ s)) (omega (arith, int_sums)) h.ordered in
    let lo : unsigned_abs (a.lo *ℤ pos (2 ^ s)) < 2 ^ 126 = omega (arith, int_sums, h.small) in
    let hi : unsigned_abs (a.hi *ℤ pos (2 ^ s)) < 2 ^ 126 = omega (arith, int_sums, h.small) in
    rw (product_is a.lo (pos (2 ^ s)) lo, product_is a.hi (pos (2 ^ s)) hi) refl

pub cbrt_hi : (a : Ends) (s : ℕ) (c : ℤ) → IsSmallShifted a s → pos 0 ≤ℤ c → (a.hi *ℤ pos (2 ^ s)) ≤ℤ power c 3 → (cbrt_ends a s).hi ≤ℤ c
cbrt_hi a s c h positive enough =
    let hi : pos 0 ≤ℤ a.hi = omega (arith, int_sums, h.lo, h.ordered) in
    (cube_root_up_of-is (a.hi *ℤ pos (2 ^ s)) (mul_nonnegative a.hi (pos (2 ^ s)) hi (omega (arith, int_sums)))).least c positive enough
