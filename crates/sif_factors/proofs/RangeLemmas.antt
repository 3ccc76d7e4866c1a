-- Bends and tees of a text keep 1/h in range, and the index in plane of a tee is a factor.
use Rattle.std.proofs.Common.{◌≡◌, ◌*◌, ◌^◌, arith, ap, sym, subst, true, false, Bool, ℤ, pos, ◌+ℤ◌, ◌*ℤ◌, ◌≤ℤ◌, ◌<ℤ◌, Result, Ok, Err, if◌then◌else◌}
use Rattle.std.proofs.lemmas.Int.{ints, clamps}
use Rattle.std.specs.Int.{int_min, int_max}
use Rattle.int_laws.specs.Division.{floor_of, ceil_of}
use Rattle.int_laws.proofs.DivisionLemmas.{floor_of-is, floor_greatest}
use Rattle.int_laws.proofs.Sums.{int_sums}
use Rattle.int_laws.proofs.Products.{le_mul, mul_comm, mul_positive, square_nonnegative, product_most}
use Rattle.flex_interval.specs.Ends.{Ends}
use Rattle.flex_interval.specs.declared.fault.IvFault.{IvFault}
use Rattle.flex_interval.specs.declared.fault.IvFault.TheVariants as fault
use Rattle.flex_interval.specs.Operations.{add_of, ends, is_small, multiple_of, ratio_of, small_of}
use Rattle.lists.specs.Results.{and_then}
use Rattle.sif_factors.specs.Factors.{IsFactor}
use Rattle.sif_factors.specs.Inverse.{InverseInRange}

-- a product by the upper end of an interval from 0 on, and that end's square
pub product_of_most : (x lo hi a b : ℤ) → pos 0 ≤ℤ a → pos 0 ≤ℤ lo → lo ≤ℤ hi → x ≤ℤ a → hi ≤ℤ b → (x *ℤ hi) ≤ℤ (a *ℤ b)
product_of_most x lo hi a b positive low ordered first second = product_most x hi a b positive (omega (arith, int_sums)) first second

pub square_most : (lo hi a : ℤ) → pos 0 ≤ℤ lo → lo ≤ℤ hi → hi ≤ℤ a → (hi *ℤ hi) ≤ℤ (a *ℤ a)
square_most lo hi a low ordered most = product_of_most hi lo hi a a (omega (arith, int_sums)) low ordered most most

-- a wall times a number
pub times_wall : (t n most : ℤ) → pos 100 ≤ℤ t → t ≤ℤ pos 200000 → pos 1 ≤ℤ n → n ≤ℤ most → (pos 0 <ℤ (n *ℤ t)) × ((n *ℤ t) ≤ℤ (most *ℤ pos 200000)) × ((n *ℤ pos 100) ≤ℤ (n *ℤ t))
times_wall t n most low high one limit = (
  mul_positive n t (omega (arith, int_sums)) (omega (arith, int_sums)),
  product_most n t most (pos 200000) (omega (arith, int_sums)) (omega (arith, int_sums)) limit high,
  omega (arith, int_sums, le_mul n (omega (arith, int_sums)) low, mul_comm n t, mul_comm n (pos 100)),
)

pub bend_range : (m t r : ℤ) → pos 0 <ℤ m → m ≤ℤ pos 2000000 → m ≤ℤ (pos 2 *ℤ r) → pos 100 ≤ℤ t → t ≤ℤ pos 200000 → pos 1000 ≤ℤ r → r ≤ℤ pos 15000000 →
    InverseInRange (record { num = m *ℤ m; den = pos 4 *ℤ (t *ℤ r) })
bend_range m t r positive high wide t_low t_high r_low r_high =
    let wall = times_wall t r (pos 15000000) t_low t_high (omega (arith, int_sums)) r_high in
    let square = product_most m m (pos 2000000) (pos 2000000) (omega (arith, int_sums)) (omega (arith, int_sums)) high high in
    let turned = product_most m m (pos 2 *ℤ r) (pos 2000000) (omega (arith, ints)) (omega (arith, int_sums)) wide high in
    record {
      low = square_nonnegative m;
      high = omega (arith, ints, square);
      positive = omega (arith, ints, wall.0, mul_comm t r);
      den_high = omega (arith, ints, wall.1, mul_comm t r);
      ratio = omega (arith, ints, wall.2, turned, mul_comm t r);
    }

-- the mean diameter, or 500 times it, over a multiple of the wall
pub tee_range : (m n t : ℤ) → pos 0 <ℤ m → m ≤ℤ pos 2000000 → pos 100 ≤ℤ t → t ≤ℤ pos 200000 → pos 2 ≤ℤ n → n ≤ℤ pos 8 → InverseInRange (record { num = m; den = n *ℤ t })
tee_range m n t positive high t_low t_high n_low n_high =
    let wall = times_wall t n (pos 8) t_low t_high (omega (arith, int_sums)) n_high in
    record {
      low = omega (arith, int_sums);
      high = omega (arith, ints);
      positive = wall.0;
      den_high = omega (arith, ints, wall.1);
      ratio = omega (arith, ints, wall.2);
    }

pub coefficient_range : (m c t : ℤ) → pos 0 <ℤ m → m ≤ℤ pos 2000000 → pos 100 ≤ℤ t → t ≤ℤ pos 200000 → pos 100 ≤ℤ c → c ≤ℤ pos 100000 → InverseInRange (record { num = pos 500 *ℤ m; den = c *ℤ t })
coefficient_range m c t positive high t_low t_high c_low c_high =
    let wall = times_wall t c (pos 100000) t_low t_high (omega (arith, int_sums)) c_high in
    record {
      low = omega (arith, ints);
      high = omega (arith, ints);
      positive = wall.0;
      den_high = omega (arith, ints, wall.1);
      ratio = omega (arith, ints, wall.2);
    }

-- ---- the ends of a sum are the sums of the ends
abbrev tested : Bool → ℤ → Result ℤ IvFault
tested t x = if t then Ok x else Err fault.Wide

two_tested : (s t : Bool) (p q : ℤ) (e : Ends) → and_then (tested s p) (λ x. and_then (tested t q) (λ y. Ok (ends x y))) ≡ Ok e → ends p q ≡ e
two_tested true true p q e is = cc
two_tested true false p q e is = absurd (cc)
two_tested false t p q e is = absurd (cc)

sum_is : (a b e : Ends) → add_of a b ≡ Ok e → ends (a.lo +ℤ b.lo) (a.hi +ℤ b.hi) ≡ e
unfolding add_of
sum_is a b e is = two_tested (is_small (a.lo +ℤ b.lo)) (is_small (a.hi +ℤ b.hi)) (a.lo +ℤ b.lo) (a.hi +ℤ b.hi) e is

pub sum_low : (a b e : Ends) → add_of a b ≡ Ok e → e.lo ≡ a.lo +ℤ b.lo
sum_low a b e is = ap (λ (e : Ends). e.lo) (sym (sum_is a b e is))

pub sum_is_factor : (a b e : Ends) → add_of a b ≡ Ok e → pos 0 ≤ℤ a.lo → a.hi ≤ℤ pos (2 ^ 42) → pos 0 ≤ℤ b.lo → b.hi ≤ℤ pos (2 ^ 42) → IsFactor e
sum_is_factor a b e is a_low a_high b_low b_high = subst IsFactor (sum_is a b e is) (record { low = omega (arith, int_sums); high = omega (arith, int_sums) })

-- ---- the lower end of three quarters of an interval

abbrev quarters_of : ℤ → ℤ → Ends
quarters_of x y = ends (floor_of (int_min x y) (pos 4)) (ceil_of (int_max x y) (pos 4))

two_scaled : (s t : Bool) (x y : ℤ) (e : Ends) →
    and_then (and_then (tested s x) (λ x. and_then (tested t y) (λ y. Result.Ok (ends (int_min x y) (int_max x y))))) (λ e. Ok (ends (floor_of e.lo (pos 4)) (ceil_of e.hi (pos 4)))) ≡ Ok e → e ≡ quarters_of x y
two_scaled true true x y e is = cc
two_scaled true false x y e is = absurd (cc)
two_scaled false t x y e is = absurd (cc)

pub three_quarters_low : (a e : Ends) → ratio_of a (pos 3) (pos 4) ≡ Ok e → a.lo ≤ℤ a.hi → pos (2 ^ 30) ≤ℤ a.lo → pos (3 * 2 ^ 28) ≤ℤ e.lo
unfolding ratio_of multiple_of
three_quarters_low a e is ordered from_one =
    let x = a.lo *ℤ pos 3 in
    let y = a.hi *ℤ pos 3 in
    let low : int_min x y ≡ x = omega (arith, ints, clamps) in
    let end : e.lo ≡ floor_of (int_min x y) (pos 4) = ap (λ (e : Ends). e.lo) (two_scaled (is_small x) (is_small y) x y e is) in
    rw (end, low) (floor_greatest (pos (3 * 2 ^ 28)) (omega (arith, ints)) (floor_of-is x (pos 4) (omega (arith, ints))) (omega (arith, ints, from_one)))
