-- Lengths and radii rounded up are enough.
use Rattle.std.specs.Prelude.{if◌then◌else◌}
use Rattle.std.specs.Ordering.{int_eq}
use Rattle.std.proofs.Common.{true, false, ◌+ℤ◌, ◌^◌, sym, ◌∙◌, ap, arith, ℤ, pos, ◌*ℤ◌, neg_ℤ, ◌≤ℤ◌, ◌<ℤ◌}
use Rattle.std.proofs.lemmas.Int.{ints, clamps, by_lt_z}
use Rattle.int_laws.proofs.Sums.{int_sums}
use Rattle.int_laws.proofs.Products.{neg-mul, mul_comm, mul_assoc, mul_mul_mul_comm, zero-mul, square_nonnegative, mul_nonnegative, le_mul, le_of_mul, square_le}
use Rattle.int_laws.proofs.SumLaws.{sum_below-le, sum_below-mul, sum_below-nonnegative}
use Rattle.int_laws.specs.Division.{ceil_of}
use Rattle.int_laws.specs.Powers.{power}
use Rattle.int_laws.specs.Root.{root_of, root_up_of}
use Rattle.int_laws.proofs.DivisionLemmas.{ceil_of-is}
use Rattle.int_laws.proofs.RootLemmas.{root_up_of-is}
use Rattle.flex_interval.specs.Ends.{Ends}
use Rattle.flex_interval.specs.Fraction.{Within}
use Rattle.member_set.specs.Members.{member_of}
use Rattle.member_set.specs.Realisation.{entry_unit, every_member, exact_entry, fraction}
use Rattle.int_laws.specs.Matrices.{squared_norm}
use Rattle.bound_laws.specs.Nearness.{residual_unit, left_over, greater_size, SizesGiveLength, RootIsLength, displacement_radius_of, force_radius_of, RoundedRadiiAreEnough, RadiiAreNotNegative}
use Rattle.bound_laws.proofs.RadiusLaw.{square-neg}

-- ---- a length of what is left

square_between : (a b : ℤ) → a ≤ℤ b → neg_ℤ a ≤ℤ b → (a *ℤ a) ≤ℤ (b *ℤ b)
square_between a b above below =
    by_lt_z a (pos 0)
    (λ less. let turned = square_le (neg_ℤ a) b (omega (arith, int_sums, less)) below in omega (arith, int_sums, turned, square-neg a))
    (λ rest. square_le a b rest above)

-- a number of an interval is at most the greater size, over its denominator
square_within : (e : Ends) (n d : ℤ) → Within e (fraction n d) → (n *ℤ n) ≤ℤ ((d *ℤ d) *ℤ (greater_size e *ℤ greater_size e))
square_within e n d within =
    let defined : pos 0 <ℤ d = within.defined in
    let least : (e.lo *ℤ d) ≤ℤ n = within.at_least in
    let most : n ≤ℤ (e.hi *ℤ d) = within.at_most in
    let up : e.hi ≤ℤ greater_size e = omega (arith, int_sums, clamps) in
    let down : neg_ℤ e.lo ≤ℤ greater_size e = omega (arith, int_sums, clamps) in
    let above = le_mul d (omega (arith, int_sums, defined)) up in
    let below = le_mul d (omega (arith, int_sums, defined)) down in
    let square = square_between n (greater_size e *ℤ d) (omega (arith, int_sums, most, above)) (omega (arith, int_sums, least, below, neg-mul e.lo d)) in
    omega (arith, int_sums, square, mul_mul_mul_comm (greater_size e) d (greater_size e) d, mul_comm (greater_size e *ℤ greater_size e) (d *ℤ d))

pub sizes_give_length : SizesGiveLength
sizes_give_length r u residual size within enough =
    let rows = sum_below-le r.stiffness.rows (λ row. left_over r u row *ℤ left_over r u row)
    (λ row. (residual_unit r *ℤ residual_unit r) *ℤ (greater_size (residual row) *ℤ greater_size (residual row)))
    (λ row inside. square_within (residual row) (left_over r u row) (residual_unit r) (within row inside)) in
    let common = sum_below-mul r.stiffness.rows (residual_unit r *ℤ residual_unit r) (λ row. greater_size (residual row) *ℤ greater_size (residual row)) in
    let scaled = le_mul (residual_unit r *ℤ residual_unit r) (square_nonnegative (residual_unit r)) enough in
    omega (
      arith,
      int_sums,
      rows,
      common,
      scaled,
      mul_comm (squared_norm r.stiffness.rows (λ row. greater_size (residual row))) (residual_unit r *ℤ residual_unit r),
      mul_comm (size *ℤ size) (residual_unit r *ℤ residual_unit r),
      mul_mul_mul_comm (residual_unit r) size (residual_unit r) size,
    )

-- ---- radii

-- t is a square unit: ratio ≥ kappa t^2 / lambda, root^2 ≥ ratio and radius ≥ size root / t
root_enough : (lambda size kappa t ratio root radius : ℤ) → pos 0 ≤ℤ lambda → pos 0 ≤ℤ size → pos 0 ≤ℤ root → pos 0 <ℤ (t *ℤ t) →
    (kappa *ℤ (t *ℤ t)) ≤ℤ (ratio *ℤ lambda) → ratio ≤ℤ (root *ℤ root) → (size *ℤ root) ≤ℤ (radius *ℤ t) →
    (kappa *ℤ (size *ℤ size)) ≤ℤ (lambda *ℤ (radius *ℤ radius))
root_enough lambda size kappa t ratio root radius lambda_up size_up root_up unit_up quotient rooted rounded =
    let squared = le_mul lambda lambda_up rooted in
    let first : (kappa *ℤ (t *ℤ t)) ≤ℤ ((root *ℤ root) *ℤ lambda) = omega (arith, int_sums, squared, quotient) in
    let second = le_mul (size *ℤ size) (square_nonnegative size) first in
    let square = square_le (size *ℤ root) (radius *ℤ t) (mul_nonnegative size root size_up root_up) rounded in
    let third = le_mul lambda lambda_up square in
    let left = mul_assoc kappa (t *ℤ t) (size *ℤ size) ∙ ap (λ (z : ℤ). kappa *ℤ z) (mul_comm (t *ℤ t) (size *ℤ size)) ∙ sym (mul_assoc kappa (size *ℤ size) (t *ℤ t)) in
    let middle = mul_comm ((root *ℤ root) *ℤ lambda) (size *ℤ size) ∙ sym (mul_assoc (size *ℤ size) (root *ℤ root) lambda)
    ∙ ap (λ (z : ℤ). z *ℤ lambda) (mul_mul_mul_comm size size root root) in
    let right = ap (λ (z : ℤ). z *ℤ lambda) (mul_mul_mul_comm radius t radius t) ∙ mul_comm ((radius *ℤ radius) *ℤ (t *ℤ t)) lambda ∙ sym (mul_assoc lambda (radius *ℤ radius) (t *ℤ t)) in
    le_of_mul (t *ℤ t) (kappa *ℤ (size *ℤ size)) (lambda *ℤ (radius *ℤ radius)) unit_up
    (omega (arith, int_sums, second, third, left, middle, right))

-- a quotient of what isn't negative, rounded up, isn't negative
ceiling_not_negative : (n d : ℤ) → pos 0 <ℤ d → pos 0 ≤ℤ n → pos 0 ≤ℤ ceil_of n d
ceiling_not_negative n d d_up n_up =
    le_of_mul d (pos 0) (ceil_of n d) d_up (omega (arith, int_sums, (ceil_of-is n d d_up).at_least, zero-mul d, n_up))

pub rounded_radii_are_enough : RoundedRadiiAreEnough
rounded_radii_are_enough b lambda size one size_up stiff =
    let lambda_up : pos 0 <ℤ lambda = omega (arith, int_sums, one) in
    let unit_up : pos 0 <ℤ pos (2 ^ 20) = omega (arith, ints) in
    let ratio = λ (kappa : ℤ). ceil_of (kappa *ℤ pos (2 ^ 40)) lambda in
    let ratio_up = λ (kappa : ℤ) (h : pos 0 ≤ℤ kappa). ceiling_not_negative (kappa *ℤ pos (2 ^ 40)) lambda lambda_up (mul_nonnegative kappa (pos (2 ^ 40)) h (omega (arith, ints))) in
    let root = λ (kappa : ℤ) (h : pos 0 ≤ℤ kappa). root_up_of-is (ceil_of (kappa *ℤ pos (2 ^ 40)) lambda) (ratio_up kappa h) in
    record {
      displacement = omega (arith, int_sums, (ceil_of-is (size *ℤ pos (2 ^ 36)) lambda lambda_up).at_least, mul_comm (ceil_of (size *ℤ pos (2 ^ 36)) lambda) lambda, mul_comm size (pos (2 ^ 36)));
      force = λ k inside.
          let kappa = (member_of b k).kappa.hi in
          let own = root (member_of b k).kappa.hi (stiff k inside) in
          let quotient = (ceil_of-is ((member_of b k).kappa.hi *ℤ pos (2 ^ 40)) lambda lambda_up).at_least in
          root_enough lambda size (member_of b k).kappa.hi (pos (2 ^ 20)) (ceil_of ((member_of b k).kappa.hi *ℤ pos (2 ^ 40)) lambda)
          (root_up_of (ceil_of ((member_of b k).kappa.hi *ℤ pos (2 ^ 40)) lambda)) (force_radius_of lambda size (member_of b k).kappa.hi)
          (omega (arith, int_sums, lambda_up)) size_up own.nonnegative (omega (arith, ints)) quotient own.at_least
          (ceil_of-is (size *ℤ root_up_of (ceil_of ((member_of b k).kappa.hi *ℤ pos (2 ^ 40)) lambda)) (pos (2 ^ 20)) unit_up).at_least;
      not_negative = λ k inside.
          ceiling_not_negative (size *ℤ root_up_of (ceil_of ((member_of b k).kappa.hi *ℤ pos (2 ^ 40)) lambda)) (pos (2 ^ 20)) unit_up
          (mul_nonnegative size (root_up_of (ceil_of ((member_of b k).kappa.hi *ℤ pos (2 ^ 40)) lambda)) size_up (root (member_of b k).kappa.hi (stiff k inside)).nonnegative);
    }

root_not_negative : (n : ℤ) → pos 0 ≤ℤ root_up_of n
unfolding root_of root_up_of
root_not_negative n = elim (int_eq (power (root_of n) 2) n) as (λ t. pos 0 ≤ℤ (if t then root_of n else root_of n +ℤ pos 1)) [
  | true ↦ omega (arith, ints)
  | false ↦ omega (arith, ints)
]

pub radii_are_not_negative : RadiiAreNotNegative
radii_are_not_negative lambda squares kappa one =
    let lambda_up : pos 0 <ℤ lambda = omega (arith, int_sums, one) in
    let size = root_up_of squares in
    let size_up = root_not_negative squares in
    let root = root_up_of (ceil_of (kappa *ℤ pos (2 ^ 40)) lambda) in (
      ceiling_not_negative (size *ℤ pos (2 ^ 36)) lambda lambda_up (mul_nonnegative size (pos (2 ^ 36)) size_up (omega (arith, ints))),
      ceiling_not_negative (size *ℤ root) (pos (2 ^ 20)) (omega (arith, ints))
          (mul_nonnegative size root size_up (root_not_negative (ceil_of (kappa *ℤ pos (2 ^ 40)) lambda))),
    )

pub root_is_length : RootIsLength
root_is_length r u residual within =
    let squares = squared_norm r.stiffness.rows (λ row. greater_size (residual row)) in
    let up = sum_below-nonnegative r.stiffness.rows (λ row. greater_size (residual row) *ℤ greater_size (residual row)) (λ row _. square_nonnegative (greater_size (residual row))) in
    let root = root_up_of-is (squared_norm r.stiffness.rows (λ row. greater_size (residual row))) up in
    (root.nonnegative, sizes_give_length r u residual _ within root.at_least)
