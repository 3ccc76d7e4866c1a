-- The ends of an interval fit `i128`, and so do their sums; and the least and the greatest of two numbers.
use Rattle.std.proofs.Common.{◌^◌, ◌<◌, arith, ℤ, ◌+ℤ◌, neg_ℤ, ◌≤ℤ◌, unsigned_abs, FitsSigned}
use Rattle.std.proofs.lemmas.Int.{clamps}
use Rattle.std.specs.Int.{w128, int_min, int_max}
use Rattle.int_laws.proofs.Sums.{int_sums}
use Rattle.flex_interval.specs.Ends.{Ends, IsInterval}
use Rattle.flex_interval.specs.Operations.{ends}

pub small_fits : {x : ℤ} → unsigned_abs x < 2 ^ 126 → FitsSigned w128 x
small_fits {x} h = omega (arith, int_sums)

pub neg_fits : (x : ℤ) → unsigned_abs x < 2 ^ 126 → FitsSigned w128 (neg_ℤ x)
neg_fits x h = omega (arith, int_sums)

pub sum_fits : (x y : ℤ) → unsigned_abs x < 2 ^ 126 → unsigned_abs y < 2 ^ 126 → FitsSigned w128 (x +ℤ y)
sum_fits x y first second = omega (arith, int_sums)

pub sum_ordered : (a b c d : ℤ) → a ≤ℤ b → c ≤ℤ d → (a +ℤ c) ≤ℤ (b +ℤ d)
sum_ordered a b c d first second = omega (arith, int_sums)

pub min_first : (p q : ℤ) → int_min p q ≤ℤ p
min_first p q = omega (arith, int_sums, clamps)

pub min_second : (p q : ℤ) → int_min p q ≤ℤ q
min_second p q = omega (arith, int_sums, clamps)

pub max_first : (p q : ℤ) → p ≤ℤ int_max p q
max_first p q = omega (arith, int_sums, clamps)

pub max_second : (p q : ℤ) → q ≤ℤ int_max p q
max_second p q = omega (arith, int_sums, clamps)

-- from the lesser to the greater of two small numbers
pub between_is_interval : (p q : ℤ) → unsigned_abs p < 2 ^ 126 → unsigned_abs q < 2 ^ 126 → IsInterval (ends (int_min p q) (int_max p q))
between_is_interval p q first second = record {
  ordered = omega (arith, int_sums, clamps);
  lo_small = omega (arith, int_sums, clamps);
  hi_small = omega (arith, int_sums, clamps);
}

-- from the lesser lower end to the greater upper one
pub hull_is_interval : (a b : Ends) → IsInterval a → IsInterval b → IsInterval (ends (int_min a.lo b.lo) (int_max a.hi b.hi))
hull_is_interval a b in_a in_b = record {
  ordered = omega (arith, int_sums, clamps, in_a.ordered, in_b.ordered);
  lo_small = omega (arith, int_sums, clamps, in_a.lo_small, in_b.lo_small);
  hi_small = omega (arith, int_sums, clamps, in_a.hi_small, in_b.hi_small);
}
