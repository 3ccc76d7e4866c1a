-- The way between two nodes is as long as their distance, so each of its parts is in range; and the squares of such parts.
use Rattle.std.proofs.Common.{◌≡◌, ◌*◌, refl, arith, ℤ, pos, negsuc, ◌+ℤ◌, ◌-ℤ◌, ◌*ℤ◌, neg_ℤ, ◌≤ℤ◌, unsigned_abs, FitsSigned}
use Rattle.std.proofs.lemmas.Int.{by_lt_z}
use Rattle.std.specs.Int.{w64, w128}
use Rattle.int_laws.proofs.Sums.{int_sums}
use Rattle.int_laws.proofs.Products.{square_nonnegative, square_le, le_of_square, neg-mul, mul-neg}
use Rattle.model_types.specs.declared.records.Node.{Node}
use Rattle.model_types.specs.Ranges.{IsIn, of_size}
use Rattle.model_types.specs.Rules.{IsSpan, square_distance}
use Rattle.member_pairs.specs.Span.{square_of}
use Rattle.member_pairs.specs.Vectors.{way_of, parts_of, IsWay}

-- a square by its size
square_size : (z : ℤ) → pos (unsigned_abs z * unsigned_abs z) ≡ z *ℤ z
square_size (pos n) = refl
square_size (negsuc n) = refl

pub square_distance-is : (from to : Node) → pos (square_distance from to) ≡ square_of (parts_of (way_of from to))
square_distance-is from to = omega (arith, int_sums, square_size (to.x -ℤ from.x), square_size (to.y -ℤ from.y), square_size (to.z -ℤ from.z))

-- a number whose square is at most 30,000,000^2
in_range : (z : ℤ) → (z *ℤ z) ≤ℤ pos 900000000000000 → IsIn (of_size 30000000) z
in_range z h = record {
  least = omega (arith, int_sums, le_of_square (neg_ℤ z) (pos 30000000) (omega (arith, int_sums)) (omega (arith, int_sums, neg-mul z (neg_ℤ z), mul-neg z z)));
  most = le_of_square z (pos 30000000) (omega (arith, int_sums)) (omega (arith, int_sums));
}

pub way_in_range : (from to : Node) → IsSpan from to → IsWay (way_of from to)
way_in_range from to span =
    let d = way_of from to in
    let whole_square = square_distance-is from to in
    let x = square_nonnegative d.x in
    let y = square_nonnegative d.y in
    let z = square_nonnegative d.z in
    let short : square_of (parts_of d) ≤ℤ pos 900000000000000 = omega (arith, int_sums, whole_square, span.near) in
    record {
      x = in_range d.x (omega (arith, int_sums));
      y = in_range d.y (omega (arith, int_sums));
      z = in_range d.z (omega (arith, int_sums));
      not_zero = omega (arith, int_sums, whole_square, span.apart);
      short = short;
    }

-- ---- squares
pub part_fits : (z : ℤ) → IsIn (of_size 30000000) z → FitsSigned w64 z
part_fits z h = omega (arith, int_sums, h.least, h.most)

-- the square of a part
pub square_most : (z : ℤ) → IsIn (of_size 30000000) z → (z *ℤ z) ≤ℤ pos 900000000000000
square_most z h =
    by_lt_z z (pos 0)
    (λ negative. omega (arith, int_sums, square_le (neg_ℤ z) (pos 30000000) (omega (arith, int_sums)) (omega (arith, int_sums, h.least)), neg-mul z (neg_ℤ z), mul-neg z z))
    (λ rest. square_le z (pos 30000000) rest h.most)

pub small_fits : (p : ℤ) → pos 0 ≤ℤ p → p ≤ℤ pos 900000000000000 → FitsSigned w128 p
small_fits p low high = omega (arith, int_sums)

pub two_fit : (p q : ℤ) → pos 0 ≤ℤ p → pos 0 ≤ℤ q → p ≤ℤ pos 900000000000000 → q ≤ℤ pos 900000000000000 → FitsSigned w128 (p +ℤ q)
two_fit p q low_p low_q high_p high_q = omega (arith, int_sums)

pub three_fit : (p q r : ℤ) → pos 0 ≤ℤ p → pos 0 ≤ℤ q → pos 0 ≤ℤ r → p ≤ℤ pos 900000000000000 → q ≤ℤ pos 900000000000000 → r ≤ℤ pos 900000000000000 → FitsSigned w128 ((p +ℤ q) +ℤ r)
three_fit p q r low_p low_q low_r high_p high_q high_r = omega (arith, int_sums)
