-- A guess at a quotient that proves right.
use Rattle.std.proofs.Common.{◌≡◌, ℕ, ◌+◌, ◌-◌, ◌^◌, ◌<◌, ◌∙◌, ap, arith, false, to_z, of_z, ℤ, pos, negsuc, neg_ℤ, ◌+ℤ◌, ◌-ℤ◌, ◌*ℤ◌, ◌≤ℤ◌, ◌<ℤ◌}
use Rattle.std.proofs.lemmas.Int.{ints}
use Rattle.int_laws.specs.Division.{IsNearest, nearest_of}
use Rattle.std.specs.Prelude.{int_le}
use Rattle.std.specs.Int.{w128}
use Rattle.std.specs.Int.RustNames.{unsigned_abs}
use Rattle.dense_front.proofs.CastLemmas.{wide_is, product_small}
use Rattle.int_laws.proofs.Sums.{int_sums}
use Rattle.int_laws.proofs.Products.{add-mul, sub-mul, mul_assoc, one-mul}
use Rattle.int_laws.proofs.DivisionLemmas.{nearest_of-is, nearest_unique}

twice : (z : ℤ) → pos 2 *ℤ z ≡ z +ℤ z
twice z = omega (arith, ints)

pub guess-is : (left pivot guess : ℤ) → pos 1 ≤ℤ pivot → neg_ℤ pivot ≤ℤ (pos 2 *ℤ (left -ℤ (guess *ℤ pivot))) → (pos 2 *ℤ (left -ℤ (guess *ℤ pivot))) <ℤ pivot → guess ≡ nearest_of left pivot
guess-is left pivot guess positive below above =
    let product = guess *ℤ pivot in
    let rest = twice (left -ℤ product) in
    let number = twice left in
    let moved : (pos 2 *ℤ guess) *ℤ pivot ≡ product +ℤ product = mul_assoc (pos 2) guess pivot ∙ twice product in
    let one = one-mul pivot in
    let h : pos 0 <ℤ pivot = omega (arith, int_sums, positive) in
    let is : IsNearest left pivot guess =
    record {
      half_below = omega (arith, int_sums, below, rest, number, moved, one, sub-mul (pos 2 *ℤ guess) (pos 1) pivot);
      half_above = omega (arith, int_sums, above, rest, number, moved, one, add-mul (pos 2 *ℤ guess) (pos 1) pivot);
    }
    in
    nearest_unique h is (nearest_of-is left pivot h)

-- a guess that is tried is below 2^57 in size
pub tried : (guess : ℤ) → int_le guess (negsuc (2 ^ 57 - 1)) ≡ false → int_le (pos (2 ^ 57)) guess ≡ false → unsigned_abs guess < 2 ^ 57
tried guess low high = omega (arith, ints, low, high)

-- what a guess leaves, as it is computed
pub rest_read : (left guess pivot : ℤ) → unsigned_abs left < 2 ^ 126 + 2 ^ 117 → unsigned_abs guess < 2 ^ 57 → unsigned_abs pivot < 2 ^ 57 →
    to_z w128 (of_z w128 (to_z w128 (of_z w128 left) -ℤ to_z w128 (of_z w128 (to_z w128 (of_z w128 guess) *ℤ to_z w128 (of_z w128 pivot))))) ≡ left -ℤ (guess *ℤ pivot)
rest_read left guess pivot left_small guess_small pivot_small =
    let product = product_small guess pivot guess_small pivot_small in
    ap (λ z. to_z w128 (of_z w128 (z -ℤ to_z w128 (of_z w128 (to_z w128 (of_z w128 guess) *ℤ to_z w128 (of_z w128 pivot)))))) (wide_is left (omega arith))
    ∙ ap (λ z. to_z w128 (of_z w128 (left -ℤ to_z w128 (of_z w128 (z *ℤ to_z w128 (of_z w128 pivot)))))) (wide_is guess (omega arith))
    ∙ ap (λ z. to_z w128 (of_z w128 (left -ℤ to_z w128 (of_z w128 (guess *ℤ z))))) (wide_is pivot (omega arith))
    ∙ ap (λ z. to_z w128 (of_z w128 (left -ℤ z))) (wide_is (guess *ℤ pivot) (omega (arith, product)))
    ∙ wide_is (left -ℤ (guess *ℤ pivot)) (omega (arith, int_sums, product))
