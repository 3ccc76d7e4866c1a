-- An index from the enclosure of its cube before the root.
use Rattle.std.proofs.Common.{◌≡◌, ◌^◌, inl, inr, ◌∙◌, ap, arith, ℤ, pos, ◌*ℤ◌, ◌≤ℤ◌}
use Rattle.std.proofs.lemmas.Int.{clamps, by_lt_z}
use Rattle.std.specs.Int.{int_max}
use Rattle.int_laws.specs.Powers.{power}
use Rattle.int_laws.proofs.Sums.{int_sums}
use Rattle.int_laws.proofs.Products.{mul_comm, mul_assoc, mul_right_comm, le_mul}
use Rattle.int_laws.proofs.Powers.{power_le}
use Rattle.flex_interval.specs.Ends.{Ends}
use Rattle.flex_interval.specs.Fraction.{Fraction, Within, scaled}
use Rattle.flex_interval.specs.Operations.{point_of, max_of}
use Rattle.flex_interval.specs.Roots.{EnclosesRoot}
use Rattle.sif_factors.specs.Parts.{fraction, in_parts, reciprocal}
use Rattle.sif_factors.specs.Index.{EnclosesIndex}

-- the two shifts together
units : (s n : ℤ) → ((s *ℤ pos (2 ^ 40)) *ℤ n) *ℤ pos (2 ^ 50) ≡ pos (2 ^ 90) *ℤ (n *ℤ s)
units s n =
    ap (λ (z : ℤ). z *ℤ pos (2 ^ 50)) (mul_right_comm s (pos (2 ^ 40)) n)
    ∙ mul_assoc (s *ℤ n) (pos (2 ^ 40)) (pos (2 ^ 50)) ∙ mul_comm (s *ℤ n) (pos (2 ^ 90)) ∙ ap (λ (z : ℤ). pos (2 ^ 90) *ℤ z) (mul_comm s n)

-- the powers of the root's ends, by the exact cube n / (m h^2)
root_below : (cube root : Ends) (n m : ℤ) (square : Fraction) → EnclosesRoot 3 cube 50 root → Within cube (scaled (in_parts (reciprocal square) 40) n m) →
    (power root.lo 3 *ℤ (square.num *ℤ m)) ≤ℤ (pos (2 ^ 90) *ℤ (n *ℤ square.den))
unfolding scaled
root_below cube root n m square encloses within =
    let den = square.num *ℤ m in
    let first = le_mul den (omega (arith, int_sums, within.defined)) encloses.power_below in
    let second = le_mul (pos (2 ^ 50)) (omega (arith, int_sums)) within.at_least in
    omega (arith, int_sums, mul_right_comm cube.lo (pos (2 ^ 50)) den, units square.den n)

root_above : (cube root : Ends) (n m : ℤ) (square : Fraction) → EnclosesRoot 3 cube 50 root → Within cube (scaled (in_parts (reciprocal square) 40) n m) →
    (pos (2 ^ 90) *ℤ (n *ℤ square.den)) ≤ℤ (power root.hi 3 *ℤ (square.num *ℤ m))
unfolding scaled
root_above cube root n m square encloses within =
    let den = square.num *ℤ m in
    let first = le_mul den (omega (arith, int_sums, within.defined)) encloses.power_above in
    let second = le_mul (pos (2 ^ 50)) (omega (arith, int_sums)) within.at_most in
    omega (arith, int_sums, mul_right_comm cube.hi (pos (2 ^ 50)) den, units square.den n)

pub index_encloses : (cube root : Ends) (n m : ℤ) (square : Fraction) → EnclosesRoot 3 cube 50 root → Within cube (scaled (in_parts (reciprocal square) 40) n m) →
    EnclosesIndex (fraction n m) square (max_of root (point_of (pos (2 ^ 30))))
unfolding scaled max_of
index_encloses cube root n m square encloses within =
    let den = square.num *ℤ m in
    let one = pos (2 ^ 30) in
    let hi_positive : pos 0 ≤ℤ root.hi = omega (arith, int_sums, encloses.nonnegative, encloses.ordered) in
    let more = power_le 2 root.hi (int_max root.hi one) hi_positive (omega (arith, int_sums, clamps)) in
    let scaled_more = le_mul den (omega (arith, int_sums, within.defined)) more in
    let above : (pos (2 ^ 90) *ℤ (n *ℤ square.den)) ≤ℤ (power (int_max root.hi one) 3 *ℤ den) = omega (arith, int_sums, root_above cube root n m square encloses within) in
    record {
      lo_from_one = omega (arith, int_sums, clamps);
      hi_from_one = omega (arith, int_sums, clamps);
      lower = by_lt_z one root.lo
          (λ above. inr (let same : int_max root.lo one ≡ root.lo = omega (arith, int_sums, clamps) in rw same (root_below cube root n m square encloses within)))
          (λ below. inl (omega (arith, int_sums, clamps)));
      upper = above;
    }
