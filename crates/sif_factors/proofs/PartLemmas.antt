-- Enclosures of fractions in a binary unit: what a step's exact value is, with the powers of 2 taken out.
use Rattle.std.proofs.Common.{◌≡◌, ℕ, zero, suc, ◌^◌, min, sym, ◌∙◌, ap, subst, arith, ℤ, pos, negsuc, ◌*ℤ◌, ◌≤ℤ◌, ◌<ℤ◌}
use Rattle.std.proofs.lemmas.Nat.{pow_pos}
use Rattle.int_laws.proofs.Sums.{int_sums}
use Rattle.int_laws.proofs.Products.{one-mul, zero-mul, mul_comm, mul_assoc, mul_mul_mul_comm, le_of_mul, lt_of_mul}
use Rattle.flex_interval.specs.Ends.{Ends}
use Rattle.flex_interval.specs.Fraction.{Fraction, Within, whole, scaled, times, over}
use Rattle.sif_factors.specs.Parts.{fraction, in_parts, multiplied}

pub whole_scaled : (e : Ends) (n u p : ℤ) → Within e (scaled (whole n) u p) → Within e (fraction (n *ℤ u) p)
unfolding whole scaled
whole_scaled e n u p within = subst (λ (d : ℤ). Within e (fraction (n *ℤ u) d)) (one-mul p) within

pub product_within : (e : Ends) (x y : Fraction) (s : ℕ) → Within e (times (in_parts x s) (in_parts y s) s) → Within e (in_parts (multiplied x y) s)
unfolding times
product_within e x y s within =
    let unit = pos (2 ^ s) in
    let den = x.den *ℤ y.den in
    let positive : pos 0 <ℤ (den *ℤ unit) = within.defined in
    let from_zero : pos 0 ≤ℤ unit = omega (arith, int_sums) in
    let defined : pos 0 <ℤ den = lt_of_mul unit (pos 0) den from_zero (omega (arith, int_sums, zero-mul unit)) in
    let some : pos 0 <ℤ unit = omega (arith, int_sums, pow_pos s) in
    let moved : (x.num *ℤ unit) *ℤ (y.num *ℤ unit) ≡ ((x.num *ℤ y.num) *ℤ unit) *ℤ unit =
    mul_mul_mul_comm x.num unit y.num unit ∙ sym (mul_assoc (x.num *ℤ y.num) unit unit) in
    record {
      defined = defined;
      at_least = le_of_mul unit (e.lo *ℤ den) ((x.num *ℤ y.num) *ℤ unit) some (omega (arith, int_sums, mul_assoc e.lo den unit, moved, within.at_least));
      at_most = le_of_mul unit ((x.num *ℤ y.num) *ℤ unit) (e.hi *ℤ den) some (omega (arith, int_sums, mul_assoc e.hi den unit, moved, within.at_most));
    }

-- the quotient of a number by a positive one, in 2^-s
pub quotient_same : (n d : ℤ) (s : ℕ) (a b : ℤ) → pos 0 <ℤ b → scaled (whole (n *ℤ a)) (pos (2 ^ s)) (d *ℤ b) ≡ over (fraction n d) (fraction b a) s
unfolding whole scaled over
quotient_same n d s a (pos zero) positive = absurd (omega (arith, int_sums))
quotient_same n d s a (pos (suc b)) positive =
    let one : min (suc b) 1 ≡ 1 = omega arith in
    ap (λ (z : ℤ). fraction z (pos 1 *ℤ (d *ℤ pos (suc b)))) (mul_comm (n *ℤ a) (pos (2 ^ s)) ∙ sym (one-mul (pos (2 ^ s) *ℤ (n *ℤ a))))
    ∙ ap (λ (z : ℤ). fraction (pos 1 *ℤ (pos (2 ^ s) *ℤ (n *ℤ a))) z) (one-mul (d *ℤ pos (suc b)))
    ∙ ap (λ (k : ℕ). fraction (pos k *ℤ (pos (2 ^ s) *ℤ (n *ℤ a))) (d *ℤ pos (suc b))) (sym one)
quotient_same n d s a (negsuc b) positive = absurd (omega (arith, int_sums))
