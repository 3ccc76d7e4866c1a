-- The squares of a pipe's diameters are in range.
use Rattle.std.proofs.Common.{arith, pos, ◌*ℤ◌, ◌≤ℤ◌, false, FitsSigned}
use Rattle.std.specs.Int.{w64, w128}
use Rattle.std.proofs.lemmas.Int.{ints}
use Rattle.int_laws.proofs.Sums.{int_sums}
use Rattle.int_laws.proofs.Products.{square_le, square_nonnegative, le_mul, mul_comm, mul_nonnegative}
use Rattle.model_types.specs.declared.records.Section.{Section}
use Rattle.section_data.specs.Tube.{IsTube, difference_of_squares, square_sum, inside_diameter}
use Rattle.member_pairs.specs.Tubes.{IsRoundTube}
use Rattle.member_pairs.specs.declared.tube.Tube.{Tube}

inside_positive : (s : Section) → IsTube s → pos 0 ≤ℤ inside_diameter s false
inside_positive s t = omega (arith, int_sums, t.bore)

inside_less : (s : Section) → IsTube s → inside_diameter s false ≤ℤ s.d
inside_less s t = omega (arith, ints, t.form.t.least)

outside_square : (s : Section) → IsTube s → (s.d *ℤ s.d) ≤ℤ pos 4000000000000
outside_square s t = omega (arith, int_sums, square_le s.d (pos 2000000) (omega (arith, int_sums, t.form.d.least)) t.form.d.most)

pub difference_low : (s : Section) → IsTube s → pos 0 ≤ℤ difference_of_squares s false
difference_low s t = omega (arith, int_sums, square_le (inside_diameter s false) s.d (inside_positive s t) (inside_less s t))

pub difference_high : (s : Section) → IsTube s → difference_of_squares s false ≤ℤ pos 4000000000000
difference_high s t = omega (arith, int_sums, square_nonnegative (inside_diameter s false), outside_square s t)

pub sum_low : (s : Section) → pos 0 ≤ℤ square_sum s false
sum_low s = omega (arith, int_sums, square_nonnegative (inside_diameter s false), square_nonnegative s.d)

pub sum_high : (s : Section) → IsTube s → square_sum s false ≤ℤ pos 8000000000000
sum_high s t = omega (arith, int_sums, square_le (inside_diameter s false) s.d (inside_positive s t) (inside_less s t), outside_square s t)

-- ---- what a tube's numbers fit
pub modulus_fits : (t : Tube) → IsRoundTube t → FitsSigned w64 t.modulus
modulus_fits t h = omega (arith, int_sums, h.modulus.least, h.modulus.most)

pub difference_fits : (t : Tube) → IsRoundTube t → FitsSigned w128 t.square_difference
difference_fits t h = omega (arith, int_sums, h.difference_low, h.difference_high)

pub load_fits : (t : Tube) → IsRoundTube t → FitsSigned w128 (t.modulus *ℤ t.square_difference)
load_fits t h =
    let most = le_mul t.square_difference h.difference_low h.modulus.most in
    let high = le_mul (pos 1000000) (omega (arith, int_sums)) h.difference_high in
    let least = mul_nonnegative t.modulus t.square_difference (omega (arith, int_sums, h.modulus.least)) h.difference_low in
    omega (arith, int_sums, most, high, least, mul_comm (pos 1000000) t.square_difference)
