-- How much greater than a pipe's wall its bore can be.
use Rattle.std.proofs.Common.{◌≡◌, refl, ◌≤ℤ◌, pos, ◌+ℤ◌, ◌-ℤ◌, ◌*ℤ◌, arith, ℤ}
use Rattle.std.specs.Prelude.{false}
use Rattle.std.proofs.lemmas.Int.{ints}
use Rattle.int_laws.proofs.Sums.{int_sums}
use Rattle.int_laws.proofs.Products.{le_mul, mul_comm, mul_right_comm, sub-mul, square_le}
use Rattle.section_data.specs.Tube.{IsTube, inside_diameter, difference_of_squares}
use Rattle.model_types.specs.declared.records.Section.{Section}
use Rattle.load_vectors.specs.Deformations.{inside_square}

-- D^2 - d^2 is (D - d) D and more, and D - d is at least 200 micrometres of at most 2,000,000
wall_most : (outside inside : ℤ) → pos 0 ≤ℤ inside → (inside +ℤ pos 200) ≤ℤ outside → outside ≤ℤ pos 2000000 →
    (inside *ℤ inside) ≤ℤ (pos 10000 *ℤ ((outside *ℤ outside) -ℤ (inside *ℤ inside)))
wall_most outside inside low thick high =
    let up : pos 0 ≤ℤ outside = omega (arith, int_sums) in
    let thin : inside ≤ℤ outside = omega (arith, int_sums) in
    let apart : pos 200 ≤ℤ (outside -ℤ inside) = omega (arith, int_sums) in
    let wall : (pos 200 *ℤ outside) ≤ℤ ((outside -ℤ inside) *ℤ outside) = le_mul outside up apart in
    let square : (outside *ℤ outside) ≤ℤ (pos 2000000 *ℤ outside) = le_mul outside up high in
    let inner : (inside *ℤ inside) ≤ℤ (outside *ℤ inside) = le_mul inside low thin in
    let least : (inside *ℤ inside) ≤ℤ (outside *ℤ outside) = square_le inside outside low thin in
    let difference = (outside *ℤ outside) -ℤ (inside *ℤ inside) in
    let more : (pos 200 *ℤ outside) ≤ℤ difference = omega (arith, int_sums, wall, inner, sub-mul outside inside outside, mul_comm inside outside) in
    let often : ((pos 200 *ℤ outside) *ℤ pos 10000) ≤ℤ (difference *ℤ pos 10000) = le_mul (pos 10000) (omega (arith, ints)) more in
    let same : (pos 200 *ℤ outside) *ℤ pos 10000 ≡ pos 2000000 *ℤ outside = mul_right_comm (pos 200) outside (pos 10000) in
    omega (arith, int_sums, often, same, square, least, mul_comm difference (pos 10000))

pub bore_most : (s : Section) → IsTube s → inside_square s ≤ℤ (pos 10000 *ℤ difference_of_squares s false)
bore_most s tube =
    let is : inside_diameter s false ≡ s.d -ℤ (pos 2 *ℤ s.t) = refl in
    let bore = tube.bore in
    let wall : pos 100 ≤ℤ s.t = tube.form.t.least in
    let most : s.d ≤ℤ pos 2000000 = tube.form.d.most in
    let low : pos 0 ≤ℤ inside_diameter s false = rw is (omega (arith, int_sums, bore)) in
    let thick : (inside_diameter s false +ℤ pos 200) ≤ℤ s.d = rw is (omega (arith, ints, wall)) in
    wall_most s.d (inside_diameter s false) low thick most
