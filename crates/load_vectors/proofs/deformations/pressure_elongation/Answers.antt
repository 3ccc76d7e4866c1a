use Rattle.std.proofs.Common.{rules, ◌≡◌, ◌≤ℤ◌, ◌<ℤ◌, ◌*ℤ◌, ◌*◌, ◌^◌, pos, ℤ, arith, FitsSigned, to_z, of_z, to_z-of_z}
use Rattle.std.proofs.lemmas.Int.{ints}
use Rattle.int_laws.proofs.Sums.{int_sums}
use Rattle.int_laws.proofs.Products.{le_mul, mul_comm, mul_right_comm, product_most}
use Rattle.std.specs.Int.{w64, w128}
use Rattle.std.specs.Prelude.{false}
use Rattle.section_data.specs.Tube.{difference_of_squares}
use Rattle.load_vectors.specs.Deformations.{inside_square, lateral_factor, modulus_factor, pressure_elongation_of, exact_pressure_elongation}
use Rattle.load_vectors.proofs.deformations.pressure_elongation.Goals as goal

inside_is : (c : goal.After-share) → to_z w128 (of_z w128 c.inside_square.result) ≡ inside_square c.args.s.now
inside_is c = let fits : FitsSigned w128 c.inside_square.result = search rules in rw (to_z-of_z fits) c.inside_square.ensures.value

wall_is : (c : goal.After-share) → to_z w128 (of_z w128 c.wall_square.result) ≡ difference_of_squares c.args.s.now false
wall_is c = let fits : FitsSigned w128 c.wall_square.result = search rules in rw (to_z-of_z fits) c.wall_square.ensures.value

lateral_is : (c : goal.After-share) → to_z w128 (of_z w128 c.lateral_factor.result) ≡ lateral_factor c.args.m.now c.args.p
lateral_is c =
    let fits : FitsSigned w128 c.lateral_factor.result = search rules in
    let nu : FitsSigned w64 c.args.m.now.nu = search rules in
    rw (to_z-of_z fits) (rw (to_z-of_z nu, to_z-of_z c.ranges.p) at c.lateral_factor.ensures.value)

modulus_is : (c : goal.After-share) → to_z w128 (of_z w128 c.modulus_factor.result) ≡ modulus_factor c.args.m.now
modulus_is c =
    let fits : FitsSigned w128 c.modulus_factor.result = search rules in
    let e : FitsSigned w64 c.args.m.now.e = search rules in
    rw (to_z-of_z fits) (rw (to_z-of_z e) at c.modulus_factor.ensures.value)

-- ---- sizes
bore_room : (length inside wall : ℤ) → length ≤ℤ pos (2 ^ 62) → inside ≤ℤ (pos 10000 *ℤ wall) → pos 0 ≤ℤ inside → (length *ℤ inside) ≤ℤ (pos (2 ^ 62 * 10000) *ℤ wall)
bore_room length inside wall high thin some =
    let first : (length *ℤ inside) ≤ℤ (pos (2 ^ 62) *ℤ inside) = le_mul inside some high in
    let second : (inside *ℤ pos (2 ^ 62)) ≤ℤ ((pos 10000 *ℤ wall) *ℤ pos (2 ^ 62)) = le_mul (pos (2 ^ 62)) (omega (arith, ints)) thin in
    let same : (pos 10000 *ℤ wall) *ℤ pos (2 ^ 62) ≡ pos (2 ^ 62 * 10000) *ℤ wall = mul_right_comm (pos 10000) wall (pos (2 ^ 62)) in
    omega (arith, int_sums, first, second, same, mul_comm inside (pos (2 ^ 62)))

pub share-bore-requires-clause-small : goal.share-bore-requires-clause-small
share-bore-requires-clause-small c =
    let fits : FitsSigned w128 c.inside_square.result = search rules in
    rw (to_z-of_z fits)
    (omega (arith, int_sums, product_most c.args.length.hi c.inside_square.result (pos (2 ^ 62)) (pos (2 ^ 42)) (omega (arith, ints)) c.inside_square.ensures.low c.requires.hi c.inside_square.ensures.high))

product_small : (bore lateral : ℤ) → bore ≤ℤ pos (2 ^ 62 * 10000) → pos 0 ≤ℤ lateral → lateral ≤ℤ pos (10 ^ 11) → (bore *ℤ lateral) ≤ℤ pos (2 ^ 120)
product_small bore lateral high low most = omega (arith, int_sums, product_most bore lateral (pos (2 ^ 62 * 10000)) (pos (10 ^ 11)) (omega (arith, ints)) low high most)

pub share-requires-clause-small : goal.share-requires-clause-small
share-requires-clause-small c =
    let fits : FitsSigned w128 c.lateral_factor.result = search rules in
    let inside_fits : FitsSigned w128 c.inside_square.result = search rules in
    let wall_fits : FitsSigned w128 c.wall_square.result = search rules in
    let thin = rw (← c.wall_square.ensures.value) at c.inside_square.ensures.thin in
    let bore = c.share-bore.ensures.hi (pos (2 ^ 62 * 10000))
    (rw (to_z-of_z inside_fits, to_z-of_z wall_fits)
    (bore_room c.args.length.hi c.inside_square.result c.wall_square.result c.requires.hi thin c.inside_square.ensures.low)) in
    rw (to_z-of_z fits) (omega (arith, int_sums, product_small c.share-bore.result.hi c.lateral_factor.result bore c.lateral_factor.ensures.low c.lateral_factor.ensures.high))

scale_most : (x m : ℤ) → x ≤ℤ pos (2 ^ 120) → pos 0 <ℤ m → x ≤ℤ (pos (2 ^ 120) *ℤ m)
scale_most x m most positive =
    let one : pos 1 ≤ℤ m = omega (arith, int_sums) in
    let more : (pos 1 *ℤ pos (2 ^ 120)) ≤ℤ (m *ℤ pos (2 ^ 120)) = le_mul (pos (2 ^ 120)) (omega (arith, ints)) one in
    omega (arith, int_sums, more, mul_comm m (pos (2 ^ 120)))

pub returns-clause-hi : goal.returns-clause-hi
returns-clause-hi c =
    let fits : FitsSigned w128 c.lateral_factor.result = search rules in
    let modulus_fits : FitsSigned w128 c.modulus_factor.result = search rules in
    let inside_fits : FitsSigned w128 c.inside_square.result = search rules in
    let wall_fits : FitsSigned w128 c.wall_square.result = search rules in
    let thin = rw (← c.wall_square.ensures.value) at c.inside_square.ensures.thin in
    let bore = c.share-bore.ensures.hi (pos (2 ^ 62 * 10000))
    (rw (to_z-of_z inside_fits, to_z-of_z wall_fits)
    (bore_room c.args.length.hi c.inside_square.result c.wall_square.result c.requires.hi thin c.inside_square.ensures.low)) in
    c.share.ensures.hi (pos (2 ^ 120))
    (rw (to_z-of_z fits, to_z-of_z modulus_fits)
    (scale_most _ c.modulus_factor.result (product_small c.share-bore.result.hi c.lateral_factor.result bore c.lateral_factor.ensures.low c.lateral_factor.ensures.high) c.modulus_factor.ensures.positive))

pub returns-clause-value : goal.returns-clause-value
unfolding pressure_elongation_of
returns-clause-value c =
    let bore = rw (inside_is c, wall_is c) at c.share-bore.ensures.value in
    rw bore (rw (lateral_is c, modulus_is c) at c.share.ensures.value)

pub returns-clause-within : goal.returns-clause-within
unfolding exact_pressure_elongation
returns-clause-within c = λ l in_l.
    let bore = rw (inside_is c, wall_is c) at c.share-bore.ensures.within in
    let within = rw (lateral_is c, modulus_is c) at c.share.ensures.within in
    within _ (bore l in_l)
