use Rattle.std.proofs.Common.{◌≤ℤ◌, ◌*ℤ◌, ◌^◌, pos, ℤ, arith, rules}
use Rattle.std.proofs.lemmas.Int.{ints}
use Rattle.int_laws.proofs.Sums.{int_sums}
use Rattle.int_laws.proofs.Products.{product_most}
use Rattle.load_vectors.proofs.MetreLemmas.{metre_bounds}
use Rattle.load_vectors.proofs.weights.element_weight.Goals as goal

pub small_product-requires-clause-a_lo : goal.small_product-requires-clause-a_lo
small_product-requires-clause-a_lo c = (metre_bounds c.args.s.now c.args.m.now c.section-values.result.weight c.requires.tube c.requires.material c.section-values.ensures.weight).lo

product_hi : (w l lo : ℤ) → w ≤ℤ pos (2 ^ 62) → pos 0 ≤ℤ lo → lo ≤ℤ l → l ≤ℤ pos (2 ^ 62) → (w *ℤ l) ≤ℤ pos (2 ^ 124)
product_hi w l lo first low ordered second = omega (arith, int_sums, product_most w l (pos (2 ^ 62)) (pos (2 ^ 62)) (omega (arith, ints)) (omega (arith, int_sums)) first second)

pub small_product-requires-clause-small : goal.small_product-requires-clause-small
small_product-requires-clause-small c =
    let weight = metre_bounds c.args.s.now c.args.m.now c.section-values.result.weight c.requires.tube c.requires.material c.section-values.ensures.weight in
    let length = c.axis_length.ensures in
    omega (arith, int_sums, product_hi c.section-values.result.weight.hi c.axis_length.result.hi c.axis_length.result.lo weight.hi length.lo (search rules) length.hi)

pub returns-clause-hi : goal.returns-clause-hi
returns-clause-hi c =
    let weight = metre_bounds c.args.s.now c.args.m.now c.section-values.result.weight c.requires.tube c.requires.material c.section-values.ensures.weight in
    let length = c.axis_length.ensures in
    c.small_product.ensures.hi (pos (2 ^ 68))
    (omega (arith, int_sums, product_hi c.section-values.result.weight.hi c.axis_length.result.hi c.axis_length.result.lo weight.hi length.lo (search rules) length.hi))
