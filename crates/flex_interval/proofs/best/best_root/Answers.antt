use Rattle.std.proofs.Common.{rules, ◌≡◌, ◌*◌, ◌^◌, arith, pos, to_z-of_z}
use Rattle.std.proofs.lemmas.Int.{ints}
use Rattle.int_laws.proofs.Products.{mul_nonnegative}
use Rattle.flex_interval.specs.Operations.{point_of, shifted_of, sqrt_of}
use Rattle.flex_interval.proofs.SmallRatios.{product_is}
use Rattle.flex_interval.proofs.best.best_root.Goals as goal

answer : (c : goal.After-root) → c.root.result ≡ sqrt_of (point_of c.args.n) (2 * c.half_shift-shift.result)
answer c = rw (c.point.ensures.value, to_z-of_z c.ranges.n) at c.root.ensures.value

pub unwrap-requires : goal.unwrap-requires
unfolding sqrt_of shifted_of
unwrap-requires c =
    let best = rw (to_z-of_z c.ranges.n) at c.half_shift-shift.ensures.best in
    let from_zero = mul_nonnegative c.args.n (pos (2 ^ (2 * c.half_shift-shift.result))) (omega (arith, ints)) (omega (arith, ints)) in
    rw (answer c, product_is c.args.n (pos (2 ^ (2 * c.half_shift-shift.result))) (omega (arith, ints, best.below))) (search rules)
