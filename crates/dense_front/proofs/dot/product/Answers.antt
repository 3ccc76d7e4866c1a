use Rattle.std.proofs.Common.{refl, arith, ◌*ℤ◌}
use Rattle.dense_front.proofs.CastLemmas.{fits_wide, wide_is, widened_is, product_small}
use Rattle.dense_front.proofs.dot.product.Goals as goal

pub overflow_mul-result : goal.overflow_mul-result
overflow_mul-result c =
    rw (widened_is c.args.x c.requires.x_small, widened_is c.args.y c.requires.y_small)
    (fits_wide (c.args.x *ℤ c.args.y) (omega (arith, product_small c.args.x c.args.y c.requires.x_small c.requires.y_small)))

pub returns : goal.returns
returns c =
    let small = product_small c.args.x c.args.y c.requires.x_small c.requires.y_small in
    rw (widened_is c.args.x c.requires.x_small, widened_is c.args.y c.requires.y_small)
    (rw (wide_is (c.args.x *ℤ c.args.y) (omega (arith, small))) record { value = refl; small = small })
