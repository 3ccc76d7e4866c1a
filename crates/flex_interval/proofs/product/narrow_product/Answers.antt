use Rattle.std.proofs.Common.{refl, ◌*ℤ◌, FitsSigned, to_z-of_z}
use Rattle.std.specs.Int.{w128}
use Rattle.flex_interval.proofs.EndsLemmas.{small_fits}
use Rattle.flex_interval.proofs.ProductLemmas.{narrow_small}
use Rattle.flex_interval.proofs.product.narrow_product.Goals as goal

pub returns-clause-value : goal.returns-clause-value
returns-clause-value c =
    let fits : FitsSigned w128 (c.args.x *ℤ c.args.y) = small_fits (narrow_small c.args.x c.args.y c.requires.x c.requires.y) in
    rw (to_z-of_z c.ranges.x, to_z-of_z c.ranges.y, to_z-of_z fits) refl

pub returns-clause-size : goal.returns-clause-size
returns-clause-size c = rw (returns-clause-value c) (narrow_small c.args.x c.args.y c.requires.x c.requires.y)
