use Rattle.std.proofs.Common.{refl, ◌*ℤ◌, to_z-of_z}
use Rattle.model_types.specs.Ranges.{IsIn, of_size}
use Rattle.load_vectors.proofs.WeightLemmas.{product_in_range, product_fits, difference_fits, difference_size}
use Rattle.load_vectors.proofs.weights.lever.Goals as goal

first : (c : goal.Start) → IsIn (of_size 300000000000) (c.args.first *ℤ c.args.g)
first c = product_in_range c.args.first c.args.g c.requires.first c.requires.g

second : (c : goal.Start) → IsIn (of_size 300000000000) (c.args.second *ℤ c.args.h)
second c = product_in_range c.args.second c.args.h c.requires.second c.requires.h

pub overflow_sub-result : goal.overflow_sub-result
overflow_sub-result c =
    rw (to_z-of_z c.ranges.first, to_z-of_z c.ranges.g, to_z-of_z c.ranges.second, to_z-of_z c.ranges.h, to_z-of_z (product_fits _ (first c)), to_z-of_z (product_fits _ (second c)))
    (difference_fits _ _ (first c) (second c))

pub returns-clause-value : goal.returns-clause-value
returns-clause-value c =
    rw (to_z-of_z c.ranges.first, to_z-of_z c.ranges.g, to_z-of_z c.ranges.second, to_z-of_z c.ranges.h, to_z-of_z (product_fits _ (first c)), to_z-of_z (product_fits _ (second c)), to_z-of_z (difference_fits _ _ (first c) (second c)))
    refl

pub returns-clause-size : goal.returns-clause-size
returns-clause-size c =
    rw (to_z-of_z c.ranges.first, to_z-of_z c.ranges.g, to_z-of_z c.ranges.second, to_z-of_z c.ranges.h, to_z-of_z (product_fits _ (first c)), to_z-of_z (product_fits _ (second c)), to_z-of_z (difference_fits _ _ (first c) (second c)))
    (difference_size _ _ (first c) (second c))
