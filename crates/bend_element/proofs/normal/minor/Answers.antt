use Rattle.std.proofs.Common.{refl, ◌-ℤ◌, ◌*ℤ◌, to_z-of_z}
use Rattle.model_types.specs.Ranges.{IsIn, of_size}
use Rattle.bend_element.proofs.NormalLemmas.{product_in_range, product_fits, difference_in_range, part_fits}
use Rattle.bend_element.proofs.normal.minor.Goals as goal

first : (c : goal.Start) → IsIn (of_size 3000000000000000) (c.args.a *ℤ c.args.b)
first c = product_in_range c.args.a c.args.b c.requires.a c.requires.b

second : (c : goal.Start) → IsIn (of_size 3000000000000000) (c.args.c *ℤ c.args.d)
second c = product_in_range c.args.c c.args.d c.requires.c c.requires.d

in_range : (c : goal.Start) → IsIn (of_size 6000000000000000) ((c.args.a *ℤ c.args.b) -ℤ (c.args.c *ℤ c.args.d))
in_range c = difference_in_range _ _ (first c) (second c)

pub overflow_sub-result : goal.overflow_sub-result
overflow_sub-result c =
    rw (to_z-of_z c.ranges.a, to_z-of_z c.ranges.b, to_z-of_z c.ranges.c, to_z-of_z c.ranges.d, to_z-of_z (product_fits _ (first c)), to_z-of_z (product_fits _ (second c)))
    (part_fits _ (in_range c))

pub returns : goal.returns
returns c =
    rw (to_z-of_z c.ranges.a, to_z-of_z c.ranges.b, to_z-of_z c.ranges.c, to_z-of_z c.ranges.d, to_z-of_z (product_fits _ (first c)), to_z-of_z (product_fits _ (second c)), to_z-of_z (part_fits _ (in_range c)))
    record { value = refl; size = in_range c }
