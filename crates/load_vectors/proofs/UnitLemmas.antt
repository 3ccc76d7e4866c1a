-- A part in mN or mN m in units.
use Rattle.std.proofs.Common.{◌≡◌, ◌^◌, arith, ℤ, pos, ◌*ℤ◌}
use Rattle.std.proofs.lemmas.Int.{ints}
use Rattle.int_laws.proofs.Products.{moved_below, moved_above}
use Rattle.flex_interval.specs.Ends.{Ends}
use Rattle.flex_interval.specs.Fraction.{Within, scaled, whole}
use Rattle.load_vectors.specs.NodeLoads.{in_units}

pub scaled_within : (e : Ends) (part : ℤ) → Within e (scaled (whole part) (pos (2 ^ 40)) (pos 1000)) → Within e (in_units part)
unfolding scaled whole
scaled_within e part w =
    let same : (part *ℤ pos (2 ^ 40)) *ℤ pos 1000 ≡ (pos (2 ^ 40) *ℤ part) *ℤ (pos 1 *ℤ pos 1000) = omega (arith, ints) in
    record {
      defined = omega (arith, ints);
      at_least = moved_below e.lo _ _ _ (pos 1000) w.defined (omega (arith, ints)) same w.at_least;
      at_most = moved_above e.hi _ _ _ (pos 1000) w.defined (omega (arith, ints)) same w.at_most;
    }
