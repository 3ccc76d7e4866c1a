-- The enclosure of pi that every tube value and every arc comes from.
use Rattle.std.specs.Prelude.{◌^◌, pos, ◌*ℤ◌, ◌≤ℤ◌, ◌<ℤ◌}
use Rattle.flex_interval.specs.Ends.{Ends}
use Rattle.flex_interval.specs.Fraction.{Fraction}

-- pi in 2^-56
abbrev pub pi_ends : Ends
pi_ends = record { lo = pos 226375608064910088; hi = pos 226375608064910089 }

-- x lies between pi cut after its twentieth decimal and the next number of twenty decimals
pub record IsPi (x : Fraction) : Type 0 where
  pub defined : pos 0 <ℤ x.den
  pub at_least : (pos 314159265358979323846 *ℤ x.den) ≤ℤ (x.num *ℤ pos (10 ^ 20))
  pub at_most : (x.num *ℤ pos (10 ^ 20)) ≤ℤ (pos 314159265358979323847 *ℤ x.den)
