-- 1/h as the fraction num / den.
use Rattle.std.specs.Prelude.{◌*◌, ◌^◌, pos, ◌*ℤ◌, ◌≤ℤ◌, ◌<ℤ◌}
use Rattle.sif_factors.specs.declared.index.Inverse.{Inverse}

-- in the ranges that all bends and tees keep
pub record InverseInRange (i : Inverse) : Type 0 where
  pub low : pos 0 ≤ℤ i.num
  pub high : i.num ≤ℤ pos (4 * 10 ^ 12)
  pub positive : pos 0 <ℤ i.den
  pub den_high : i.den ≤ℤ pos (10 ^ 14)
  pub ratio : i.num ≤ℤ (pos 100000 *ℤ i.den)
