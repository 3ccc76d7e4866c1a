-- What rounding outwards keeps.
use Rattle.std.specs.Prelude.{◌^◌, ℤ, pos, ◌*ℤ◌, ◌≤ℤ◌, ◌<ℤ◌}
use Rattle.flex_interval.specs.Ends.{Ends}
use Rattle.flex_interval.specs.Fraction.{Fraction, Within, scaled}
use Rattle.model_types.specs.Fits.{ends_of}
use Rattle.model_types.specs.declared.answers.Bounds.{Bounds}
use Rattle.stress_terms.specs.Combined.{EnclosesStress}
use Rattle.report.specs.Checks.{in_kilopascals, kilopascal}
use Rattle.report.specs.Report.{printed}

-- a unit that is m / n of another; n is small enough that a modest number times it fits
pub record IsScale (n m : ℤ) : Type 0 where
  pub nonnegative : pos 0 ≤ℤ n
  pub small : n ≤ℤ pos (10 ^ 9)
  pub positive : pos 0 <ℤ m

-- a number within its bounds is, in a unit that is m / n of theirs, within the printed pair
abbrev pub PrintedHolds : Type 0
PrintedHolds = (n m : ℤ) → pos 0 ≤ℤ n → pos 0 <ℤ m → (b : Bounds) (x : Fraction) → Within (ends_of b) x → Within (ends_of (printed n m b)) (scaled x n m)

-- a stress in kPa as an interval in units of 2^-16 Pa
abbrev pub in_units : Bounds → Ends
in_units p = record { lo = kilopascal *ℤ p.lo; hi = kilopascal *ℤ p.hi }

-- what bounds tell of a stress or of an allowable, the printed pair tells too
pub record PrintedStressesHold : Type 0 where
  pub stress : (b : Bounds) (a q t : Fraction) → b.lo ≤ℤ b.hi → EnclosesStress a q t (ends_of b) → EnclosesStress a q t (in_units (in_kilopascals b))
  pub allowable : (b : Bounds) (y : Fraction) → Within (ends_of b) y → Within (in_units (in_kilopascals b)) y
