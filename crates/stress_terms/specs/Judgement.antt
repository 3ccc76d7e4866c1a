-- The verdict on a station: its stress against its allowable. Squares are compared, as in the enclosure of a stress.
use Rattle.std.specs.Prelude.{◌≡◌, ◌*ℤ◌, ◌≤ℤ◌, ◌<ℤ◌, int_le, int_lt, if◌then◌else◌}
use Rattle.flex_interval.specs.Ends.{Ends}
use Rattle.flex_interval.specs.Fraction.{Fraction, Within, times}
use Rattle.flex_interval.specs.Roots.{IsNonnegative}
use Rattle.stress_terms.specs.Combined.{IsAtMost, combined_square, EnclosesStress}
use Rattle.stress_terms.specs.declared.judgement.Verdict.{Verdict}
use Rattle.stress_terms.specs.declared.judgement.Verdict.TheVariants.{Pass, Fail, Undecided}

-- by the ends: wholly at most the allowable, wholly over it, or neither
abbrev pub verdict_of : Ends → Ends → Verdict
verdict_of stress allowable = if int_le stress.hi allowable.lo then Pass else (if int_lt allowable.hi stress.lo then Fail else Undecided)

-- the stress by |Sa|, Sb^2 and 2 |St| is at most y
abbrev pub IsStressAtMost : Fraction → Fraction → Fraction → Fraction → Type 0
IsStressAtMost axial bending_stress_square torsion y =
    (b : Fraction) → IsNonnegative b → IsAtMost (times b b 0) bending_stress_square → IsAtMost (combined_square axial b torsion) (times y y 0)

-- x < y, for positive denominators
abbrev pub IsLess : Fraction → Fraction → Type 0
IsLess x y = (x.num *ℤ y.den) <ℤ (y.num *ℤ x.den)

-- the stress is over y
abbrev pub IsStressAbove : Fraction → Fraction → Fraction → Fraction → Type 0
IsStressAbove axial bending_stress_square torsion y =
    (b : Fraction) → IsNonnegative b → IsAtMost bending_stress_square (times b b 0) → IsLess (times y y 0) (combined_square axial b torsion)

-- a verdict is true of each stress and each allowable that the ends enclose, the ends of the stress in order
pub record VerdictsHold : Type 0 where
  pub pass : (stress allowable : Ends) → stress.lo ≤ℤ stress.hi → verdict_of stress allowable ≡ Pass
      → (a q t y : Fraction) → EnclosesStress a q t stress → Within allowable y → IsStressAtMost a q t y
  pub fail : (stress allowable : Ends) → stress.lo ≤ℤ stress.hi → verdict_of stress allowable ≡ Fail
      → (a q t y : Fraction) → EnclosesStress a q t stress → Within allowable y → IsNonnegative y → IsStressAbove a q t y
