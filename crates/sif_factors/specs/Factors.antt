-- The factors of a bend and of a tee: what encloses them, and their intervals.
use Rattle.std.specs.Prelude.{◌^◌, ℤ, pos, ◌+ℤ◌, ◌*ℤ◌, ◌≤ℤ◌, int_le, Result, Ok, if◌then◌else◌}
use Rattle.flex_interval.specs.Ends.{Ends}
use Rattle.flex_interval.specs.Fraction.{Fraction, whole, greater, over}
use Rattle.flex_interval.specs.declared.fault.IvFault.{IvFault}
use Rattle.flex_interval.specs.Operations.{point_of}
use Rattle.lists.specs.Results.{and_then}
use Rattle.model_types.specs.declared.records.Section.{Section}
use Rattle.model_types.specs.declared.records.TeeKind.{TeeKind}
use Rattle.model_types.specs.declared.records.TeeKind.TheVariants.{Unreinforced, Pad, Coefficient}
use Rattle.sif_factors.specs.Parts.{fraction, cubed}
use Rattle.sif_factors.specs.Characteristic.{mean_diameter}
use Rattle.sif_factors.specs.Rounded.{inverse_square_of, padded_of, index_of, in_plane_index_of, flexibility_factor_of}
use Rattle.sif_factors.specs.declared.Factors.{Factors}

-- k = max(1, 1.65/h) in 2^-56
abbrev pub flexibility_factor : Fraction → Fraction
flexibility_factor h = greater (over (fraction (pos 165) (pos 100)) h 56) (whole (pos (2 ^ 56)))

-- the cubes of 0.9, in plane at a bend and out of plane at a tee, and of 0.75, out of plane at a bend
abbrev pub greater_cube : Fraction
greater_cube = cubed (fraction (pos 9) (pos 10))

abbrev pub lesser_cube : Fraction
lesser_cube = cubed (fraction (pos 3) (pos 4))

-- a factor's interval runs from 0 on, and to 2^75 at most
pub record IsFactor (e : Ends) : Type 0 where
  pub low : pos 0 ≤ℤ e.lo
  pub high : e.hi ≤ℤ pos (2 ^ 75)

pub record AreFactors (f : Factors) : Type 0 where
  pub k : IsFactor f.k
  pub ii : IsFactor f.ii
  pub io : IsFactor f.io

-- the indices are 1 at least
pub record AreFromOne (f : Factors) : Type 0 where
  pub ii : pos (2 ^ 30) ≤ℤ f.ii.lo
  pub io : pos (2 ^ 30) ≤ℤ f.io.lo

-- the factors of a bend of radius r
unfoldable pub bend_factors_of : Section → ℤ → Result Factors IvFault
bend_factors_of s r =
    and_then (flexibility_factor_of (mean_diameter s *ℤ mean_diameter s) (pos 4 *ℤ (s.t *ℤ r))) (λ k.
    and_then (inverse_square_of (mean_diameter s *ℤ mean_diameter s) (pos 4 *ℤ (s.t *ℤ r))) (λ v.
    and_then (index_of v (pos 729) (pos 1000)) (λ ii. and_then (index_of v (pos 27) (pos 64)) (λ io.
    Ok (record { k = k; ii = ii; io = io })))))

-- 1/h^2 of a tee in 2^-40
unfoldable pub tee_inverse_square_of : Section → TeeKind → Result Ends IvFault
tee_inverse_square_of s Unreinforced = inverse_square_of (mean_diameter s) (pos 2 *ℤ s.t)
tee_inverse_square_of s (Pad p) =
    if int_le (pos 2 *ℤ p) (pos 3 *ℤ s.t) then padded_of (pos 2 *ℤ s.t) (pos 2 *ℤ s.t +ℤ p) (mean_diameter s) (pos 2 *ℤ s.t +ℤ p)
    else inverse_square_of (mean_diameter s) (pos 8 *ℤ s.t)
tee_inverse_square_of s (Coefficient c) = inverse_square_of (pos 500 *ℤ mean_diameter s) (c *ℤ s.t)

-- the factors of a tee
unfoldable pub tee_factors_of : Section → TeeKind → Result Factors IvFault
tee_factors_of s kind =
    and_then (tee_inverse_square_of s kind) (λ v. and_then (index_of v (pos 729) (pos 1000)) (λ io. and_then (in_plane_index_of io) (λ ii.
    Ok (record { k = point_of (pos (2 ^ 56)); ii = ii; io = io }))))
