-- The flexibility characteristic h of bends and tees (ASME B31.3-2016, Appendix D, Table D300), by the wall T and the mean radius r2 of the pipe.
use Rattle.std.specs.Prelude.{ℤ, pos, ◌+ℤ◌, ◌-ℤ◌, ◌*ℤ◌, ◌≤ℤ◌, ◌<ℤ◌, int_le, if◌then◌else◌}
use Rattle.int_laws.specs.Powers.{power}
use Rattle.flex_interval.specs.Fraction.{Fraction}
use Rattle.model_types.specs.declared.records.Section.{Section}
use Rattle.model_types.specs.declared.records.TeeKind.{TeeKind}
use Rattle.model_types.specs.declared.records.TeeKind.TheVariants.{Unreinforced, Pad, Coefficient}
use Rattle.model_types.specs.Ranges.{SectionInForm, IsIn, from_to}
use Rattle.sif_factors.specs.Parts.{fraction, squared}

-- a section whose numbers are in range, with a bore
pub record HasBore (s : Section) : Type 0 where
  pub form : SectionInForm s
  pub bore : (pos 2 *ℤ s.t) <ℤ s.d

-- a bend radius in range, and not below half of the outside diameter
pub record IsBendRadius (s : Section) (r : ℤ) : Type 0 where
  pub range : IsIn (from_to 1000 15000000) r
  pub room : s.d ≤ℤ (pos 2 *ℤ r)

-- 2 r2 = D - T
abbrev pub mean_diameter : Section → ℤ
mean_diameter s = s.d -ℤ s.t

-- h = T R / r2^2 of a bend of radius R
abbrev pub bend_characteristic : Section → ℤ → Fraction
bend_characteristic s r = fraction (pos 4 *ℤ (s.t *ℤ r)) (mean_diameter s *ℤ mean_diameter s)

-- h^2 of a tee with a pad of thickness p up to 1.5 T: h = (T + p/2)^2.5 / (T^1.5 r2)
abbrev pub thin_pad_square : Section → ℤ → Fraction
thin_pad_square s p = fraction (power (pos 2 *ℤ s.t +ℤ p) 5) (power (pos 2 *ℤ s.t) 3 *ℤ (mean_diameter s *ℤ mean_diameter s))

-- h^2 of a tee: unreinforced, h = T / r2; with a thicker pad, h = 4 T / r2; by a coefficient c in thousandths, h = c T / r2
abbrev pub tee_square : Section → TeeKind → Fraction
tee_square s Unreinforced = squared (fraction (pos 2 *ℤ s.t) (mean_diameter s))
tee_square s (Pad p) =
    if int_le (pos 2 *ℤ p) (pos 3 *ℤ s.t) then thin_pad_square s p else squared (fraction (pos 8 *ℤ s.t) (mean_diameter s))
tee_square s (Coefficient c) = squared (fraction (c *ℤ s.t) (pos 500 *ℤ mean_diameter s))
