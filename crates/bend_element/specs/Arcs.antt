-- The arc of a bend: its radius, half of its angle, and its flexibility factor.
use Rattle.std.specs.Prelude.{◌≡◌, ℤ}
use Rattle.flex_interval.specs.Fraction.{Fraction, Within}
use Rattle.model_types.specs.Ranges.{IsIn, from_to}
use Rattle.bend_element.specs.declared.arc.Arc.{Arc}

-- an arc with a radius in range
pub record IsArc (arc : Arc) : Type 0 where
  pub radius : IsIn (from_to 1000 15000000) arc.radius

-- an arc read exactly: its radius R in micrometres; half of its angle with any numbers for its sine and cosine, and the
-- flexibility factor k, in 2^-56
pub record ExactArc : Type 0 where
  pub radius : ℤ
  pub a : Fraction
  pub sin : Fraction
  pub cos : Fraction
  pub k : Fraction

-- each of them lies in its interval
pub record EnclosesArc (arc : Arc) (x : ExactArc) : Type 0 where
  pub radius : arc.radius ≡ x.radius
  pub a : Within arc.a x.a
  pub sin : Within arc.sin x.sin
  pub cos : Within arc.cos x.cos
  pub k : Within arc.k x.k
