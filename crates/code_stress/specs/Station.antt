-- The stress of a station (ASME B31.3-2016, 319.4.4, 320.2): what it is taken with, and its parts.
use Rattle.std.specs.Prelude.{◌^◌, Bool, List, Option, Some, None, is_some, ℤ, pos, ◌≤ℤ◌, ◌<ℤ◌, Result}
use Rattle.lists.specs.Results.{and_then}
use Rattle.flex_interval.specs.Ends.{Ends}
use Rattle.flex_interval.specs.Fraction.{Fraction, Within, plus, times}
use Rattle.flex_interval.specs.declared.fault.IvFault.{IvFault}
use Rattle.flex_interval.specs.Operations.{add_of}
use Rattle.section_data.specs.declared.SectionIv.{SectionIv}
use Rattle.member_pairs.specs.Vectors.{Exact, EnclosesVector}
use Rattle.stress_terms.specs.Terms.{axial, axial_stress_of}
use Rattle.stress_terms.specs.Combined.{combined_of}
use Rattle.code_stress.specs.Action.{force_vector_of, moment_vector_of, EnclosesForce, EnclosesMoment, inner_product, inner_product_of}
use Rattle.code_stress.specs.Direct.{HasInside, with_pressure, with_pressure_of}
use Rattle.code_stress.specs.Bend.{in_plane, in_plane_stress_of, out_of_plane, out_of_plane_stress_of}
use Rattle.code_stress.specs.Straight.{about, about_of, straight_square, straight_square_of}
use Rattle.code_stress.specs.declared.station.StationData.{StationData}

-- section values above 0, and indices from 1 on
pub record StationInForm (s : StationData) : Type 0 where
  pub inside : HasInside s.section
  pub area : pos 0 <ℤ s.section.area.lo
  pub modulus : pos 0 <ℤ s.section.modulus.lo
  pub bending : pos 0 <ℤ s.bending.lo
  pub ii : pos (2 ^ 30) ≤ℤ s.ii.lo
  pub io : pos (2 ^ 30) ≤ℤ s.io.lo

-- ---- exact

-- the numbers that the intervals of a station stand for
pub record ExactStation : Type 0 where
  pub force : Exact
  pub moment : Exact
  pub tangent : Exact
  pub normal : Option Exact
  pub area : Fraction
  pub modulus : Fraction
  pub bending : Fraction
  pub ii : Fraction
  pub io : Fraction

-- both have a normal, which lies in its intervals, or neither has one
abbrev pub EnclosesNormal : Option (List Ends) → Option Exact → Type 0
EnclosesNormal (Some v) (Some n) = EnclosesVector v n
EnclosesNormal None None = Unit {0}
EnclosesNormal _ _ = ⊥

-- each number lies in its interval
pub record EnclosesStation (f : List Ends) (s : StationData) (x : ExactStation) : Type 0 where
  pub force : EnclosesForce f x.force
  pub moment : EnclosesMoment f x.moment
  pub tangent : EnclosesVector s.tangent x.tangent
  pub normal : EnclosesNormal s.normal x.normal
  pub area : Within s.section.area x.area
  pub modulus : Within s.section.modulus x.modulus
  pub bending : Within s.bending x.bending
  pub ii : Within s.ii x.ii
  pub io : Within s.io x.io

-- |Sa|, with the stress of the pressure where there is one
abbrev pub direct_stress : ExactStation → SectionIv → Option ℤ → Fraction
direct_stress x section pressure = with_pressure (axial (inner_product x.force x.tangent) x.area) section pressure

-- Sb^2 at a bend or tee with this normal: ((ii Mi)^2 + (io Mo)^2) / Z^2
unfoldable pub plane_square : ExactStation → Exact → Bool → Fraction
plane_square x normal sustained = plus
    (times (in_plane x.moment normal x.ii x.bending sustained) (in_plane x.moment normal x.ii x.bending sustained) 0)
    (times (out_of_plane x.moment normal x.tangent x.io x.bending sustained) (out_of_plane x.moment normal x.tangent x.io x.bending sustained) 0)

abbrev pub square_by_normal : Option Exact → ExactStation → Bool → Fraction
square_by_normal (Some normal) x sustained = plane_square x normal sustained
square_by_normal None x sustained = straight_square x.moment x.tangent x.modulus

-- Sb^2
abbrev pub bending_stress_square : ExactStation → Bool → Fraction
bending_stress_square x sustained = square_by_normal x.normal x sustained

-- 2 |St|, which is |Mt| / Z
abbrev pub torsion_stress : ExactStation → Fraction
torsion_stress x = about x.moment x.tangent x.modulus

-- ---- rounded
unfoldable pub direct_stress_of : List Ends → StationData → Option ℤ → Result Ends IvFault
direct_stress_of force s pressure =
    and_then (inner_product_of force s.tangent) (λ along. and_then (axial_stress_of along s.section.area) (λ stress. with_pressure_of stress s.section pressure))

unfoldable pub plane_square_of : List Ends → List Ends → StationData → Bool → Result Ends IvFault
plane_square_of moment normal s sustained =
    and_then (in_plane_stress_of moment normal s.ii s.bending sustained) (λ inside. and_then (out_of_plane_stress_of moment normal s.tangent s.io s.bending sustained) (λ outside. add_of inside outside))

abbrev pub square_by_normal_of : Option (List Ends) → List Ends → StationData → Bool → Result Ends IvFault
square_by_normal_of (Some normal) moment s sustained = plane_square_of moment normal s sustained
square_by_normal_of None moment s sustained = straight_square_of moment s.tangent s.section.modulus

abbrev pub bending_stress_square_of : List Ends → StationData → Bool → Result Ends IvFault
bending_stress_square_of moment s sustained = square_by_normal_of s.normal moment s sustained

-- the stress of a station under a force and a moment, with the pressure of a sustained or occasional one
unfoldable pub station_stress_of : List Ends → StationData → Option ℤ → Result Ends IvFault
station_stress_of f s pressure =
    and_then (direct_stress_of (force_vector_of f) s pressure) (λ direct. and_then (bending_stress_square_of (moment_vector_of f) s (is_some pressure)) (λ bending.
    and_then (about_of (moment_vector_of f) s.tangent s.section.modulus) (λ torsion. combined_of direct bending torsion)))
