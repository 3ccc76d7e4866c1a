-- The eight members of a straight, read exactly: for any value of pi and any length, with no rounding.
use Rattle.std.specs.Prelude.{◌^◌, ◌*◌, pos}
use Rattle.flex_interval.specs.Fraction.{Fraction, whole, negated, scaled, over, minus}
use Rattle.member_pairs.specs.Axes.{Axis, Motion, translation, rotation, End, from_end, to_end, where_equal}
use Rattle.member_pairs.specs.Lengths.{tangent, half_length}
use Rattle.member_pairs.specs.Span.{Span, square_of}
use Rattle.member_pairs.specs.Tubes.{tube_load, divisor_of}
use Rattle.member_pairs.specs.Vectors.{crossed}
use Rattle.member_pairs.specs.declared.tube.Tube.{Tube}

-- the eight ways in which a straight gives: along the axis, about it, in bending about each axis of space, and in shear
pub data Mode : Type 0 where
  axial : Mode
  torsion : Mode
  bending : Axis → Mode
  shear : Axis → Mode

-- ---- stiffnesses, in units of 2^-20 N/m

-- EA/L
unfoldable pub axial_stiffness : Tube → Fraction → Fraction → Fraction
axial_stiffness tube pi length = over (scaled pi (tube_load tube) (pos 1)) (scaled length (pos 4) (pos 1)) 0

-- EI/L
unfoldable pub bending_stiffness : Tube → Fraction → Fraction → Fraction
bending_stiffness tube pi length = scaled (axial_stiffness tube pi length) tube.square_sum (pos (16 * 10 ^ 12))

-- GJ/L
unfoldable pub torsion_stiffness : Tube → Fraction → Fraction → Fraction
torsion_stiffness tube pi length = scaled (bending_stiffness tube pi length) (pos 1000) (divisor_of tube)

-- 12EI/L^3
unfoldable pub shear_stiffness : Tube → Span → Fraction → Fraction → Fraction
shear_stiffness tube d pi length = scaled (bending_stiffness tube pi length) (pos (12 * 10 ^ 12)) (square_of d)

abbrev pub stiffness_of : Tube → Span → Fraction → Fraction → Mode → Fraction
stiffness_of tube d pi length axial = axial_stiffness tube pi length
stiffness_of tube d pi length torsion = torsion_stiffness tube pi length
stiffness_of tube d pi length (bending _) = bending_stiffness tube pi length
stiffness_of tube d pi length (shear _) = shear_stiffness tube d pi length

-- ---- shape vectors, in units of 2^-56

-- the part along `k` of the lever arm of shear `e`, taken at the middle of the length: half of `L e - d t_e`
unfoldable pub lever_arm : Span → Fraction → Axis → Axis → Fraction
lever_arm d length e k =
    let along : Fraction = scaled (tangent d length e) (d k) (pos (2 * 10 ^ 6)) in
    where_equal (minus (half_length length) along) (negated along) e k

-- against the axis at FROM, along it at TO
abbrev pub signed : End → Fraction → Fraction
signed from_end part = negated part
signed to_end part = part

abbrev pub shape_of : Span → Fraction → Mode → End → Motion → Axis → Fraction
shape_of d length axial end translation i = signed end (tangent d length i)
shape_of d length axial end rotation i = whole (pos 0)
shape_of d length torsion end translation i = whole (pos 0)
shape_of d length torsion end rotation i = signed end (tangent d length i)
shape_of d length (bending e) end translation i = whole (pos 0)
shape_of d length (bending e) end rotation i = signed end (crossed (tangent d length) e i)
shape_of d length (shear e) end translation i = signed end (crossed (tangent d length) e i)
shape_of d length (shear e) end rotation i = lever_arm d length e i
