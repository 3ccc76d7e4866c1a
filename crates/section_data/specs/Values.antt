-- The section values of a pipe, operation by operation.
use Rattle.std.specs.Prelude.{◌^◌, Bool, false, ℤ, pos, ◌*ℤ◌, Result, Ok}
use Rattle.angle_table.specs.Pi.{pi_ends}
use Rattle.flex_interval.specs.Ends.{Ends}
use Rattle.flex_interval.specs.Operations.{ratio_of}
use Rattle.flex_interval.specs.declared.fault.IvFault.{IvFault}
use Rattle.lists.specs.Results.{and_then}
use Rattle.model_types.specs.declared.records.Section.{Section}
use Rattle.model_types.specs.declared.records.Material.{Material}
use Rattle.section_data.specs.declared.SectionIv.{SectionIv}
use Rattle.section_data.specs.Tube.{difference_of_squares, square_sum, weight_of}

-- the area between two circles, by the difference of their squared diameters
abbrev pub area_of : ℤ → Result Ends IvFault
area_of difference = ratio_of pi_ends difference (pos (2 ^ 42))

-- the section values of a pipe of this section and material, with the full wall or the one less its allowance, but for the weight
unfoldable pub values_of : Section → Material → Bool → Result SectionIv IvFault
values_of s m reduced =
    and_then (area_of (difference_of_squares s reduced)) (λ area.
    and_then (ratio_of area (square_sum s reduced) (pos 8 *ℤ s.d)) (λ modulus.
    and_then (area_of (difference_of_squares s false)) (λ full.
    and_then (weight_of full s m) (λ weight.
    Ok (record { x = difference_of_squares s reduced; y = square_sum s reduced; area = area; modulus = modulus; weight = weight })))))
