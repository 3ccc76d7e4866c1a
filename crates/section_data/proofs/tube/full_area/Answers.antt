use Rattle.std.proofs.Common.{rules, ◌≡◌, false, FitsSigned, to_z, of_z, to_z-of_z}
use Rattle.std.specs.Int.{w128, w64}
use Rattle.section_data.specs.Tube.{difference_of_squares}
use Rattle.section_data.proofs.tube.full_area.Goals as goal

-- the number that the area is taken of
difference_is : (c : goal.After-area) → to_z w128 (of_z w128 c.square_difference.result) ≡ difference_of_squares c.args.s.now false
difference_is c =
    let d_fits : FitsSigned w64 c.args.s.now.d = search rules in
    let inside_fits : FitsSigned w64 c.inside_diameter.result = search rules in
    let difference_fits : FitsSigned w128 c.square_difference.result = search rules in
    rw (to_z-of_z difference_fits) (rw (to_z-of_z d_fits, to_z-of_z inside_fits, c.inside_diameter.ensures.value) at c.square_difference.ensures.value)

pub returns-clause-value : goal.returns-clause-value
returns-clause-value c = rw (difference_is c) at c.area.ensures.value

pub returns-clause-within : goal.returns-clause-within
returns-clause-within c = λ pi within. (rw (difference_is c) at c.area.ensures.within) pi within
