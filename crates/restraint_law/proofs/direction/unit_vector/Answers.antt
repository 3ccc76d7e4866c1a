use Rattle.std.proofs.Common.{◌≡◌, ◌*◌, refl, to_z-of_z}
use Rattle.flex_interval.specs.Fraction.{Within}
use Rattle.member_pairs.specs.Span.{square_of}
use Rattle.restraint_law.specs.Directions.{parts, length_of, unit_vector}
use Rattle.restraint_law.proofs.DirectionLemmas.{part_fits, part_small, length_is, length_positive, parts_within}
use Rattle.restraint_law.proofs.direction.unit_vector.Goals as goal

pub unit_part-requires-clause-positive : goal.unit_part-requires-clause-positive
unit_part-requires-clause-positive c =
    let length = c.scaled_length-length in
    length_positive (square_of (parts c.args.d.now)) (2 * length.result.shift) length.result.scaled length.ensures.some length.ensures.small length.ensures.value

pub unit_part-requires-clause-small : goal.unit_part-requires-clause-small
unit_part-requires-clause-small c =
    let d = c.args.d.now in
    let length = c.scaled_length-length in
    rw (to_z-of_z (part_fits d.x c.requires.x_part)) (part_small d.x (square_of (parts d)) length.result.shift length.ensures.some (parts_within d.x d.y d.z).0 length.ensures.small)

pub unit_part-requires-2-clause-positive : goal.unit_part-requires-2-clause-positive
unit_part-requires-2-clause-positive c =
    let length = c.scaled_length-length in
    length_positive (square_of (parts c.args.d.now)) (2 * length.result.shift) length.result.scaled length.ensures.some length.ensures.small length.ensures.value

pub unit_part-requires-2-clause-small : goal.unit_part-requires-2-clause-small
unit_part-requires-2-clause-small c =
    let d = c.args.d.now in
    let length = c.scaled_length-length in
    rw (to_z-of_z (part_fits d.y c.requires.y_part)) (part_small d.y (square_of (parts d)) length.result.shift length.ensures.some (parts_within d.x d.y d.z).1 length.ensures.small)

pub unit_part-requires-3-clause-positive : goal.unit_part-requires-3-clause-positive
unit_part-requires-3-clause-positive c =
    let length = c.scaled_length-length in
    length_positive (square_of (parts c.args.d.now)) (2 * length.result.shift) length.result.scaled length.ensures.some length.ensures.small length.ensures.value

pub unit_part-requires-3-clause-small : goal.unit_part-requires-3-clause-small
unit_part-requires-3-clause-small c =
    let d = c.args.d.now in
    let length = c.scaled_length-length in
    rw (to_z-of_z (part_fits d.z c.requires.z_part)) (part_small d.z (square_of (parts d)) length.result.shift length.ensures.some (parts_within d.x d.y d.z).2 length.ensures.small)

scaled : (c : goal.After-unit_part-3) → c.scaled_length-length.result.scaled ≡ length_of (parts c.args.d.now)
scaled c =
    let length = c.scaled_length-length in
    rw length.ensures.shift at (length_is (square_of (parts c.args.d.now)) (2 * length.result.shift) length.result.scaled length.ensures.some length.ensures.small length.ensures.value)

pub returns-clause-value : goal.returns-clause-value
unfolding unit_vector
returns-clause-value c =
    let d = c.args.d.now in
    let shift = c.scaled_length-length.ensures.shift in
    let x = rw (to_z-of_z (part_fits d.x c.requires.x_part), shift, scaled c) at c.unit_part.ensures.value in
    let y = rw (to_z-of_z (part_fits d.y c.requires.y_part), shift, scaled c) at c.unit_part-2.ensures.value in
    let z = rw (to_z-of_z (part_fits d.z c.requires.z_part), shift, scaled c) at c.unit_part-3.ensures.value in
    rw (x, y, z) refl

pub returns-clause-within : goal.returns-clause-within
returns-clause-within c = λ l in_l.
    let d = c.args.d.now in
    let shift = c.scaled_length-length.ensures.shift in
    let inside : Within c.scaled_length-length.result.scaled l = rw (scaled c) in_l in
    record {
      x = λ _. (rw (to_z-of_z (part_fits d.x c.requires.x_part), shift) at c.unit_part.ensures.within) l inside;
      y = λ _. (rw (to_z-of_z (part_fits d.y c.requires.y_part), shift) at c.unit_part-2.ensures.within) l inside;
      z = λ _. (rw (to_z-of_z (part_fits d.z c.requires.z_part), shift) at c.unit_part-3.ensures.within) l inside;
    }

pub returns-clause-encloses : goal.returns-clause-encloses
returns-clause-encloses c = rw (c.scaled_length-length.ensures.shift, scaled c) at c.scaled_length-length.ensures.encloses

pub returns-clause-length : goal.returns-clause-length
returns-clause-length c = λ l exact. rw (scaled c) at (c.scaled_length-length.ensures.exact l exact)
