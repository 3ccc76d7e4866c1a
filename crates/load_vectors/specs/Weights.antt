-- What an element weighs, and the load of its weight on its two ends, in units of 2^-40 N and N m.
use Rattle.std.specs.Prelude.{◌*◌, ◌^◌, Bool, false, true, List, ℤ, pos, ◌-ℤ◌, ◌*ℤ◌, Result, Ok}
use Rattle.flex_interval.specs.declared.fault.IvFault.{IvFault}
use Rattle.flex_interval.specs.Ends.{Ends}
use Rattle.flex_interval.specs.Fraction.{Fraction, scaled, times}
use Rattle.flex_interval.specs.Operations.{ratio_of, mul_of}
use Rattle.lists.specs.Results.{and_then}
use Rattle.angle_table.specs.Pi.{pi_ends}
use Rattle.model_types.specs.declared.records.Case.{Case}
use Rattle.model_types.specs.declared.records.Material.{Material}
use Rattle.model_types.specs.declared.records.Section.{Section}
use Rattle.model_types.specs.declared.records.Shape.{Shape}
use Rattle.model_types.specs.declared.records.Shape.TheVariants.{Straight, Bend}
use Rattle.section_data.specs.Tube.{difference_of_squares, weight_of, exact_weight}
use Rattle.member_pairs.specs.Axes.{x_axis, y_axis, z_axis}
use Rattle.member_pairs.specs.Lengths.{length_of}
use Rattle.member_pairs.specs.Span.{Span}
use Rattle.member_pairs.specs.Vectors.{Exact, no_vector, opposite, zero_vector, negative_of, vector_of, parts_of, EnclosesVector}
use Rattle.member_pairs.specs.declared.way.Way.{Way}
use Rattle.load_vectors.specs.declared.weights.EndLoad.{EndLoad}

abbrev pub whole_vector : ℤ → ℤ → ℤ → Span
whole_vector x y z x_axis = x
whole_vector x y z y_axis = y
whole_vector x y z z_axis = z

-- the acceleration of a case, in thousandths of standard gravity
abbrev pub gravity_of : Case → Span
gravity_of c = whole_vector c.gx c.gy c.gz

-- the way from an element's first node to its second, crossed with the acceleration
abbrev pub lever_of : Way → Case → Span
lever_of d c = whole_vector ((d.y *ℤ c.gz) -ℤ (d.z *ℤ c.gy)) ((d.z *ℤ c.gx) -ℤ (d.x *ℤ c.gz)) ((d.x *ℤ c.gy) -ℤ (d.y *ℤ c.gx))

-- ---- rounded

-- a length of 2^-36 micrometre in 2^-56 m
unfoldable pub metres_of : Ends → Result Ends IvFault
metres_of length = ratio_of length (pos (2 ^ 20)) (pos (10 ^ 6))

-- the length of a chord, in 2^-56 m
unfoldable pub chord_length_of : Way → Result Ends IvFault
chord_length_of d = and_then (length_of (parts_of d)) metres_of

-- twice the radius in micrometres times half the angle: the length of an arc, in 2^-56 m
unfoldable pub arc_length_of : ℤ → Ends → Result Ends IvFault
arc_length_of radius half = ratio_of half (pos 2 *ℤ radius) (pos (10 ^ 6))

-- the length of an element along its axis
abbrev pub axis_length_of : Shape → Way → Result Ends IvFault
axis_length_of Straight d = chord_length_of d
axis_length_of (Bend r angle x y z) d = and_then (ratio_of pi_ends (pos angle) (pos 360000)) (arc_length_of r)

-- the weight per metre of the pipe, its contents and its insulation at standard gravity, in 2^-40 N/m
abbrev pub metre_weight_of : Section → Material → Result Ends IvFault
metre_weight_of s m = and_then (ratio_of pi_ends (difference_of_squares s false) (pos (2 ^ 42))) (λ area. weight_of area s m)

-- the weight of an element at standard gravity, in 2^-40 N
unfoldable pub element_weight_of : Section → Material → Shape → Way → Result Ends IvFault
element_weight_of s m shape d = and_then (metre_weight_of s m) (λ weight. and_then (axis_length_of shape d) (λ length. mul_of weight length 56))

-- a v / m
unfoldable pub shares_of : Ends → Span → ℤ → Result (List Ends) IvFault
shares_of a v m = and_then (ratio_of a (v x_axis) m) (λ x. and_then (ratio_of a (v y_axis) m) (λ y. and_then (ratio_of a (v z_axis) m) (λ z. Ok (vector_of x y z))))

-- half of the weight, for each end
abbrev pub end_force_of : Ends → Case → Result (List Ends) IvFault
end_force_of weight c = shares_of weight (gravity_of c) (pos 2000)

-- a twelfth of the weight times the way crossed with gravity, at the first node of a straight; the opposite at its second
abbrev pub straight_moment_of : Ends → Way → Case → Result (List Ends) IvFault
straight_moment_of weight d c = shares_of weight (lever_of d c) (pos (12 * 10 ^ 9))

abbrev pub turned_of : Bool → List Ends → List Ends
turned_of false v = v
turned_of true v = negative_of v

-- a bend has no end moments; `at_to` is true at the second node
abbrev pub end_moment_of : Shape → Ends → Way → Case → Bool → Result (List Ends) IvFault
end_moment_of Straight weight d c at_to = and_then (straight_moment_of weight d c) (λ moment. Ok (turned_of at_to moment))
end_moment_of (Bend r angle x y z) weight d c at_to = Ok zero_vector

-- the load of so much weight of an element on its end
unfoldable pub end_load_of : Shape → Ends → Way → Case → Bool → Result EndLoad IvFault
end_load_of shape weight d c at_to =
    and_then (end_force_of weight c) (λ force. and_then (end_moment_of shape weight d c at_to) (λ moment. Ok (record { force = force; moment = moment })))

-- ---- exact, for any value of pi in 2^-56 and any length of the chord in 2^-36 micrometre

unfoldable pub exact_metres : Fraction → Fraction
exact_metres length = scaled length (pos (2 ^ 20)) (pos (10 ^ 6))

abbrev pub exact_axis_length : Shape → Fraction → Fraction → Fraction
exact_axis_length Straight pi length = exact_metres length
exact_axis_length (Bend r angle x y z) pi length = scaled (scaled pi (pos angle) (pos 360000)) (pos 2 *ℤ r) (pos (10 ^ 6))

abbrev pub exact_element_weight : Section → Material → Shape → Fraction → Fraction → Fraction
exact_element_weight s m shape pi length = times (exact_weight pi s m) (exact_axis_length shape pi length) 56

abbrev pub exact_shares : Fraction → Span → ℤ → Exact
exact_shares x v m axis = scaled x (v axis) m

abbrev pub exact_end_force : Fraction → Case → Exact
exact_end_force weight c = exact_shares weight (gravity_of c) (pos 2000)

abbrev pub exact_turned : Bool → Exact → Exact
exact_turned false v = v
exact_turned true v = opposite v

abbrev pub exact_end_moment : Shape → Fraction → Way → Case → Bool → Exact
exact_end_moment Straight weight d c at_to = exact_turned at_to (exact_shares weight (lever_of d c) (pos (12 * 10 ^ 9)))
exact_end_moment (Bend r angle x y z) weight d c at_to = no_vector

-- the exact load of that weight lies in the intervals
pub record EnclosesEndLoad (load : EndLoad) (shape : Shape) (d : Way) (c : Case) (at_to : Bool) (weight : Fraction) : Type 0 where
  pub force : EnclosesVector load.force (exact_end_force weight c)
  pub moment : EnclosesVector load.moment (exact_end_moment shape weight d c at_to)
