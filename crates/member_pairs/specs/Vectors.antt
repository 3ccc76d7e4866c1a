-- Vectors by their three parts.
use Rattle.std.specs.Prelude.{List, [], ◌∷◌, slice_index_or, pos, ◌-ℤ◌, ◌≤ℤ◌, ◌<ℤ◌, Result, Ok}
use Rattle.flex_interval.specs.Ends.{Ends}
use Rattle.flex_interval.specs.declared.fault.IvFault.{IvFault}
use Rattle.flex_interval.specs.Fraction.{Fraction, Within, whole, negated, times, plus, minus}
use Rattle.flex_interval.specs.Operations.{neg_of, add_of, sub_of, mul_of}
use Rattle.lists.specs.Results.{and_then}
use Rattle.member_set.specs.Members.{nothing}
use Rattle.model_types.specs.declared.records.Node.{Node}
use Rattle.model_types.specs.Ranges.{IsIn, of_size}
use Rattle.member_pairs.specs.Axes.{Axis, x_axis, y_axis, z_axis, axis_number}
use Rattle.member_pairs.specs.Span.{Span, square_of}
use Rattle.member_pairs.specs.declared.way.Way.{Way}

-- ---- the way from an element's first node to its second, in micrometres
abbrev pub way_of : Node → Node → Way
way_of from to = record { x = to.x -ℤ from.x; y = to.y -ℤ from.y; z = to.z -ℤ from.z }

abbrev pub parts_of : Way → Span
parts_of d x_axis = d.x
parts_of d y_axis = d.y
parts_of d z_axis = d.z

-- a way that an element may run: not 0, and at most 30 m
pub record IsWay (d : Way) : Type 0 where
  pub x : IsIn (of_size 30000000) d.x
  pub y : IsIn (of_size 30000000) d.y
  pub z : IsIn (of_size 30000000) d.z
  pub not_zero : pos 0 <ℤ square_of (parts_of d)
  pub short : square_of (parts_of d) ≤ℤ pos 900000000000000

-- ---- vectors of numbers
abbrev pub Exact : Type 0
Exact = Axis → Fraction

abbrev pub no_vector : Exact
no_vector i = whole (pos 0)

abbrev pub opposite : Exact → Exact
opposite v i = negated (v i)

-- the cross products of t with the axes
abbrev pub crossed : Exact → Axis → Exact
crossed t x_axis x_axis = whole (pos 0)
crossed t x_axis y_axis = t z_axis
crossed t x_axis z_axis = negated (t y_axis)
crossed t y_axis x_axis = negated (t z_axis)
crossed t y_axis y_axis = whole (pos 0)
crossed t y_axis z_axis = t x_axis
crossed t z_axis x_axis = t y_axis
crossed t z_axis y_axis = negated (t x_axis)
crossed t z_axis z_axis = whole (pos 0)

-- the cross product, in 2^-56 for factors in 2^-56
abbrev pub cross : Exact → Exact → Exact
cross u v x_axis = minus (times (u y_axis) (v z_axis) 56) (times (u z_axis) (v y_axis) 56)
cross u v y_axis = minus (times (u z_axis) (v x_axis) 56) (times (u x_axis) (v z_axis) 56)
cross u v z_axis = minus (times (u x_axis) (v y_axis) 56) (times (u y_axis) (v x_axis) 56)

-- x v, in 2^-56 for factors in 2^-56
abbrev pub stretched : Fraction → Exact → Exact
stretched x v i = times x (v i) 56

abbrev pub total : Exact → Exact → Exact
total u v i = plus (u i) (v i)

abbrev pub difference : Exact → Exact → Exact
difference u v i = minus (u i) (v i)

-- ---- vectors of intervals: lists of three
abbrev pub part : List Ends → Axis → Ends
part v i = slice_index_or v (axis_number i) nothing

-- the vector of these parts
abbrev pub vector_of : Ends → Ends → Ends → List Ends
vector_of x y z = x ∷ y ∷ z ∷ []

abbrev pub zero_vector : List Ends
zero_vector = vector_of nothing nothing nothing

abbrev pub negative_of : List Ends → List Ends
negative_of v = vector_of (neg_of (part v x_axis)) (neg_of (part v y_axis)) (neg_of (part v z_axis))

abbrev pub crossed_of : List Ends → Axis → List Ends
crossed_of t x_axis = vector_of nothing (part t z_axis) (neg_of (part t y_axis))
crossed_of t y_axis = vector_of (neg_of (part t z_axis)) nothing (part t x_axis)
crossed_of t z_axis = vector_of (part t y_axis) (neg_of (part t x_axis)) nothing

-- a b - c d
unfoldable pub product_difference_of : Ends → Ends → Ends → Ends → Result Ends IvFault
product_difference_of a b c d = and_then (mul_of a b 56) (λ p. and_then (mul_of c d 56) (λ q. sub_of p q))

-- the cross product
unfoldable pub cross_of : List Ends → List Ends → Result (List Ends) IvFault
cross_of u v =
    and_then (product_difference_of (part u y_axis) (part v z_axis) (part u z_axis) (part v y_axis)) (λ x.
    and_then (product_difference_of (part u z_axis) (part v x_axis) (part u x_axis) (part v z_axis)) (λ y.
    and_then (product_difference_of (part u x_axis) (part v y_axis) (part u y_axis) (part v x_axis)) (λ z.
    Ok (vector_of x y z))))

-- x v
unfoldable pub stretched_of : Ends → List Ends → Result (List Ends) IvFault
stretched_of x v =
    and_then (mul_of x (part v x_axis) 56) (λ a. and_then (mul_of x (part v y_axis) 56) (λ b. and_then (mul_of x (part v z_axis) 56) (λ c.
    Ok (vector_of a b c))))

unfoldable pub total_of : List Ends → List Ends → Result (List Ends) IvFault
total_of u v =
    and_then (add_of (part u x_axis) (part v x_axis)) (λ x. and_then (add_of (part u y_axis) (part v y_axis)) (λ y. and_then (add_of (part u z_axis) (part v z_axis)) (λ z.
    Ok (vector_of x y z))))

unfoldable pub difference_of : List Ends → List Ends → Result (List Ends) IvFault
difference_of u v =
    and_then (sub_of (part u x_axis) (part v x_axis)) (λ x. and_then (sub_of (part u y_axis) (part v y_axis)) (λ y. and_then (sub_of (part u z_axis) (part v z_axis)) (λ z.
    Ok (vector_of x y z))))

-- each of the three parts is there, whatever would stand for a missing one, and is within its interval
pub record EnclosesVector (v : List Ends) (exact : Exact) : Type 0 where
  pub x : (missing : Ends) → Within (slice_index_or v 0 missing) (exact x_axis)
  pub y : (missing : Ends) → Within (slice_index_or v 1 missing) (exact y_axis)
  pub z : (missing : Ends) → Within (slice_index_or v 2 missing) (exact z_axis)
