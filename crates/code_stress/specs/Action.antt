-- The force and the moment at a station: six intervals, in 2^-40 N and 2^-40 N m, and their parts along a unit vector.
use Rattle.std.specs.Prelude.{List, slice_index_or, Result}
use Rattle.lists.specs.Results.{and_then}
use Rattle.flex_interval.specs.Ends.{Ends}
use Rattle.flex_interval.specs.Fraction.{Fraction, Within, plus, times}
use Rattle.flex_interval.specs.declared.fault.IvFault.{IvFault}
use Rattle.flex_interval.specs.Operations.{add_of, mul_of}
use Rattle.member_set.specs.Members.{nothing}
use Rattle.member_pairs.specs.Axes.{x_axis, y_axis, z_axis}
use Rattle.member_pairs.specs.Vectors.{Exact, part, vector_of}

-- the force, which stands first
abbrev pub force_vector_of : List Ends → List Ends
force_vector_of f = vector_of (slice_index_or f 0 nothing) (slice_index_or f 1 nothing) (slice_index_or f 2 nothing)

-- the moment, which stands after it
abbrev pub moment_vector_of : List Ends → List Ends
moment_vector_of f = vector_of (slice_index_or f 3 nothing) (slice_index_or f 4 nothing) (slice_index_or f 5 nothing)

-- the exact force lies in the first three of the six
pub record EnclosesForce (f : List Ends) (exact : Exact) : Type 0 where
  pub x : (missing : Ends) → Within (slice_index_or f 0 missing) (exact x_axis)
  pub y : (missing : Ends) → Within (slice_index_or f 1 missing) (exact y_axis)
  pub z : (missing : Ends) → Within (slice_index_or f 2 missing) (exact z_axis)

-- and the exact moment in the other three
pub record EnclosesMoment (f : List Ends) (exact : Exact) : Type 0 where
  pub x : (missing : Ends) → Within (slice_index_or f 3 missing) (exact x_axis)
  pub y : (missing : Ends) → Within (slice_index_or f 4 missing) (exact y_axis)
  pub z : (missing : Ends) → Within (slice_index_or f 5 missing) (exact z_axis)

-- the scalar product, in the unit of u for a v in 2^-56
unfoldable pub inner_product : Exact → Exact → Fraction
inner_product u v = plus (plus (times (u x_axis) (v x_axis) 56) (times (u y_axis) (v y_axis) 56)) (times (u z_axis) (v z_axis) 56)

unfoldable pub inner_product_of : List Ends → List Ends → Result Ends IvFault
inner_product_of u v =
    and_then (mul_of (part u x_axis) (part v x_axis) 56) (λ x. and_then (mul_of (part u y_axis) (part v y_axis) 56) (λ y. and_then (mul_of (part u z_axis) (part v z_axis) 56) (λ z.
    and_then (add_of x y) (λ first. add_of first z))))
