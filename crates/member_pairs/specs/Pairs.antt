-- A member as a pair of a stiffness and a shape vector, and what it encloses.
use Rattle.std.specs.Prelude.{◌≡◌, ◌^◌, List, [], ◌∷◌, slice_index_or, pos, ◌≤ℤ◌, ◌<ℤ◌, ◌&&◌, Result, Ok, Err, if◌then◌else◌}
use Rattle.flex_interval.specs.Ends.{Ends}
use Rattle.flex_interval.specs.declared.fault.Wide.{Wide}
use Rattle.flex_interval.specs.Fraction.{Fraction, Within, negated}
use Rattle.flex_interval.specs.Operations.{neg_of}
use Rattle.member_set.specs.Members.{nothing}
use Rattle.member_set.specs.declared.members.Member.{Member}
use Rattle.model_types.specs.declared.records.Element.{Element}
use Rattle.member_pairs.specs.Axes.{Axis, x_axis, y_axis, z_axis, Motion, translation, rotation, End, from_end, to_end, freedom_place}
use Rattle.member_pairs.specs.Limits.{is_stiffness, is_moderate}
use Rattle.member_pairs.specs.Vectors.{Exact, part}

-- the twelve shape numbers: a translation that is opposite at FROM, and a rotation for each end
abbrev pub shape_numbers : List Ends → List Ends → List Ends → List Ends
shape_numbers v from to =
    neg_of (part v x_axis) ∷ neg_of (part v y_axis) ∷ neg_of (part v z_axis) ∷ part from x_axis ∷ part from y_axis ∷ part from z_axis ∷
    part v x_axis ∷ part v y_axis ∷ part v z_axis ∷ part to x_axis ∷ part to y_axis ∷ part to z_axis ∷ []

-- the same of exact vectors, freedom by freedom
abbrev pub shape : Exact → Exact → Exact → End → Motion → Axis → Fraction
shape v from to from_end translation i = negated (v i)
shape v from to from_end rotation i = from i
shape v from to to_end translation i = v i
shape v from to to_end rotation i = to i

-- the twelve numbers enclose these
abbrev pub EnclosesShape : List Ends → (End → Motion → Axis → Fraction) → Type 0
EnclosesShape w exact = (p : End) (m : Motion) (i : Axis) → Within (slice_index_or w (freedom_place p m i) nothing) (exact p m i)

-- an element's member: its stiffness, translation and rotations
abbrev pub member : Element → Ends → List Ends → List Ends → List Ends → Member
member e kappa v from to = record { n1 = e.from.0; n2 = e.to.0; kappa = kappa; w = shape_numbers v from to }

-- the same, where its numbers are in their limits
abbrev pub limited_member : Element → Ends → List Ends → List Ends → List Ends → Result Member Wide
limited_member e kappa v from to =
    if is_stiffness kappa && (is_moderate v && (is_moderate from && is_moderate to)) then Ok (member e kappa v from to) else Err (record {})

-- the exact stiffness and shape vector lie in the member
pub record EnclosesMember (m : Member) (kappa : Fraction) (w : End → Motion → Axis → Fraction) : Type 0 where
  pub stiffness : Within m.kappa kappa
  pub shape : EnclosesShape m.w w

-- a member of this element, with a stiffness in its limits: at least 1 and below 2^60
pub record IsMemberOf (e : Element) (m : Member) : Type 0 where
  pub first_node : m.n1 ≡ e.from.0
  pub second_node : m.n2 ≡ e.to.0
  pub low : pos 1 ≤ℤ m.kappa.lo
  pub high : m.kappa.hi <ℤ pos (2 ^ 60)
