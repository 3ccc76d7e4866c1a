-- The tees of a model, and the unit vector across the plane of a tee.
use Rattle.std.specs.Prelude.{◌≡◌, ℕ, ◌==◌, List, length, Option, None, Some, Result, Ok, Err, unwrap_or, slice_index_or}
use Rattle.std.specs.List.{find}
use Rattle.flex_interval.specs.Ends.{Ends}
use Rattle.flex_interval.specs.Fraction.{Fraction}
use Rattle.flex_interval.specs.declared.fault.IvFault.{IvFault}
use Rattle.member_pairs.specs.Vectors.{EnclosesVector, way_of, zero_vector}
use Rattle.member_pairs.specs.declared.way.Way.{Way}
use Rattle.model_types.specs.Lists.{Lists}
use Rattle.model_types.specs.Tees.{is_beside}
use Rattle.model_types.specs.declared.records.Element.{Element}
use Rattle.model_types.specs.declared.records.Tee.{Tee}
use Rattle.bend_element.specs.Normal.{IsNormalLength, IsNormalLengthWithin, normal_parts, normal_shift, normal_to, unit_normal, unit_normal_of}
use Rattle.bend_element.specs.declared.normal.Normal.{Normal}
use Rattle.structure.specs.Elements.{element_at, no_element, from_of, to_of}

-- the tee at a node, where there is one
abbrev pub tee_at : Lists → ℕ → Option Tee
tee_at m node = find (λ t. t.node.0 == node) m.tees

-- the way along an element
abbrev pub run_along : Lists → Element → Way
run_along m e = way_of (from_of m e) (to_of m e)

-- the first element of a tee's header: the first that ends at its node beside its branch
abbrev pub header_of : Lists → Tee → Element
header_of m t = unwrap_or (find (is_beside t.node.0 (element_at m t.branch.0).name) m.elements) no_element

-- the way along a tee's branch crossed with that along its header
abbrev pub tee_normal : Lists → Tee → Normal
tee_normal m t = normal_to (run_along m (element_at m t.branch.0)) (run_along m (header_of m t))

-- the unit vector across the plane of a tee, in 2^-56
abbrev pub tee_normal_of : Lists → Tee → Result (List Ends) IvFault
tee_normal_of m t = unit_normal_of (tee_normal m t)

-- a vector that was found; that of nothing where there is none
abbrev pub found_vector : Result (List Ends) IvFault → List Ends
found_vector (Ok v) = v
found_vector (Err _) = zero_vector

-- the unit vector across a tee, where there is a tee
abbrev pub normal_across : Lists → Option Tee → Option (List Ends)
normal_across m None = None
normal_across m (Some t) = Some (found_vector (tee_normal_of m t))

-- for each node that across its tee
pub record AreTeeNormals (m : Lists) (normals : List (Option (List Ends))) : Type 0 where
  pub count : length normals ≡ length m.nodes
  pub each : (node : ℕ) → slice_index_or normals node None ≡ normal_across m (tee_at m node)

-- ---- what they hold

-- a vector holds the exact unit vector across a tee's plane by every length within the enclosure of the length of the product of
-- its ways, where the exact one is
pub record HoldsTeeNormal (n : Normal) (v : List Ends) : Type 0 where
  pub across : (l : Fraction) → IsNormalLengthWithin (normal_parts n) l → EnclosesVector v (unit_normal (normal_parts n) (normal_shift (normal_parts n)) l)
  pub exact : (l : Fraction) → IsNormalLength (normal_parts n) l → IsNormalLengthWithin (normal_parts n) l

-- a tee has a unit vector across it, which holds the exact one
pub record HasNormal (m : Lists) (t : Tee) : Type 0 where
  pub vector : List Ends
  pub found : tee_normal_of m t ≡ Ok vector
  pub holds : HoldsTeeNormal (tee_normal m t) vector
