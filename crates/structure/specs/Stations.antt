-- The stations of a model: the two ends of each of its elements.
use Rattle.std.specs.Prelude.{◌≡◌, ℕ, Bool, false, true, List, [], ◌∷◌, length, All, Option, None, Some, Result, Ok, Err}
use Rattle.std.specs.List.{flat_map, range_with_len}
use Rattle.std.specs.Option.{option_or}
use Rattle.flex_interval.specs.Ends.{Ends}
use Rattle.flex_interval.specs.Fraction.{Fraction}
use Rattle.flex_interval.specs.declared.fault.IvFault.{IvFault}
use Rattle.lists.specs.Results.{and_then}
use Rattle.member_pairs.specs.Axes.{End, from_end, to_end}
use Rattle.member_pairs.specs.Lengths.{length_of, tangent_of, tangent, IsLengthWithin}
use Rattle.member_pairs.specs.Span.{IsLengthOf}
use Rattle.member_pairs.specs.Vectors.{Exact, EnclosesVector, way_of, parts_of, zero_vector}
use Rattle.member_pairs.specs.declared.way.Way.{Way}
use Rattle.member_set.specs.declared.members.Built.{Built}
use Rattle.member_set.specs.declared.members.Station.{Station}
use Rattle.model_types.specs.Lists.{Lists}
use Rattle.model_types.specs.MemberCounts.{shape_member_count}
use Rattle.model_types.specs.declared.records.Element.{Element}
use Rattle.model_types.specs.declared.records.Node.{Node}
use Rattle.model_types.specs.declared.records.Shape.{Shape}
use Rattle.model_types.specs.declared.records.Shape.TheVariants.{Straight, Bend}
use Rattle.model_types.specs.declared.records.Tee.{Tee}
use Rattle.bend_element.specs.Between.{curve_from, IsPlaceWithin}
use Rattle.bend_element.specs.ExactBend.{ExactFrame}
use Rattle.bend_element.specs.Normal.{normal_to, normal_parts, IsNormalLength}
use Rattle.bend_element.specs.Vectors.{bend_vectors_of, end_tangent, AreWithinHalf, place_by}
use Rattle.bend_element.specs.declared.between.Curve.{Curve}
use Rattle.bend_element.specs.declared.vectors.BendVectors.{BendVectors}
use Rattle.structure.specs.Elements.{element_at, from_of, to_of, node_at, member_count_below}
use Rattle.structure.specs.Tees.{HoldsTeeNormal, normal_across, tee_at, tee_normal}
use Rattle.structure.specs.declared.vectors.EndVectors.{EndVectors}

-- ---- rounded

-- a straight has one unit vector at both its ends, and none across it
abbrev pub straight_vectors : List Ends → EndVectors
straight_vectors t = record { from = t; to = t; normal = None }

abbrev pub vectors_of_bend : BendVectors → EndVectors
vectors_of_bend v = record { from = v.from; to = v.to; normal = Some v.normal }

-- the unit vectors of an element of a shape, in 2^-56: along it at its ends, and across the plane of a bend
abbrev pub vectors_along : Shape → Node → Node → Result EndVectors IvFault
vectors_along Straight from to =
    and_then (length_of (parts_of (way_of from to))) (λ length. and_then (tangent_of (way_of from to) length) (λ t. Ok (straight_vectors t)))
vectors_along (Bend r angle x y z) from to = and_then (bend_vectors_of (way_of from to) (curve_from from r angle x y z)) (λ v. Ok (vectors_of_bend v))

abbrev pub vectors_of_element : Lists → Element → Result EndVectors IvFault
vectors_of_element m e = vectors_along e.shape (from_of m e) (to_of m e)

-- vectors that were found; those of nothing where there are none
abbrev pub found_vectors : Result EndVectors IvFault → EndVectors
found_vectors (Ok v) = v
found_vectors (Err _) = straight_vectors zero_vector

-- the vector along an element at its end, `to` where that is true
abbrev pub tangent_at : EndVectors → Bool → List Ends
tangent_at v false = v.from
tangent_at v true = v.to

-- the unit vector across at an end: the bend's own, or that of the tee at its node
abbrev pub normal_at : Lists → Option (List Ends) → ℕ → Option (List Ends)
normal_at m own node = option_or own (normal_across m (tee_at m node))

-- the station at an end of an element with these unit vectors
abbrev pub station_with : Lists → ℕ → Bool → EndVectors → Station
station_with m n end v =
    record {
      element = n;
      end = end;
      tangent = tangent_at v end;
      normal = normal_at m v.normal (node_at (element_at m n) end);
      first = member_count_below m n;
      count = shape_member_count (element_at m n).shape;
    }

-- the station of an element's end
abbrev pub station_of : Lists → ℕ → Bool → Station
station_of m n end = station_with m n end (found_vectors (vectors_of_element m (element_at m n)))

-- the two ends of the elements in order, `from` before `to`
abbrev pub stations_of : Lists → List Station
stations_of m = flat_map (λ n. station_of m n false ∷ station_of m n true ∷ []) (range_with_len 0 (length m.elements))

-- ---- what they hold

-- a straight's station holds the exact unit vector along it by every length within the enclosure of its length, where the exact
-- one is
pub record HoldsTangent (way : Way) (s : Station) : Type 0 where
  pub along : (l : Fraction) → IsLengthWithin (parts_of way) l → EnclosesVector s.tangent (tangent (parts_of way) l)
  pub exact : (l : Fraction) → IsLengthOf (parts_of way) l → IsLengthWithin (parts_of way) l

-- a normal is there, of which P holds
abbrev pub HasVector : Option (List Ends) → (List Ends → Type 0) → Type 0
HasVector (Some normal) P = P normal
HasVector None P = ⊥

-- a normal is there, and holds this one
abbrev pub HoldsNormal : Option (List Ends) → Exact → Type 0
HoldsNormal normal exact = HasVector normal (λ v. EnclosesVector v exact)

abbrev pub end_of : Bool → End
end_of false = from_end
end_of true = to_end

-- a bend's station holds the exact unit vectors along it at this end and across its plane, for every place, cosine and sine
-- within their enclosures, where the exact place is
pub record HoldsBendEnd (way : Way) (c : Curve) (s : Station) : Type 0 where
  pub along : (place : ExactFrame) (cos sin : Fraction) → IsPlaceWithin way c.corner place → AreWithinHalf c.angle cos sin →
      EnclosesVector s.tangent (end_tangent place cos sin (end_of s.end))
  pub across : (place : ExactFrame) → IsPlaceWithin way c.corner place → HoldsNormal s.normal place.normal
  pub exact : (chord across : Fraction) → IsLengthOf (parts_of way) chord → IsNormalLength (normal_parts (normal_to way c.corner)) across →
      IsPlaceWithin way c.corner (place_by way c.corner chord across)

-- the same by the element's shape
abbrev pub HoldsVectorsAlong : Shape → Node → Node → Station → Type 0
HoldsVectorsAlong Straight from to s = HoldsTangent (way_of from to) s
HoldsVectorsAlong (Bend r angle x y z) from to s = HoldsBendEnd (way_of from to) (curve_from from r angle x y z) s

-- a straight's end has a normal where there is a tee, and that holds the exact unit vector across it
abbrev pub HoldsAcross : Shape → Lists → Option Tee → Option (List Ends) → Type 0
HoldsAcross Straight m None normal = normal ≡ None
HoldsAcross Straight m (Some t) normal = HasVector normal (HoldsTeeNormal (tee_normal m t))
HoldsAcross (Bend r angle x y z) m t normal = Unit {0}

-- a station holds the exact unit vectors of its element's end
pub record HoldsVectors (m : Lists) (s : Station) : Type 0 where
  pub along : HoldsVectorsAlong (element_at m s.element).shape (from_of m (element_at m s.element)) (to_of m (element_at m s.element)) s
  pub across : HoldsAcross (element_at m s.element).shape m (tee_at m (node_at (element_at m s.element) s.end)) s.normal

-- the same of each station of a structure
abbrev pub HoldTangents : Lists → Built → Type 0
HoldTangents m b = All (HoldsVectors m) b.stations
