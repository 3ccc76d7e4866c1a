-- What acts on the nodes in a case: its forces, then its hangers, then element by element the weight on its two ends. Loads are in
-- units of 2^-40 N or N m, the numbers of the records in mN or mN m.
use Rattle.std.specs.Prelude.{ℕ, ◌==◌, ◌^◌, Bool, false, true, List, [], ◌∷◌, ◌++◌, Ok, ℤ, pos, ◌*ℤ◌, if◌then◌else◌}
use Rattle.std.specs.List.{slice_index_or, flat_map}
use Rattle.angle_table.specs.Pi.{pi_ends}
use Rattle.flex_interval.specs.Fraction.{Fraction, Within}
use Rattle.flex_interval.specs.Operations.{point_of, ratio_of}
use Rattle.lists.specs.Results.{and_then}
use Rattle.member_set.specs.Interval.{Outcome}
use Rattle.member_set.specs.Members.{nothing}
use Rattle.model_types.specs.Lists.{Lists}
use Rattle.model_types.specs.declared.records.Case.{Case}
use Rattle.model_types.specs.declared.records.Element.{Element}
use Rattle.model_types.specs.declared.records.Force.{Force}
use Rattle.model_types.specs.declared.records.Restraint.{Restraint}
use Rattle.model_types.specs.declared.records.RestraintKind.{RestraintKind}
use Rattle.model_types.specs.declared.records.RestraintKind.TheVariants.{Anchor, Linear, Twist, Oneway, Gap, Hanger}
use Rattle.member_pairs.specs.Axes.{x_axis, y_axis, z_axis}
use Rattle.member_pairs.specs.Lengths.{IsLengthWithin}
use Rattle.member_pairs.specs.Vectors.{Exact, IsWay, parts_of}
use Rattle.member_pairs.specs.declared.way.Way.{Way}
use Rattle.structure.specs.Elements.{section_of, material_of}
pub use Rattle.structure.specs.Elements.{node_at}
use Rattle.load_vectors.specs.Cases.{case_at, way_along, end_load_in}
use Rattle.load_vectors.specs.Weights.{exact_element_weight, exact_end_force, exact_end_moment}
use Rattle.load_vectors.specs.declared.weights.EndLoad.{EndLoad}

-- exact numbers for pi in 2^-56, and for the length of each way in 2^-36 micrometre
pub record Reading : Type 0 where
  pub pi : Fraction
  pub length : Way → Fraction

-- each lies in its enclosure
pub record IsReading (x : Reading) : Type 0 where
  pub pi_within : Within pi_ends x.pi
  pub length_within : (d : Way) → IsWay d → IsLengthWithin (parts_of d) (x.length d)

-- one load on a node: in each freedom, 0 to 5, an interval, and the exact load of a reading
pub record NodeLoad : Type 0 where
  pub node : ℕ
  pub part : ℕ → Outcome
  pub exact : Reading → ℕ → Fraction

-- one value for each freedom
abbrev pub by_freedom : {A : Type 0} → A → A → A → A → A → A → ℕ → A
by_freedom ux uy uz rx ry rz freedom =
    if freedom == 0 then ux else if freedom == 1 then uy else if freedom == 2 then uz else
    if freedom == 3 then rx else if freedom == 4 then ry else rz

-- ---- loads in whole mN or mN m

-- n mN in units of 2^-40 N: exactly, and rounded outwards
abbrev pub in_units : ℤ → Fraction
in_units n = record { num = pos (2 ^ 40) *ℤ n; den = pos 1000 }

abbrev pub units_of : ℤ → Outcome
units_of n = ratio_of (point_of n) (pos (2 ^ 40)) (pos 1000)

abbrev pub whole_load : ℕ → (ℕ → ℤ) → NodeLoad
whole_load node parts = record { node = node; part = λ freedom. units_of (parts freedom); exact = λ x freedom. in_units (parts freedom) }

abbrev pub part_of : Force → ℕ → ℤ
part_of f freedom = by_freedom f.fx f.fy f.fz f.mx f.my f.mz freedom

-- a force acts in its own case
abbrev pub force_loads : ℕ → Force → List NodeLoad
force_loads case f = if f.case.0 == case then whole_load f.node.0 (part_of f) ∷ [] else []

-- so much upwards
abbrev pub upward : ℤ → ℕ → ℤ
upward load freedom = by_freedom (pos 0) (pos 0) load (pos 0) (pos 0) (pos 0) freedom

-- a hanger acts where the loads of hangers are on
abbrev pub hanger_loads_of : Bool → ℕ → RestraintKind → List NodeLoad
hanger_loads_of false node kind = []
hanger_loads_of true node (Anchor kt kr) = []
hanger_loads_of true node (Linear dx dy dz k) = []
hanger_loads_of true node (Twist dx dy dz k) = []
hanger_loads_of true node (Oneway dx dy dz gap k) = []
hanger_loads_of true node (Gap dx dy dz gap k) = []
hanger_loads_of true node (Hanger rate load) = whole_load node (upward load) ∷ []

abbrev pub hanger_loads : Case → Restraint → List NodeLoad
hanger_loads c r = hanger_loads_of c.hangers r.node.0 r.kind

-- ---- the weight of the elements

-- an end load's part in a freedom
abbrev pub end_part : EndLoad → ℕ → Outcome
end_part load freedom = Ok (slice_index_or (load.force ++ load.moment) freedom nothing)

abbrev pub exact_end_part : Exact → Exact → ℕ → Fraction
exact_end_part force moment freedom = by_freedom (force x_axis) (force y_axis) (force z_axis) (moment x_axis) (moment y_axis) (moment z_axis) freedom

-- the exact weight of an element
abbrev pub exact_weight_in : Lists → Element → Reading → Fraction
exact_weight_in m e x = exact_element_weight (section_of m e) (material_of m (section_of m e)) e.shape x.pi (x.length (way_along m e))

-- the weight of an element on an end
abbrev pub weight_load : Lists → ℕ → Element → Bool → NodeLoad
weight_load m case e at_to = record {
  node = node_at e at_to;
  part = λ freedom. and_then (end_load_in m case e at_to) (λ load. end_part load freedom);
  exact = λ x freedom. exact_end_part
      (exact_end_force (exact_weight_in m e x) (case_at m case))
      (exact_end_moment e.shape (exact_weight_in m e x) (way_along m e) (case_at m case) at_to)
      freedom;
}

abbrev pub weight_loads : Lists → ℕ → Element → List NodeLoad
weight_loads m case e = weight_load m case e false ∷ weight_load m case e true ∷ []

-- ---- all of them, in order

abbrev pub forces_in : Lists → ℕ → List NodeLoad
forces_in m case = flat_map (force_loads case) m.forces

abbrev pub hangers_in : Lists → ℕ → List NodeLoad
hangers_in m case = flat_map (hanger_loads (case_at m case)) m.restraints

abbrev pub weights_in : Lists → ℕ → List NodeLoad
weights_in m case = flat_map (weight_loads m case) m.elements

abbrev pub loads_in : Lists → ℕ → List NodeLoad
loads_in m case = (forces_in m case ++ hangers_in m case) ++ weights_in m case
