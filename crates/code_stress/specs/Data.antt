-- What the stress of an end of an element is taken with, by the model.
use Rattle.std.specs.Prelude.{◌^◌, ℕ, Bool, Option, None, Some, pos, Result, Ok}
use Rattle.std.specs.List.{slice_index_or}
use Rattle.flex_interval.specs.Operations.{point_of}
use Rattle.flex_interval.specs.declared.fault.IvFault.{IvFault}
use Rattle.lists.specs.Results.{and_then}
use Rattle.load_vectors.specs.NodeLoads.{node_at}
use Rattle.member_set.specs.declared.members.Station.{Station}
use Rattle.model_types.specs.Lists.{Lists}
use Rattle.model_types.specs.declared.records.Element.{Element}
use Rattle.model_types.specs.declared.records.Section.{Section}
use Rattle.model_types.specs.declared.records.Shape.{Shape}
use Rattle.model_types.specs.declared.records.Shape.TheVariants.{Straight, Bend}
use Rattle.model_types.specs.declared.records.Tee.{Tee}
use Rattle.section_data.specs.Values.{values_of}
use Rattle.section_data.specs.declared.SectionIv.{SectionIv}
use Rattle.sif_factors.specs.Factors.{bend_factors_of, tee_factors_of}
use Rattle.sif_factors.specs.declared.Factors.{Factors}
use Rattle.structure.specs.Elements.{element_at, no_section, section_of, material_of}
use Rattle.structure.specs.Stations.{station_of}
use Rattle.structure.specs.Tees.{tee_at}
use Rattle.code_stress.specs.Actions.{Place}
use Rattle.code_stress.specs.declared.station.StationData.{StationData}

-- the factors of an end that is neither at a bend nor at a tee: each is 1
abbrev pub plain_factors : Factors
plain_factors = record { k = point_of (pos (2 ^ 56)); ii = point_of (pos (2 ^ 30)); io = point_of (pos (2 ^ 30)) }

-- the section of a tee's header
abbrev pub header_section : Lists → Tee → Section
header_section m t = slice_index_or m.sections t.header.0 no_section

-- the factors at a node with this tee, or without one
abbrev pub factors_by_tee : Lists → Option Tee → Result Factors IvFault
factors_by_tee m None = Ok plain_factors
factors_by_tee m (Some t) = tee_factors_of (header_section m t) t.kind

-- the factors at an end of an element of a shape: a bend has its own; a straight those of a tee at the node
abbrev pub factors_along : Shape → Lists → Element → ℕ → Result Factors IvFault
factors_along (Bend r angle x y z) m e node = bend_factors_of (section_of m e) r
factors_along Straight m e node = factors_by_tee m (tee_at m node)

abbrev pub factors_at : Lists → Place → Result Factors IvFault
factors_at m p = factors_along (element_at m p.element).shape m (element_at m p.element) (node_at (element_at m p.element) p.at_to)

-- the section values of an element, with the full wall or the one less its allowance
abbrev pub section_values : Lists → Element → Bool → Result SectionIv IvFault
section_values m e reduced = values_of (section_of m e) (material_of m (section_of m e)) reduced

abbrev pub station_with : Station → SectionIv → Factors → StationData
station_with s v f =
    record { tangent = s.tangent; normal = s.normal; section = v; bending = v.modulus; ii = f.ii; io = f.io }

-- what the stress of an end is taken with: the vectors of its station, the section values of its element and its factors
abbrev pub station_data_of : Lists → Bool → Place → Result StationData IvFault
station_data_of m reduced p =
    and_then (section_values m (element_at m p.element) reduced) (λ v. and_then (factors_at m p) (λ f. Ok (station_with (station_of m p.element p.at_to) v f)))
