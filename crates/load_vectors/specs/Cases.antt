-- What a case has for each element, section and anchor.
use Rattle.std.specs.Prelude.{ℕ, ◌==◌, ◌&&◌, Bool, false, List, [], Option, None, Some, position, pos, ℤ, Result}
use Rattle.std.specs.List.{slice_index_or}
use Rattle.flex_interval.specs.Ends.{Ends}
use Rattle.flex_interval.specs.declared.fault.IvFault.{IvFault}
use Rattle.lists.specs.Results.{and_then}
use Rattle.model_types.specs.Lists.{Lists}
use Rattle.model_types.specs.Places.{found_at}
use Rattle.model_types.specs.Ranges.{IsIn}
use Rattle.model_types.specs.declared.ranges.TheConstants.{PRESSURE, TEMPERATURE_CHANGE}
use Rattle.model_types.specs.declared.records.Case.{Case}
use Rattle.model_types.specs.declared.records.Element.{Element}
use Rattle.model_types.specs.declared.records.Move.{Move}
use Rattle.model_types.specs.declared.records.Pressure.{Pressure}
use Rattle.model_types.specs.declared.records.Temp.{Temp}
use Rattle.member_pairs.specs.Vectors.{way_of}
use Rattle.member_pairs.specs.declared.way.Way.{Way}
use Rattle.structure.specs.Elements.{from_of, to_of, section_of, material_of}
use Rattle.load_vectors.specs.Deformations.{deformation_of}
use Rattle.load_vectors.specs.Weights.{element_weight_of, end_load_of}
use Rattle.load_vectors.specs.declared.changes.PipeChange.{PipeChange}
use Rattle.load_vectors.specs.declared.weights.EndLoad.{EndLoad}

abbrev pub no_case : Case
no_case = record { name = []; gx = pos 0; gy = pos 0; gz = pos 0; hangers = false; dt = pos 0; p = pos 0 }

abbrev pub case_at : Lists → ℕ → Case
case_at m c = slice_index_or m.cases c no_case

-- ---- what the records of a pair change

abbrev pub dt_or : Option Temp → ℤ → ℤ
dt_or None dt = dt
dt_or (Some t) dt = t.dt

abbrev pub p_or : Option Pressure → ℤ → ℤ
p_or None p = p
p_or (Some r) p = r.p

-- the records of a case for a section or a restraint, where there is one
abbrev pub temp_of : List Temp → ℕ → ℕ → Option Temp
temp_of temps case section = found_at temps (position (λ t. t.case.0 == case && t.section.0 == section) temps)

abbrev pub pressure_record_of : List Pressure → ℕ → ℕ → Option Pressure
pressure_record_of pressures case section = found_at pressures (position (λ p. p.case.0 == case && p.section.0 == section) pressures)

abbrev pub move_in : List Move → ℕ → ℕ → Option Move
move_in moves case restraint = found_at moves (position (λ v. v.case.0 == case && v.anchor.0 == restraint) moves)

-- the change of temperature of a section in a case, in millikelvin: that of their record, else the case's own
abbrev pub dt_of : Lists → ℕ → ℕ → ℤ
dt_of m case section = dt_or (temp_of m.temps case section) (case_at m case).dt

-- its pressure, in Pa
abbrev pub pressure_of : Lists → ℕ → ℕ → ℤ
pressure_of m case section = p_or (pressure_record_of m.pressures case section) (case_at m case).p

-- both numbers are in their ranges
pub record IsPipeChange (c : PipeChange) : Type 0 where
  pub heat : IsIn TEMPERATURE_CHANGE c.dt
  pub pressure : IsIn PRESSURE c.p

-- the movement of a restraint in a case, where there is one
abbrev pub move_of : Lists → ℕ → ℕ → Option Move
move_of m case restraint = move_in m.moves case restraint

-- ---- elements

abbrev pub way_along : Lists → Element → Way
way_along m e = way_of (from_of m e) (to_of m e)

-- the weight of an element at standard gravity, in 2^-40 N
abbrev pub weight_of_element : Lists → Element → Result Ends IvFault
weight_of_element m e = element_weight_of (section_of m e) (material_of m (section_of m e)) e.shape (way_along m e)

-- the load of its weight on its first node in a case, or where `at_to` on its second
abbrev pub end_load_in : Lists → ℕ → Element → Bool → Result EndLoad IvFault
end_load_in m case e at_to = and_then (weight_of_element m e) (λ weight. end_load_of e.shape weight (way_along m e) (case_at m case) at_to)

-- its initial deformation in a case, in 2^-56 m
abbrev pub deformation_in : Lists → ℕ → Element → Result Ends IvFault
deformation_in m case e =
    deformation_of (section_of m e) (material_of m (section_of m e)) (way_along m e) (dt_of m case e.section.0) (pressure_of m case e.section.0)
