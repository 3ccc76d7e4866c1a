-- The members of a model's elements.
use Rattle.std.specs.Prelude.{ℕ, zero, suc, ◌+◌, Bool, false, true, [], pos, List, length, Result}
use Rattle.std.specs.List.{slice_index_or}
use Rattle.flex_interval.specs.declared.fault.Wide.{Wide}
use Rattle.member_set.specs.declared.members.Member.{Member}
use Rattle.model_types.specs.Lists.{Lists}
use Rattle.model_types.specs.MemberCounts.{shape_member_count}
use Rattle.model_types.specs.declared.records.Element.{Element}
use Rattle.model_types.specs.declared.records.Shape.{Shape}
use Rattle.model_types.specs.declared.records.Shape.TheVariants.{Straight, Bend}
use Rattle.model_types.specs.declared.records.Material.{Material}
use Rattle.model_types.specs.declared.records.Node.{Node}
use Rattle.model_types.specs.declared.records.Section.{Section}
use Rattle.member_pairs.specs.Tubes.{tube_of}
use Rattle.member_pairs.specs.Vectors.{way_of}
use Rattle.bend_element.specs.Between.{bend_of, curve_from}
use Rattle.pipe_element.specs.Straight.{straight_of}

-- what stands for a record that isn't there
abbrev pub no_node : Node
no_node = record { name = []; x = pos 0; y = pos 0; z = pos 0 }

abbrev pub no_section : Section
no_section = record { name = []; material = record { 0 = 0 }; d = pos 0; t = pos 0; allowance = pos 0; extra = pos 0 }

abbrev pub no_material : Material
no_material = record { name = []; e = pos 0; nu = pos 0; alpha = pos 0; rho = pos 0 }

abbrev pub no_element : Element
no_element = record { name = []; from = record { 0 = 0 }; to = record { 0 = 0 }; section = record { 0 = 0 }; shape = Straight }

-- the element of that number
abbrev pub element_at : Lists → ℕ → Element
element_at m n = slice_index_or m.elements n no_element

-- the records that an element names
abbrev pub from_of : Lists → Element → Node
from_of m e = slice_index_or m.nodes e.from.0 no_node

abbrev pub to_of : Lists → Element → Node
to_of m e = slice_index_or m.nodes e.to.0 no_node

abbrev pub section_of : Lists → Element → Section
section_of m e = slice_index_or m.sections e.section.0 no_section

abbrev pub material_of : Lists → Section → Material
material_of m s = slice_index_or m.materials s.material.0 no_material

-- the node at an end of an element, `to` where `at_to`
abbrev pub node_at : Element → Bool → ℕ
node_at e false = e.from.0
node_at e true = e.to.0

-- the members of an element of a shape: the eight of a straight, or the six of a bend
abbrev pub members_along : Shape → Element → Node → Node → Section → Material → Result (List Member) Wide
members_along Straight e from to s m = straight_of e from to s m
members_along (Bend r angle x y z) e from to s m = bend_of e (tube_of s m) s (way_of from to) (curve_from from r angle x y z)

-- its members, unless they leave their limits
abbrev pub members_of_element : Lists → Element → Result (List Member) Wide
members_of_element m e = members_along e.shape e (from_of m e) (to_of m e) (section_of m e) (material_of m (section_of m e))

-- how many members the first n elements have
abbrev pub member_count_below : Lists → ℕ → ℕ
member_count_below m zero = 0
member_count_below m (suc n) = member_count_below m n + shape_member_count (element_at m n).shape

-- how many members the elements have, before those of the restraints
abbrev pub element_member_count : Lists → ℕ
element_member_count m = member_count_below m (length m.elements)
