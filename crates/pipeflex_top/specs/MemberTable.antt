-- The member table of a model.
use Rattle.std.specs.Prelude.{ℕ, suc, List, [], ◌∷◌, ◌++◌, Result, Ok, Err, codes}
use Rattle.std.specs.Fmt.{decimal, signed_decimal}
use Rattle.std.specs.List.{flat_map, slice_index_or}
use Rattle.flex_interval.specs.declared.fault.Wide.{Wide}
use Rattle.flex_interval.specs.Ends.{Ends}
use Rattle.member_set.specs.declared.members.Member.{Member}
use Rattle.model_types.specs.Lists.{Lists}
use Rattle.model_types.specs.declared.records.Element.{Element}
use Rattle.model_types.specs.declared.records.Section.{Section}
use Rattle.model_types.specs.declared.records.Shape.{Shape}
use Rattle.model_types.specs.declared.records.Shape.TheVariants.{Straight, Bend}
use Rattle.model_types.specs.declared.records.Node.{Node}
use Rattle.model_types.specs.declared.records.Tee.{Tee}
use Rattle.report.specs.Factors.{factor_lines, tee_lines}
use Rattle.sif_factors.specs.Factors.{bend_factors_of, tee_factors_of}
use Rattle.structure.specs.Elements.{members_of_element, no_node, no_section, section_of}
use Rattle.text_words.specs.Fields.{line}

-- the words of the line of member J: its stiffness, in 2^-20 N/m
abbrev pub kappa_words : ℕ → Ends → List (List ℕ)
kappa_words j kappa = codes "kappa" ∷ decimal j ∷ signed_decimal kappa.lo ∷ signed_decimal kappa.hi ∷ []

-- the lines of the members from J on
abbrev pub kappa_lines : ℕ → List Member → List (List (List ℕ))
kappa_lines j [] = []
kappa_lines j (member ∷ members) = kappa_words j member.kappa ∷ kappa_lines (suc j) members

-- the first lines of an element that has members: its name, its shape and their number; and the factors of a bend
abbrev pub shape_lines : List ℕ → Section → Shape → List (List (List ℕ))
shape_lines name s Straight = (codes "element" ∷ name ∷ codes "straight" ∷ codes "8" ∷ []) ∷ []
shape_lines name s (Bend r angle x y z) = (codes "element" ∷ name ∷ codes "bend" ∷ codes "6" ∷ []) ∷ factor_lines (bend_factors_of s r)

-- the lines of an element whose members are these, or leave their limits
abbrev pub element_lines : List ℕ → Section → Shape → Result (List Member) Wide → List (List (List ℕ))
element_lines name s shape (Ok members) = shape_lines name s shape ++ kappa_lines 1 members
element_lines name s shape (Err _) = (codes "element" ∷ name ∷ codes "wide" ∷ []) ∷ []

-- what is written for an element
abbrev pub element_text : Lists → Element → List ℕ
element_text m e = flat_map line (element_lines e.name (section_of m e) e.shape (members_of_element m e))

-- the records that a tee names
abbrev pub node_of_tee : Lists → Tee → Node
node_of_tee m t = slice_index_or m.nodes t.node.0 no_node

abbrev pub header_of_tee : Lists → Tee → Section
header_of_tee m t = slice_index_or m.sections t.header.0 no_section

-- what is written for a tee
abbrev pub tee_text : Lists → Tee → List ℕ
tee_text m t = flat_map line (tee_lines (node_of_tee m t).name (tee_factors_of (header_of_tee m t) t.kind))

-- the member table: its header, each element in order, each tee in order, and the end
abbrev pub table_of : Lists → List ℕ
table_of m = line (codes "pipeflex" ∷ codes "members" ∷ codes "1" ∷ []) ++ flat_map (element_text m) m.elements ++ flat_map (tee_text m) m.tees ++ line (codes "end" ∷ [])
