use Rattle.structure.specs.Elements.{no_node, no_section, no_material}
use Rattle.structure.proofs.MemberLemmas.{at_number}
use Rattle.structure.proofs.elements.element_members.Goals as goal

pub members_along-requires-clause-shape : goal.members_along-requires-clause-shape
members_along-requires-clause-shape c =
    c.requires.own.shape c.node-from.result.now c.node-to.result.now c.section-section.result.now c.node-from.ensures.found c.node-to.ensures.found c.section-section.ensures.found

pub returns-clause-value : goal.returns-clause-value
returns-clause-value c =
    let m = c.args.model.now in
    let e = c.args.element.now in
    let from = at_number m.nodes e.from.0 c.node-from.result.now no_node c.node-from.ensures.found in
    let to = at_number m.nodes e.to.0 c.node-to.result.now no_node c.node-to.ensures.found in
    let section = at_number m.sections e.section.0 c.section-section.result.now no_section c.section-section.ensures.found in
    let own = at_number m.materials c.section-section.result.now.material.0 c.material-material.result.now no_material c.material-material.ensures.found in
    let material = rw section at own in
    rw (from, to, material, section) at c.members_along.ensures.value

pub returns-clause-encloses : goal.returns-clause-encloses
returns-clause-encloses c =
    let m = c.args.model.now in
    let e = c.args.element.now in
    let from = at_number m.nodes e.from.0 c.node-from.result.now no_node c.node-from.ensures.found in
    let to = at_number m.nodes e.to.0 c.node-to.result.now no_node c.node-to.ensures.found in
    let section = at_number m.sections e.section.0 c.section-section.result.now no_section c.section-section.ensures.found in
    let own = at_number m.materials c.section-section.result.now.material.0 c.material-material.result.now no_material c.material-material.ensures.found in
    let material = rw section at own in
    let value = rw (from, to, material, section) at c.members_along.ensures.value in
    let holds = rw (from, to, material, section) at c.members_along.ensures.holds in
    rw (← value) holds
