use Rattle.std.proofs.Common.{rules, FitsSigned, to_z-of_z}
use Rattle.std.specs.Int.{w64}
use Rattle.structure.specs.Elements.{no_section, no_material}
use Rattle.structure.proofs.MemberLemmas.{at_number}
use Rattle.load_vectors.specs.Cases.{way_along}
use Rattle.load_vectors.proofs.elements.delta.Goals as goal

pub returns-clause-value : goal.returns-clause-value
returns-clause-value c =
    let m = c.args.m.now in
    let e = c.args.element.now in
    let dt : FitsSigned w64 c.args.change.dt = search rules in
    let p : FitsSigned w64 c.args.change.p = search rules in
    let section = at_number m.sections e.section.0 c.section-section.result.now no_section c.section-section.ensures.found in
    let own = at_number m.materials c.section-section.result.now.material.0 c.material-material.result.now no_material c.material-material.ensures.found in
    let material = rw section at own in
    rw (to_z-of_z dt, to_z-of_z p, c.way_along.ensures.value, material, section) at c.deformation.ensures.value

pub returns-clause-within : goal.returns-clause-within
returns-clause-within c = λ x reading.
    let m = c.args.m.now in
    let e = c.args.element.now in
    let dt : FitsSigned w64 c.args.change.dt = search rules in
    let p : FitsSigned w64 c.args.change.p = search rules in
    let section = at_number m.sections e.section.0 c.section-section.result.now no_section c.section-section.ensures.found in
    let own = at_number m.materials c.section-section.result.now.material.0 c.material-material.result.now no_material c.material-material.ensures.found in
    let material = rw section at own in
    let way = rw c.way_along.ensures.value at c.way_along.ensures.way in
    let within = rw (to_z-of_z dt, to_z-of_z p, c.way_along.ensures.value, material, section) at c.deformation.ensures.within in
    within (x.length (way_along m e)) (reading.length_within (way_along m e) way)
