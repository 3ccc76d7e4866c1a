use Rattle.std.proofs.Common.{◌≡◌, Ok, subst, to_z-of_z}
use Rattle.sif_factors.specs.Factors.{bend_factors_of}
use Rattle.structure.specs.Elements.{no_section}
use Rattle.code_stress.proofs.DataLemmas.{at_number, bend_room, radius_fits}
use Rattle.code_stress.proofs.data.factors_along.Goals as goal

pub bend_factors-requires-clause-radius : goal.bend_factors-requires-clause-radius
bend_factors-requires-clause-radius c =
    let bend = c.in-Bend in
    let radius = bend_room c.args.m.now c.args.element.now c.section.result.now bend.r bend.angle bend.px bend.py bend.pz c.requires.keeps c.section.ensures.found bend.is in
    rw (to_z-of_z (radius_fits bend.r radius.range)) radius

pub returns-in-Bend-clause-value : goal.returns-in-Bend-clause-value
returns-in-Bend-clause-value c =
    let bend = c.in-Bend in
    let m = c.args.m.now in
    let element = c.args.element.now in
    let radius = bend_room m element c.section.result.now bend.r bend.angle bend.px bend.py bend.pz c.requires.keeps c.section.ensures.found bend.is in
    let section = at_number m.sections element.section.0 c.section.result.now no_section c.section.ensures.found in
    let value = rw (to_z-of_z (radius_fits bend.r radius.range)) at c.bend_factors.ensures.value in
    rw bend.is (subst (λ s. bend_factors_of s bend.r ≡ Ok c.bend_factors.result) section value)
