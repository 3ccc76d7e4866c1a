use Rattle.std.proofs.Common.{◌≡◌, [], ◌++◌, append-nil, subst, sym, to_z-of_z}
use Rattle.std.specs.List.{flat_map}
use Rattle.report.specs.Factors.{FactorsAreTold, factor_lines}
use Rattle.sif_factors.specs.Factors.{bend_factors_of}
use Rattle.structure.specs.Elements.{no_section, section_of}
use Rattle.text_words.specs.Fields.{line}
use Rattle.pipeflex_top.proofs.TableLemmas.{at_number, bend_room, lines_next, radius_fits}
use Rattle.pipeflex_top.proofs.member_table.push_shape.Goals as goal

pub push_factors-requires-clause-radius : goal.push_factors-requires-clause-radius
push_factors-requires-clause-radius c =
    let bend = c.in-Bend in
    let radius = bend_room c.args.model.now c.args.element.now c.section.result.now bend.r bend.angle bend.px bend.py bend.pz c.requires c.section.ensures.found bend.is in
    rw (to_z-of_z (radius_fits bend.r radius.range)) radius

pub returns-in_ok-push_line-in-Straight-clause-bytes : goal.returns-in_ok-push_line-in-Straight-clause-bytes
returns-in_ok-push_line-in-Straight-clause-bytes c =
    let written = rw c.bytes-name.ensures.bytes at c.in_ok-push_line-in-Straight.ensures.written in
    rw c.in-Straight.is (lines_next c.args.out.now.items c.push_line.new.out.items c.push_line.new.out.items _ [] written (sym (append-nil c.push_line.new.out.items)))

pub returns-in_ok-push_factors-in-Bend-clause-bytes : goal.returns-in_ok-push_factors-in-Bend-clause-bytes
returns-in_ok-push_factors-in-Bend-clause-bytes c =
    let bend = c.in-Bend in
    let model = c.args.model.now in
    let element = c.args.element.now in
    let radius = bend_room model element c.section.result.now bend.r bend.angle bend.px bend.py bend.pz c.requires c.section.ensures.found bend.is in
    let section = at_number model.sections element.section.0 c.section.result.now no_section c.section.ensures.found in
    let head = rw c.bytes-name.ensures.bytes at c.in_ok-push_line-in-Bend.ensures.written in
    let step = rw (to_z-of_z (radius_fits bend.r radius.range)) at c.in_ok-push_factors-in-Bend.ensures.written in
    let factors = subst (λ s. c.push_factors.new.out.items ≡ c.push_line-in-Bend.new.out.items ++ flat_map line (factor_lines (bend_factors_of s bend.r))) section step in
    rw bend.is (lines_next c.args.out.now.items c.push_line-in-Bend.new.out.items c.push_factors.new.out.items _ (factor_lines (bend_factors_of (section_of model element) bend.r)) head factors)

pub returns-in_ok-push_factors-in-Bend-clause-told : goal.returns-in_ok-push_factors-in-Bend-clause-told
returns-in_ok-push_factors-in-Bend-clause-told c =
    let bend = c.in-Bend in
    let model = c.args.model.now in
    let element = c.args.element.now in
    let radius = bend_room model element c.section.result.now bend.r bend.angle bend.px bend.py bend.pz c.requires c.section.ensures.found bend.is in
    let section = at_number model.sections element.section.0 c.section.result.now no_section c.section.ensures.found in
    let told = rw (to_z-of_z (radius_fits bend.r radius.range)) at c.in_ok-push_factors-in-Bend.ensures.told in
    rw bend.is (subst (λ s. FactorsAreTold s bend.r) section told)
