use Rattle.std.proofs.Common.{◌≡◌, refl, Ok}
use Rattle.flex_interval.specs.Fraction.{Within}
use Rattle.member_set.specs.Members.{nothing}
use Rattle.load_vectors.specs.Cases.{end_load_in, no_case}
use Rattle.load_vectors.specs.NodeLoads.{exact_weight_in, weight_load}
use Rattle.load_vectors.specs.Totals.{IsOfLoads}
use Rattle.load_vectors.proofs.PartLemmas.{of_vectors}
use Rattle.structure.proofs.MemberLemmas.{at_number}
use Rattle.load_vectors.proofs.elements.end_parts.Goals as goal

pub returns : goal.returns
returns c =
    let m = c.args.m.now in
    let e = c.args.element.now in
    let load = c.end_load_by-load.result in
    let case = at_number m.cases c.args.case.0 c.case.result.now no_case c.case.ensures.found in
    let value = rw (case, c.way_along-way.ensures.value) at c.end_load_by-load.ensures.value in
    let within = rw (case, c.way_along-way.ensures.value) at c.end_load_by-load.ensures.within in
    let three = c.joined.ensures.force in
    let also = c.joined.ensures.moment in
    let whole : end_load_in m c.args.case.0 e c.args.at_to ≡ Ok load = rw c.requires.weight value in
    record {
      value = λ freedom below. rw (whole, c.joined.ensures.value) refl;
      within = λ x reading freedom below.
          let held = within (exact_weight_in m e x) (c.requires.within x reading) in
          rw c.joined.ensures.value
          (of_vectors load.force load.moment three also (λ k z. Within z ((weight_load m c.args.case.0 e c.args.at_to).exact x k))
          (held.force.x nothing) (held.force.y nothing) (held.force.z nothing) (held.moment.x nothing) (held.moment.y nothing) (held.moment.z nothing) freedom below);
      size = λ freedom below.
          let force = c.end_load_by-load.ensures.force_size in
          let moment = c.end_load_by-load.ensures.moment_size in
          rw c.joined.ensures.value (of_vectors load.force load.moment three also (λ k z. IsOfLoads 1 z) force.x force.y force.z moment.x moment.y moment.z freedom below);
    }
