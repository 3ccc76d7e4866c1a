use Rattle.std.proofs.Common.{◌≡◌, ℕ, ◌<◌, ◌∷◌, [], All, length, get_or, refl, subst, sym, ap, ◌∙◌, arith, Bool, true, false, List, Option}
use Rattle.member_set.specs.declared.members.Station.{Station}
use Rattle.std.specs.Prelude.{None}
use Rattle.std.specs.Option.{option_or}
use Rattle.std.proofs.lemmas.List.{get_or_read}
use Rattle.flex_interval.specs.Ends.{Ends}
use Rattle.model_types.specs.Lists.{Lists}
use Rattle.model_types.specs.Rules.{Keeps}
use Rattle.model_types.specs.declared.records.Element.{Element}
use Rattle.model_types.specs.declared.records.Record.TheVariants as record_of
use Rattle.structure.specs.Elements.{no_element}
use Rattle.structure.specs.Stations.{HoldsVectors, normal_at}
use Rattle.structure.specs.Tees.{AreTeeNormals}
use Rattle.structure.proofs.StationLemmas.{AreEnds, station, element_read, ends_are, ends_hold, member_count_few}
use Rattle.structure.proofs.stations.ends.Goals as goal

pub overflow_cast-first : goal.overflow_cast-first
overflow_cast-first c =
    let most = c.elements.ensures.model.few.elements in
    omega (arith, most, c.requires.in_range, c.requires.first, member_count_few c.args.m.now c.args.number)

abbrev both_stations : goal.After-to-1 → List Station
both_stations c =
    let v = c.end_vectors-vectors.result in
    let at = λ (end : Bool) (tangent : List Ends) (normal : Option (List Ends)). station c.args.number end tangent normal c.args.first c.member_count-count.result in
    at false v.from c.or-across_from.result ∷ at true v.to c.or-across_to.result ∷ []

-- a normal that was read from the table, behind an element's own
read_normal : (m : Lists) (normals : List (Option (List Ends))) (own here across : Option (List Ends)) (node : ℕ) → AreTeeNormals m normals → node < length m.nodes →
    here ≡ get_or normals node here → across ≡ option_or own here → across ≡ normal_at m own node
read_normal m normals own here across node are inside is chosen =
    let at : here ≡ get_or normals node None = get_or_read normals node here (rw are.count inside) is None in
    chosen ∙ ap (option_or own) (at ∙ are.each node)

both : (c : goal.After-to-1) → AreEnds c.args.m.now c.args.number c.index-elements-number.result c.end_vectors-vectors.result (both_stations c)
both c =
    let m = c.args.m.now in
    let e = c.index-elements-number.result in
    let inside : c.args.number < length c.elements.result.now = rw c.elements.ensures.records c.requires.in_range in
    let at = element_read m c.elements.result.now c.args.number e c.elements.ensures.records inside c.index-elements-number.is in
    let keeps : Keeps m (record_of.Element e) =
    subst (λ (x : Element). Keeps m (record_of.Element x)) (sym at) (c.elements.ensures.model.kept.elements c.args.number no_element c.requires.in_range) in
    record {
      first = c.args.first;
      count = c.member_count-count.result;
      across_from = c.or-across_from.result;
      across_to = c.or-across_to.result;
      is = refl;
      at = at;
      value = c.end_vectors-vectors.ensures.value;
      before = c.requires.first;
      own = c.member_count-count.ensures.value;
      from = read_normal m c.args.normals.now _ _ _ e.from.0 c.requires.normals keeps.known.0 c.index-normals-element.is c.or-across_from.ensures;
      to = read_normal m c.args.normals.now _ _ _ e.to.0 c.requires.normals keeps.known.1.0 c.index-normals-element-2.is c.or-across_to.ensures;
    }

pub returns-clause-value : goal.returns-clause-value
returns-clause-value c = rw c.from_station-from.ensures (ends_are c.args.m.now c.args.number c.index-elements-number.result c.end_vectors-vectors.result _ (both c))

pub returns-clause-holds : goal.returns-clause-holds
returns-clause-holds c =
    let m = c.args.m.now in
    let e = c.index-elements-number.result in
    let v = c.end_vectors-vectors.result in
    subst (All (HoldsVectors m)) (ends_are m c.args.number e v (both_stations c) (both c) ∙ sym (returns-clause-value c))
    (ends_hold m c.args.number e v (both_stations c) (both c) c.requires.tees c.end_vectors-vectors.ensures.holds)
