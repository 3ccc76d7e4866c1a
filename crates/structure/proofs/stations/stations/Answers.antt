use Rattle.std.proofs.Common.{◌≡◌, ℕ, ◌++◌, ◌∷◌, [], true, false, List, All, subst, ap, sym, ◌∙◌, arith}
use Rattle.std.proofs.lemmas.List.Elements.{All-append}
use Rattle.std.specs.List.{flat_map, range_with_len}
use Rattle.member_set.specs.declared.members.Station.{Station}
use Rattle.model_types.specs.MemberCounts.{shape_member_count}
use Rattle.model_types.specs.declared.records.Element.{Element}
use Rattle.structure.specs.Elements.{element_at}
use Rattle.structure.specs.Stations.{station_of, HoldsVectors}
use Rattle.structure.proofs.Runs.{flat_map_range_more}
use Rattle.structure.proofs.StationLemmas.{element_read, count_more}
use Rattle.structure.proofs.stations.stations.Goals as goal

pub loop-number-preserved : goal.loop-number-preserved
loop-number-preserved c =
    let m = c.args.m.now in
    let n = c.loop-number.number in
    let e = c.index-elements-number.result in
    let at = element_read m c.elements-elements.result.now n e c.elements-elements.ensures.records c.loop-number-test.true c.index-elements-number.is in
    let both : ℕ → List Station = λ k. station_of m k false ∷ station_of m k true ∷ [] in
    let own : c.member_count-first.result ≡ shape_member_count (element_at m n).shape =
    c.member_count-first.ensures.value ∙ ap (λ (x : Element). shape_member_count x.shape) (sym c.index-elements-number.is ∙ at) in
    let items = c.in_ok-extend_from_slice.ensures.items in
    record {
      value =
          items
          ∙ ap (λ (xs : List Station). xs ++ c.ends.result) c.loop-number.invariant.value
          ∙ ap (λ (ys : List Station). flat_map both (range_with_len 0 n) ++ ys) c.ends.ensures.value
          ∙ flat_map_range_more both [] n;
      first = omega (arith, count_more m n, c.loop-number.invariant.first, own);
      few = omega (arith, c.loop-number.invariant.few, c.member_count-first.ensures.few);
      holds = subst (All (HoldsVectors m)) (sym items) (All-append (HoldsVectors m) c.loop-number.stations.items c.ends.result c.loop-number.invariant.holds c.ends.ensures.holds);
    }
