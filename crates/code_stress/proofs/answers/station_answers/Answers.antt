use Rattle.std.proofs.Common.{◌≡◌, ℕ, List, All, map, take, length, subst, ap, sym, ◌∙◌, arith}
use Rattle.std.proofs.Math.Seq.{take-length}
use Rattle.std.proofs.lemmas.List.Elements.{All-push, All-more}
use Rattle.member_set.specs.declared.members.Station.{Station}
use Rattle.structure.specs.Stations.{stations_of}
use Rattle.code_stress.specs.Checks.{station_answer_of}
use Rattle.code_stress.specs.Meaning.{StationHolds}
use Rattle.code_stress.specs.Rules.{IsStationOf, StationInOrder}
use Rattle.code_stress.proofs.StationLemmas.{place_of, stations-are, answers-are, mapped-more, mapped-all, stations-each}
use Rattle.code_stress.proofs.answers.station_answers.Goals as goal

pub station_answer-requires-clause-station : goal.station_answer-requires-clause-station
station_answer-requires-clause-station c =
    let m = c.args.m.now in
    let same : c.as_slice-stations.result.now ≡ stations_of m = c.as_slice-stations.ensures ∙ c.requires.structure.stations in
    let all : All (IsStationOf m) c.as_slice-stations.result.now = subst (All (IsStationOf m)) (sym same) (stations-are m) in
    subst (IsStationOf m) (sym c.s-item.is) (all c.loop-s.s-index c.s-item.result c.loop-s-test.true)

pub loop-s-preserved : goal.loop-s-preserved
loop-s-preserved c =
    let m = c.args.m.now in
    let earlier = c.args.earlier.now in
    let kind = c.args.kind.now in
    let answer = λ (s : Station). station_answer_of m c.args.b.now c.args.forces.now earlier kind (place_of s) in
    let Holds = λ (s : Station). StationHolds m earlier kind (place_of s) (answer s) in
    let xs = c.as_slice-stations.result.now in
    let i = c.loop-s.s-index in
    let x = c.s-item.result in
    record {
      value = mapped-more answer xs i x c.loop-s.answers.items _ c.station_answer.result c.loop-s-test.true c.s-item.is c.station_answer.ensures.value c.in_ok-push.ensures.items c.loop-s.invariant.value;
      in_order = subst (All StationInOrder) (sym c.in_ok-push.ensures.items) (All-push StationInOrder c.loop-s.answers.items c.station_answer.result c.loop-s.invariant.in_order c.station_answer.ensures.in_order);
      hold = λ cases. All-more Holds xs i x c.loop-s-test.true (c.loop-s.invariant.hold cases)
          (subst Holds c.s-item.is (subst (StationHolds m earlier kind (place_of x)) c.station_answer.ensures.value (c.station_answer.ensures.holds cases)));
    }

pub returns-clause-value : goal.returns-clause-value
returns-clause-value c =
    let m = c.args.m.now in
    let answer = λ (s : Station). station_answer_of m c.args.b.now c.args.forces.now c.args.earlier.now c.args.kind.now (place_of s) in
    let xs = c.as_slice-stations.result.now in
    let same : xs ≡ stations_of m = c.as_slice-stations.ensures ∙ c.requires.structure.stations in
    let all : c.loop-s.s-index ≡ length xs = omega arith in
    mapped-all answer xs c.loop-s.s-index c.loop-s.answers.items all c.loop-s.invariant.value
    ∙ ap (λ (ss : List Station). map answer ss) same
    ∙ answers-are m c.args.b.now c.args.forces.now c.args.earlier.now c.args.kind.now

pub returns-clause-hold : goal.returns-clause-hold
returns-clause-hold c = λ cases.
    let m = c.args.m.now in
    let earlier = c.args.earlier.now in
    let kind = c.args.kind.now in
    let Holds = λ (s : Station). StationHolds m earlier kind (place_of s) (station_answer_of m c.args.b.now c.args.forces.now earlier kind (place_of s)) in
    let xs = c.as_slice-stations.result.now in
    let same : xs ≡ stations_of m = c.as_slice-stations.ensures ∙ c.requires.structure.stations in
    let all : c.loop-s.s-index ≡ length xs = omega arith in
    stations-each m c.args.b.now c.args.forces.now earlier kind
    (subst (All Holds) (ap (λ (k : ℕ). take k xs) all ∙ take-length xs ∙ same) (c.loop-s.invariant.hold cases))
