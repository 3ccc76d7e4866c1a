use Rattle.std.proofs.Common.{◌≡◌, map, take, All}
use Rattle.code_stress.specs.Checks.{station_answer_of}
use Rattle.code_stress.specs.Meaning.{CasesHold, StationHolds}
use Rattle.code_stress.specs.Rules.{StationInOrder}
use Rattle.code_stress.proofs.StationLemmas.{place_of}
use Rattle.code_stress.proofs.answers.station_answers.Given as goal

abbrev pub invariant-loop-s : goal.invariant-loop-s
invariant-loop-s l = record {
  value : l.answers.items ≡ map (λ s. station_answer_of l.m l.b l.forces l.earlier l.kind (place_of s)) (take l.s-index l.stations);
  in_order : All StationInOrder l.answers.items;
  hold : CasesHold l.m l.forces l.kind →
      All (λ s. StationHolds l.m l.earlier l.kind (place_of s) (station_answer_of l.m l.b l.forces l.earlier l.kind (place_of s))) (take l.s-index l.stations);
}
