use Rattle.std.proofs.Common.{◌≡◌, ◌*◌, ◌≤◌, ◌∷◌, [], true, false, All}
use Rattle.std.specs.List.{flat_map, range_with_len}
use Rattle.structure.specs.Elements.{member_count_below}
use Rattle.structure.specs.Stations.{station_of, HoldsVectors}
use Rattle.structure.proofs.stations.stations.Given as goal

abbrev pub invariant-loop-number : goal.invariant-loop-number
invariant-loop-number l = record {
  value : l.stations.items ≡ flat_map (λ n. station_of l.m n false ∷ station_of l.m n true ∷ []) (range_with_len 0 l.number);
  first : l.first ≡ member_count_below l.m l.number;
  few : l.first ≤ 8 * l.number;
  holds : All (HoldsVectors l.m) l.stations.items;
}
