use Rattle.std.proofs.Common.{◌≡◌, ◌+◌, length, take}
use Rattle.std.specs.List.{flat_map}
use Rattle.load_vectors.specs.NodeLoads.{hanger_loads}
use Rattle.load_vectors.specs.Totals.{AddsLoads, AreOfLoads}
use Rattle.load_vectors.proofs.rows.add_hangers.Given as goal

abbrev pub invariant-loop-number : goal.invariant-loop-number
invariant-loop-number l = record {
  rows : length l.loads ≡ length l.fn.loads;
  adds : AddsLoads l.m (flat_map (hanger_loads l.case) (take l.number l.m.restraints)) l.fn.loads l.loads;
  size : AreOfLoads (4000 + l.number) l.loads;
}
