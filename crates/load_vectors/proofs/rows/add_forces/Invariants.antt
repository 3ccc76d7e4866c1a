use Rattle.std.proofs.Common.{◌≡◌, length, take}
use Rattle.std.specs.List.{flat_map}
use Rattle.load_vectors.specs.NodeLoads.{force_loads}
use Rattle.load_vectors.specs.Totals.{AddsLoads, AreOfLoads}
use Rattle.load_vectors.proofs.rows.add_forces.Given as goal

abbrev pub invariant-loop-number : goal.invariant-loop-number
invariant-loop-number l = record {
  rows : length l.loads ≡ length l.fn.loads;
  adds : AddsLoads l.m (flat_map (force_loads l.case.0) (take l.number l.m.forces)) l.fn.loads l.loads;
  size : AreOfLoads l.number l.loads;
}
