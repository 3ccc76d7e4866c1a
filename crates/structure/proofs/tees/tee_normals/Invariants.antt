use Rattle.std.proofs.Common.{◌≡◌, ℕ, ◌<◌, ◌≤◌, length, get_or, drop}
use Rattle.std.specs.Prelude.{◌==◌, None}
use Rattle.std.specs.List.{find}
use Rattle.model_types.specs.declared.records.Tee.{Tee}
use Rattle.structure.specs.Tees.{HasNormal, normal_across}
use Rattle.structure.proofs.tees.tee_normals.Given as goal

abbrev pub invariant-loop-number : goal.invariant-loop-number
invariant-loop-number l = record {
  count : length l.normals.items ≡ length l.m.nodes;
  each : (node : ℕ) → get_or l.normals.items node None ≡ normal_across l.m (find (λ t. t.node.0 == node) (drop l.number l.m.tees));
  holds : (k : ℕ) (d : Tee) → l.number ≤ k → k < length l.m.tees → HasNormal l.m (get_or l.m.tees k d);
}
