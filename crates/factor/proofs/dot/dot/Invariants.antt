use Rattle.std.proofs.Common.{◌≡◌, ◌*◌, ◌^◌, ◌≤◌}
use Rattle.std.specs.Int.RustNames.{unsigned_abs}
use Rattle.factor.specs.Panel.{partial_product}
use Rattle.factor.proofs.dot.dot.Given as goal

abbrev pub invariant-loop-k : goal.invariant-loop-k
invariant-loop-k l = (l.sum ≡ partial_product l.k l.left l.right) × (unsigned_abs l.sum ≤ l.k * 2 ^ 114)
