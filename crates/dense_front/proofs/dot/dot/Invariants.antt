use Rattle.std.proofs.Common.{◌≡◌, ◌*◌, ◌^◌, ◌≤◌}
use Rattle.std.specs.Int.RustNames.{unsigned_abs}
use Rattle.dense_front.specs.Square.{dot_of}
use Rattle.dense_front.proofs.dot.dot.Given as goal

abbrev pub invariant-loop-k : goal.invariant-loop-k
invariant-loop-k l = (l.sum ≡ dot_of l.k l.left l.right) × (unsigned_abs l.sum ≤ l.k * 2 ^ 114)
