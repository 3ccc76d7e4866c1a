use Rattle.std.proofs.Common.{◌≡◌, length, vec_len}
use Rattle.std.specs.Vec.{vec_capacity}
use Rattle.certificate.specs.RowSums.{IsTracked}
use Rattle.certificate.proofs.row_sums.RowSums.clear.Given as goal

abbrev pub invariant-loop-at : goal.invariant-loop-at
invariant-loop-at l = record {
  tracked : IsTracked l.self-inside.sums.items l.self-inside.touched.items (vec_capacity l.self-inside.touched);
  same : length l.self-inside.sums.items ≡ length l.initial.self-inside.sums.items;
}

abbrev pub decreases-loop-at : goal.decreases-loop-at
decreases-loop-at l = vec_len l.self-inside.touched
