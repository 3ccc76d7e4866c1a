use Rattle.std.proofs.Common.{◌≡◌, ◌≢◌, ◌<◌, ◌^◌, ℕ, pos, length}
use Rattle.int_laws.specs.Sums.{sum_below}
use Rattle.int_laws.specs.Matrices.{absolute}
use Rattle.lists.specs.Rows.{freedom_at}
use Rattle.flex_num.specs.Guarded.{value_at}
use Rattle.certificate.specs.RowResidual.{missed}
use Rattle.certificate.proofs.blocks.take_residuals.Given as goal

abbrev pub invariant-loop-s : goal.invariant-loop-s
invariant-loop-s l = record {
  same : length l.sums ≡ length l.initial.sums;
  small : l.total < 2 ^ 126;
  sum : pos l.total ≡ sum_below l.s (λ u. absolute (missed l.middle (pos l.shift) l.places l.initial.sums l.row (freedom_at l.nodes u)));
  taken : (u : ℕ) → u < l.s → value_at l.sums (freedom_at l.places (freedom_at l.nodes u)) ≡ pos 0;
  others : (j : ℕ) → ((u : ℕ) → u < l.s → freedom_at l.places (freedom_at l.nodes u) ≢ j) → value_at l.sums j ≡ value_at l.initial.sums j;
}
