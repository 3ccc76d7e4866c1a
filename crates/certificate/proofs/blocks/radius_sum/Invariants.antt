use Rattle.std.proofs.Common.{◌≡◌, ◌≤◌, ◌*◌, ◌^◌, pos}
use Rattle.int_laws.specs.Sums.{sum_below}
use Rattle.sym_blocks.specs.Matrix.{entry}
use Rattle.lists.specs.Rows.{freedom_at}
use Rattle.certificate.proofs.blocks.radius_sum.Given as goal

abbrev pub invariant-loop-s : goal.invariant-loop-s
invariant-loop-s l = record {
  sum : pos l.total ≡ sum_below l.s (λ s. entry l.radii l.row (freedom_at l.nodes s));
  bound : l.total ≤ l.s * 2 ^ 60;
}
