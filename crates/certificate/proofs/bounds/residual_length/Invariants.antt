use Rattle.std.proofs.Common.{◌≡◌, ℕ, ◌<◌, ◌^◌, pos, ◌*ℤ◌}
use Rattle.std.specs.Prelude.{IsOk}
use Rattle.int_laws.specs.Sums.{sum_below}
use Rattle.member_set.specs.Interval.{residual_of}
use Rattle.bound_laws.specs.Nearness.{greater_size}
use Rattle.certificate.specs.Bounds.{residual_at}
use Rattle.certificate.proofs.bounds.residual_length.Given as goal
use Rattle.member_set.specs.Members.{system}

abbrev pub invariant-loop-row : goal.invariant-loop-row
invariant-loop-row l =
    record {
      short : l.sum < 2 ^ 126;
      sum : pos l.sum ≡ sum_below l.row (λ row. greater_size (residual_at (system l.b l.laws l.loads) l.u row) *ℤ greater_size (residual_at (system l.b l.laws l.loads) l.u row));
      residuals : (row : ℕ) → row < l.row → IsOk (residual_of (system l.b l.laws l.loads) l.u row);
    }
