use Rattle.std.proofs.Common.{◌≡◌, ℕ, ◌<◌, length, get_or, pos}
use Rattle.member_set.specs.Members.{nothing}
use Rattle.bound_laws.specs.Nearness.{widened, alone}
use Rattle.certificate.proofs.bounds.widen_displacements.Given as goal

abbrev pub invariant-loop-row : goal.invariant-loop-row
invariant-loop-row l =
    record {
      one_each : length l.displacements ≡ length l.u;
      around : (row : ℕ) → row < l.row → get_or l.displacements row nothing ≡ widened (alone (get_or l.u row (pos 0))) l.radius;
    }
