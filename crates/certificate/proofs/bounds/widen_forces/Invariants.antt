use Rattle.std.proofs.Common.{◌≡◌, ℕ, ◌<◌, ◌≤◌, ◌^◌, length, pos, ◌<ℤ◌}
use Rattle.member_set.specs.Members.{member_of, force_of}
use Rattle.bound_laws.specs.Nearness.{widened, force_radius_of}
use Rattle.certificate.proofs.bounds.widen_forces.Given as goal

abbrev pub invariant-loop-k : goal.invariant-loop-k
invariant-loop-k l =
    record {
      one_each : length l.forces ≡ length l.b.members;
      wider : (k : ℕ) → k < l.k → force_of l.forces k ≡ widened (force_of l.fn.forces k) (force_radius_of l.lambda l.size (member_of l.b k).kappa.hi);
      rest : (k : ℕ) → l.k ≤ k → force_of l.forces k ≡ force_of l.fn.forces k;
      steady : (k : ℕ) → k < l.k → force_radius_of l.lambda l.size (member_of l.b k).kappa.hi <ℤ pos (2 ^ 60);
    }
