use Rattle.std.proofs.Common.{◌≡◌, ℕ, ◌<◌, ◌≤◌, length}
use Rattle.member_set.specs.Members.{force_of}
use Rattle.certificate.specs.States.{held_force}
use Rattle.certificate.proofs.states.hold_forces.Given as goal

abbrev pub invariant-loop-k : goal.invariant-loop-k
invariant-loop-k l =
    record {
      one_each : length l.forces ≡ length l.b.members;
      done : (k : ℕ) → k < l.k → force_of l.forces k ≡ held_force l.b l.closed k (force_of l.fn.forces k);
      rest : (k : ℕ) → l.k ≤ k → force_of l.forces k ≡ force_of l.fn.forces k;
    }
