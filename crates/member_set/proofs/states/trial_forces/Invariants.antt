use Rattle.std.proofs.Common.{◌≡◌, ℕ, ◌<◌, length, Ok}
use Rattle.member_set.specs.Members.{force_of}
use Rattle.member_set.specs.States.{trial_forces_of}
use Rattle.member_set.proofs.states.trial_forces.Given as goal

abbrev pub invariant-loop-k : goal.invariant-loop-k
invariant-loop-k l =
    record {
      one_each : length l.forces ≡ length l.b.members;
      value : (k : ℕ) → k < l.k → trial_forces_of l.b l.laws l.closed l.u k ≡ Ok (force_of l.forces k);
    }
