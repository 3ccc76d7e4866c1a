use Rattle.std.proofs.Common.{◌≡◌, ℕ, ◌<◌, length, slice_index_or, Some, false}
use Rattle.member_set.specs.Members.{force_of}
use Rattle.certificate.specs.States.{judged}
use Rattle.certificate.proofs.states.judge_states.Given as goal

abbrev pub invariant-loop-number : goal.invariant-loop-number
invariant-loop-number l =
    record {
      one_each : length l.closed ≡ length l.pasts;
      states : (n : ℕ) → n < l.number → judged (force_of l.pasts n) ≡ Some (slice_index_or l.closed n false);
    }
