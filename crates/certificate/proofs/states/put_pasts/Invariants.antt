use Rattle.std.proofs.Common.{◌≡◌, ℕ, ◌<◌, List, length, Ok}
use Rattle.flex_interval.specs.Ends.{Ends}
use Rattle.member_set.specs.Members.{system, force_of}
use Rattle.certificate.specs.States.{state_past}
use Rattle.certificate.proofs.states.put_pasts.Given as goal

abbrev pub invariant-loop-number : goal.invariant-loop-number
invariant-loop-number l =
    record {
      one_each : length l.pasts ≡ length l.b.unilateral;
      pasts : (loads : List Ends) (n : ℕ) → n < l.number → state_past (system l.b l.laws loads) l.bounds n ≡ Ok (force_of l.pasts n);
    }
