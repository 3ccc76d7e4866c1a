use Rattle.std.proofs.Common.{◌≡◌, ◌*◌, ◌-◌, ◌^◌, ◌<◌, ◌≤◌}
use Rattle.solve.proofs.refinement.scale_digits.Given as goal

abbrev pub invariant-loop-digits : goal.invariant-loop-digits
invariant-loop-digits l =
    record {
      value : l.scaled ≡ l.initial.scaled * 2 ^ l.digits;
      room : l.scaled < 2 ^ 106;
      at_most : l.digits ≤ 56;
    }

abbrev pub decreases-loop-digits : goal.decreases-loop-digits
decreases-loop-digits l = 56 - l.digits
