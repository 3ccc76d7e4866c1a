use Rattle.std.proofs.Common.{◌≡◌, ℕ, ◌<◌, List, length, Ok}
use Rattle.flex_interval.specs.Ends.{Ends}
use Rattle.flex_interval.specs.Fraction.{Within}
use Rattle.member_set.specs.Members.{force_of, system}
use Rattle.member_set.specs.Realisation.{Realisation, IsRealisation, displaced, force_in, force_fraction}
use Rattle.member_set.specs.Interval.{forces_of}
use Rattle.member_set.proofs.residuals.member_forces.Given as goal

abbrev pub invariant-loop-k : goal.invariant-loop-k
invariant-loop-k l =
    record {
      one_each : length l.forces ≡ length l.b.members;
      value : (k : ℕ) → k < l.k → forces_of l.b l.laws l.u k ≡ Ok (force_of l.forces k);
      within : (loads : List Ends) (r : Realisation) → IsRealisation (system l.b l.laws loads) r → (k : ℕ) → k < l.k →
          Within (force_of l.forces k) (force_fraction r.stiffness.denominator (force_in r (displaced r.stiffness.denominator l.u) k));
    }
