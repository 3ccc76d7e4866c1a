use Rattle.std.proofs.Common.{◌≡◌, List, Ok}
use Rattle.flex_interval.specs.Fraction.{Within}
use Rattle.int_laws.specs.Matrices.{Vector}
use Rattle.member_set.specs.Realisation.{Realisation, IsStiffnessOf, HoldForces, pull_fraction}
use Rattle.member_set.specs.declared.members.Law.{Law}
use Rattle.code_stress.specs.Actions.{exact_held, sum_held}
use Rattle.code_stress.proofs.actions.sum_held.Given as goal

abbrev pub invariant-loop-part : goal.invariant-loop-part
invariant-loop-part l =
    record {
      value : sum_held l.b l.forces l.first l.part l.row ≡ Ok l.total;
      within : (laws : List Law) (r : Realisation) (u : Vector) → IsStiffnessOf l.b laws r.stiffness → HoldForces r u l.forces →
          Within l.total (pull_fraction r.stiffness.denominator (exact_held r u l.first l.part l.row));
    }
