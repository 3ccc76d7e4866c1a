use Rattle.std.proofs.Common.{to_z-of_z}
use Rattle.restraint_law.specs.Directions.{parts}
use Rattle.restraint_law.specs.Restraints.{direction_stiffness}
use Rattle.restraint_law.proofs.MemberLemmas.{stiffness_fits, rotation_held}
use Rattle.restraint_law.proofs.members.rotation_member.Goals as goal

pub returns-clause-holds : goal.returns-clause-holds
returns-clause-holds c =
    let stiffness = c.stated_or-k.ensures in
    let enclosed = rw c.unit_vector.ensures.value at c.unit_vector.ensures.within in
    record {
      along = λ l inside.
          rw (c.member.ensures.value, to_z-of_z (stiffness_fits _ stiffness.stiffness), stiffness.value, c.on_rotation.ensures, c.unit_vector.ensures.value)
          (rotation_held c.args.node (direction_stiffness c.args.k) (parts c.args.d.now) l (enclosed l inside));
      exact = c.unit_vector.ensures.length;
    }
