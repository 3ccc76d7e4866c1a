use Rattle.std.proofs.Common.{◌≡◌, refl, to_z-of_z}
use Rattle.restraint_law.specs.Enclosures.{EnclosesRestraint}
use Rattle.restraint_law.specs.Restraints.{restraint_members}
use Rattle.restraint_law.proofs.DirectionLemmas.{part_fits}
use Rattle.restraint_law.proofs.GapLemmas.{gap_fits}
use Rattle.restraint_law.proofs.MemberLemmas.{copy_holds}
use Rattle.restraint_law.proofs.members.restraint.Goals as goal

pub returns-in-Linear-clause-value : goal.returns-in-Linear-clause-value
returns-in-Linear-clause-value c =
    let direction = (rw c.in-Linear.is at c.requires).0 in
    let value = rw (
      c.towards-d.ensures,
      to_z-of_z (part_fits _ direction.x_part),
      to_z-of_z (part_fits _ direction.y_part),
      to_z-of_z (part_fits _ direction.z_part),
    ) at c.translation_member.ensures.value in
    copy_holds _ _ (λ members. members ≡ restraint_members c.args.r.now) (rw (c.in-Linear.is, value) refl) c.to_vec-in-Linear.ensures.items_if_clones_equal

pub returns-in-Linear-clause-encloses : goal.returns-in-Linear-clause-encloses
returns-in-Linear-clause-encloses c =
    let direction = (rw c.in-Linear.is at c.requires).0 in
    let holds = rw (
      c.towards-d.ensures,
      to_z-of_z (part_fits _ direction.x_part),
      to_z-of_z (part_fits _ direction.y_part),
      to_z-of_z (part_fits _ direction.z_part),
    ) at c.translation_member.ensures.holds in
    copy_holds _ _ (EnclosesRestraint c.args.r.now.kind) (rw c.in-Linear.is holds) c.to_vec-in-Linear.ensures.items_if_clones_equal

pub returns-in-Twist-clause-value : goal.returns-in-Twist-clause-value
returns-in-Twist-clause-value c =
    let direction = (rw c.in-Twist.is at c.requires).0 in
    let value = rw (
      c.towards-d-in-Twist.ensures,
      to_z-of_z (part_fits _ direction.x_part),
      to_z-of_z (part_fits _ direction.y_part),
      to_z-of_z (part_fits _ direction.z_part),
    ) at c.rotation_member.ensures.value in
    copy_holds _ _ (λ members. members ≡ restraint_members c.args.r.now) (rw (c.in-Twist.is, value) refl) c.to_vec-in-Twist.ensures.items_if_clones_equal

pub returns-in-Twist-clause-encloses : goal.returns-in-Twist-clause-encloses
returns-in-Twist-clause-encloses c =
    let direction = (rw c.in-Twist.is at c.requires).0 in
    let holds = rw (
      c.towards-d-in-Twist.ensures,
      to_z-of_z (part_fits _ direction.x_part),
      to_z-of_z (part_fits _ direction.y_part),
      to_z-of_z (part_fits _ direction.z_part),
    ) at c.rotation_member.ensures.holds in
    copy_holds _ _ (EnclosesRestraint c.args.r.now.kind) (rw c.in-Twist.is holds) c.to_vec-in-Twist.ensures.items_if_clones_equal

pub returns-in-Oneway-clause-value : goal.returns-in-Oneway-clause-value
returns-in-Oneway-clause-value c =
    let direction = (rw c.in-Oneway.is at c.requires).0 in
    let value = rw (
      c.towards-d-in-Oneway.ensures,
      to_z-of_z (part_fits _ direction.x_part),
      to_z-of_z (part_fits _ direction.y_part),
      to_z-of_z (part_fits _ direction.z_part),
    ) at c.translation_member-in-Oneway.ensures.value in
    copy_holds _ _ (λ members. members ≡ restraint_members c.args.r.now) (rw (c.in-Oneway.is, value) refl) c.to_vec-in-Oneway.ensures.items_if_clones_equal

pub returns-in-Oneway-clause-encloses : goal.returns-in-Oneway-clause-encloses
returns-in-Oneway-clause-encloses c =
    let direction = (rw c.in-Oneway.is at c.requires).0 in
    let holds = rw (
      c.towards-d-in-Oneway.ensures,
      to_z-of_z (part_fits _ direction.x_part),
      to_z-of_z (part_fits _ direction.y_part),
      to_z-of_z (part_fits _ direction.z_part),
    ) at c.translation_member-in-Oneway.ensures.holds in
    copy_holds _ _ (EnclosesRestraint c.args.r.now.kind) (rw c.in-Oneway.is holds) c.to_vec-in-Oneway.ensures.items_if_clones_equal

pub returns-in-Gap-clause-encloses : goal.returns-in-Gap-clause-encloses
returns-in-Gap-clause-encloses c =
    let form = rw c.in-Gap.is at c.requires in
    let direction = form.0 in
    let encloses = rw (
      c.towards-d-in-Gap.ensures,
      to_z-of_z (part_fits _ direction.x_part),
      to_z-of_z (part_fits _ direction.y_part),
      to_z-of_z (part_fits _ direction.z_part),
      to_z-of_z (gap_fits _ form.1),
    ) at c.gap_members.ensures.encloses in
    rw c.in-Gap.is encloses
