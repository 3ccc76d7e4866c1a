use Rattle.std.proofs.Common.{to_z-of_z}
use Rattle.restraint_law.proofs.MemberLemmas.{stiffness_fits, anchor_held}
use Rattle.restraint_law.proofs.members.anchor_members.Goals as goal

pub returns-clause-encloses : goal.returns-clause-encloses
returns-clause-encloses c =
    let kt = c.stated_or-kt.ensures in
    let kr = c.stated_or-kr.ensures in
    rw (
      c.member.ensures.value,
      c.member-2.ensures.value,
      c.member-3.ensures.value,
      c.member-4.ensures.value,
      c.member-5.ensures.value,
      c.member-6.ensures.value,
      to_z-of_z (stiffness_fits _ kt.stiffness),
      to_z-of_z (stiffness_fits _ kr.stiffness),
      kt.value,
      kr.value,
      c.on_translation.ensures,
      c.on_translation-2.ensures,
      c.on_translation-3.ensures,
      c.on_rotation.ensures,
      c.on_rotation-2.ensures,
      c.on_rotation-3.ensures,
      c.point-one.ensures.value,
      c.point-zero.ensures.value,
    )
    (anchor_held c.args.node c.args.kt c.args.kr)
