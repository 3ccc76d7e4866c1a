use Rattle.std.proofs.Common.{to_z-of_z}
use Rattle.restraint_law.proofs.MemberLemmas.{stiffness_fits, hanger_held}
use Rattle.restraint_law.proofs.members.hanger_member.Goals as goal

pub returns-clause-holds : goal.returns-clause-holds
returns-clause-holds c =
    rw (
      c.member.ensures.value,
      to_z-of_z (stiffness_fits _ c.requires),
      c.on_translation.ensures,
      c.point-zero.ensures.value,
      c.point.ensures.value,
    )
    (hanger_held c.args.node c.args.rate)
