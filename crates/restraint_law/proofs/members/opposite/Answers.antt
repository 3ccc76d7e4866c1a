use Rattle.std.proofs.Common.{refl, to_z-of_z}
use Rattle.restraint_law.proofs.DirectionLemmas.{part_fits, negated_fits, zero-sub}
use Rattle.restraint_law.proofs.members.opposite.Goals as goal

pub returns-clause-value : goal.returns-clause-value
returns-clause-value c =
    let d = c.args.d.now in
    rw (
      to_z-of_z (part_fits d.x c.requires.x_part),
      to_z-of_z (part_fits d.y c.requires.y_part),
      to_z-of_z (part_fits d.z c.requires.z_part),
      to_z-of_z (negated_fits d.x c.requires.x_part),
      to_z-of_z (negated_fits d.y c.requires.y_part),
      to_z-of_z (negated_fits d.z c.requires.z_part),
      zero-sub d.x,
      zero-sub d.y,
      zero-sub d.z,
    )
    refl
