use Rattle.bound_laws.proofs.NearnessLaw.{matrix_exists, equilibria_near}
use Rattle.bound_laws.proofs.RadiusLaw.{near_enclosed}
use Rattle.bound_laws.proofs.RoundingLaw.{sizes_give_length, root_is_length, rounded_radii_are_enough, radii_are_not_negative}
use Rattle.bound_laws.proofs.equilibria_are_near.Goals as goal

pub returns : goal.returns
returns c =
    record {
      matrix = matrix_exists;
      near = equilibria_near c.laws_keep_stretch.ensures.keep;
      enclosed = near_enclosed;
      length = sizes_give_length;
      root = root_is_length;
      radii = rounded_radii_are_enough;
      not_negative = radii_are_not_negative;
    }
