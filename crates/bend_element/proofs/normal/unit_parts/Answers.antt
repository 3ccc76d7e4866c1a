use Rattle.std.proofs.Common.{to_z-of_z}
use Rattle.bend_element.specs.Normal.{unit_normal}
use Rattle.bend_element.proofs.NormalLemmas.{part_fits}
use Rattle.bend_element.proofs.normal.unit_parts.Goals as goal

pub returns-clause-within : goal.returns-clause-within
unfolding unit_normal
returns-clause-within c = λ l in_l.
    record {
      x = λ _. (rw (to_z-of_z (part_fits c.args.normal.now.x c.requires.normal.x)) at c.in_ok-x.ensures.within) l in_l;
      y = λ _. (rw (to_z-of_z (part_fits c.args.normal.now.y c.requires.normal.y)) at c.in_ok-y.ensures.within) l in_l;
      z = λ _. (rw (to_z-of_z (part_fits c.args.normal.now.z c.requires.normal.z)) at c.in_ok-z.ensures.within) l in_l;
    }
