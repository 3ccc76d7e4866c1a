use Rattle.member_pairs.specs.Axes.{x_axis, y_axis, z_axis}
use Rattle.pipe_element.proofs.Enclosures.{by_mode}
use Rattle.pipe_element.proofs.members.members.Goals as goal

pub returns-clause-within : goal.returns-clause-within
returns-clause-within c = λ tube d pi l k w.
    by_mode _
    (c.axial.ensures.within _ d l k.axial w.tangent)
    (c.torsion.ensures.within _ d l k.torsion w.tangent)
    (c.bending.ensures.within _ d l x_axis k.bending (c.crossed_x.ensures.within _ w.tangent))
    (c.bending-2.ensures.within _ d l y_axis k.bending (c.crossed_y.ensures.within _ w.tangent))
    (c.bending-3.ensures.within _ d l z_axis k.bending (c.crossed_z.ensures.within _ w.tangent))
    (c.shear.ensures.within _ d l x_axis k.shear (c.crossed_x-2.ensures.within _ w.tangent) w.x_arm)
    (c.shear-2.ensures.within _ d l y_axis k.shear (c.crossed_y-2.ensures.within _ w.tangent) w.y_arm)
    (c.shear-3.ensures.within _ d l z_axis k.shear (c.crossed_z-2.ensures.within _ w.tangent) w.z_arm)
