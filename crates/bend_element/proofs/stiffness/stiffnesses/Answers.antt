use Rattle.bend_element.proofs.stiffness.stiffnesses.Goals as goal

pub returns-clause-within : goal.returns-clause-within
returns-clause-within c = λ tube x p rigidity f.
    record {
      rotation = c.in_ok-rotation.ensures.within _ _ rigidity f.plane.rotation;
      radial = c.in_ok-radial.ensures.within _ _ rigidity f.plane.radial;
      chord = c.in_ok-chord.ensures.within _ _ rigidity f.plane.chord;
      radius_moment = c.in_ok-radius_moment.ensures.within _ _ rigidity f.across.radius_moment;
      chord_moment = c.in_ok-chord_moment.ensures.within _ _ rigidity f.across.chord_moment;
      normal = c.in_ok-normal.ensures.within _ _ rigidity f.across.normal;
    }
