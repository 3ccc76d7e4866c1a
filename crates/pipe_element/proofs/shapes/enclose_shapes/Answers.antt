use Rattle.pipe_element.proofs.shapes.enclose_shapes.Goals as goal

pub returns-clause-within : goal.returns-clause-within
returns-clause-within c = λ l in_l.
    let t = c.in_ok-tangent.ensures.within l in_l in
    let half = c.in_ok-half.ensures.within l in_l in
    record {
      tangent = t;
      x_arm = c.in_ok-x_arm.ensures.within l half (t.x _);
      y_arm = c.in_ok-y_arm.ensures.within l half (t.y _);
      z_arm = c.in_ok-z_arm.ensures.within l half (t.z _);
    }
