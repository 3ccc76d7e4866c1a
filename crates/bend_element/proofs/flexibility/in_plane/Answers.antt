use Rattle.bend_element.specs.ExactBend.{chord_flexibility, plane_centre}
use Rattle.bend_element.proofs.flexibility.in_plane.Goals as goal

pub returns-clause-within : goal.returns-clause-within
unfolding chord_flexibility plane_centre
returns-clause-within c = λ x h i.
    let bending = c.in_ok-bending.ensures.within x h in
    let gyration = c.in_ok-gyration.ensures.within in
    record {
      rotation = c.in_ok-rotation.ensures.within x h;
      radial = c.in_ok-radial.ensures.within _ x bending gyration i.sine_square;
      chord = c.in_ok-chord.ensures.within _ _ _ _ bending i.spread gyration i.cosine_square;
      centre = c.in_ok-centre.ensures.within x _ _ h h.sin h.a;
    }
