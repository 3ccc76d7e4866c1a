use Rattle.bend_element.specs.ExactBend.{radius_moment_flexibility, chord_moment_flexibility, twisted_sine}
use Rattle.bend_element.proofs.flexibility.across_plane.Goals as goal

pub returns-clause-within : goal.returns-clause-within
unfolding radius_moment_flexibility chord_moment_flexibility twisted_sine
returns-clause-within c = λ x h i.
    let twist = c.in_ok-twist.ensures.within in
    let moment = c.in_ok-chord_moment.ensures.within _ _ _ _ h.k i.sine_square twist i.cosine_square in
    let sine = c.in_ok-sine.ensures.within _ _ twist h.sin in
    record {
      radius_moment = c.in_ok-radius_moment.ensures.within _ _ _ _ h.k i.cosine_square twist i.sine_square;
      chord_moment = moment;
      normal = c.in_ok-normal.ensures.within _ x h twist sine moment;
      centre = c.in_ok-centre.ensures.within _ x h sine moment;
    }
