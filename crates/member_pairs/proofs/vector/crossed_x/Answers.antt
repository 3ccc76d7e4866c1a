use Rattle.member_pairs.proofs.vector.crossed_x.Goals as goal

pub returns-clause-within : goal.returns-clause-within
returns-clause-within c = λ x h.
    record {
      x = λ _. c.point.ensures.within;
      y = λ _. h.z _;
      z = λ _. c.neg.ensures.within _ (h.y _);
    }
