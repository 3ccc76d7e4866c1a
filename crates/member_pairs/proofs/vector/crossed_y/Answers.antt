use Rattle.member_pairs.proofs.vector.crossed_y.Goals as goal

pub returns-clause-within : goal.returns-clause-within
returns-clause-within c = λ x h.
    record {
      x = λ _. c.neg.ensures.within _ (h.z _);
      y = λ _. c.point.ensures.within;
      z = λ _. h.x _;
    }
