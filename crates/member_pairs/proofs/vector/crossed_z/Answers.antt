use Rattle.member_pairs.proofs.vector.crossed_z.Goals as goal

pub returns-clause-within : goal.returns-clause-within
returns-clause-within c = λ x h.
    record {
      x = λ _. h.y _;
      y = λ _. c.neg.ensures.within _ (h.x _);
      z = λ _. c.point.ensures.within;
    }
