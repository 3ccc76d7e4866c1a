use Rattle.member_pairs.proofs.vector.stretched.Goals as goal

pub returns-clause-within : goal.returns-clause-within
returns-clause-within c = λ p y in_p in_y.
    record {
      x = λ _. c.in_ok-a.ensures.within _ _ in_p (in_y.x _);
      y = λ _. c.in_ok-b.ensures.within _ _ in_p (in_y.y _);
      z = λ _. c.in_ok-c.ensures.within _ _ in_p (in_y.z _);
    }
