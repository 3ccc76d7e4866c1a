use Rattle.member_pairs.proofs.vector.total.Goals as goal

pub returns-clause-within : goal.returns-clause-within
returns-clause-within c = λ x y in_x in_y.
    record {
      x = λ _. c.in_ok-x.ensures.within _ _ (in_x.x _) (in_y.x _);
      y = λ _. c.in_ok-y.ensures.within _ _ (in_x.y _) (in_y.y _);
      z = λ _. c.in_ok-z.ensures.within _ _ (in_x.z _) (in_y.z _);
    }
