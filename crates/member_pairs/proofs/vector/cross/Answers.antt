use Rattle.member_pairs.proofs.vector.cross.Goals as goal

pub returns-clause-within : goal.returns-clause-within
returns-clause-within c = λ x y in_x in_y.
    record {
      x = λ _. c.in_ok-x.ensures.within _ _ _ _ (in_x.y _) (in_y.z _) (in_x.z _) (in_y.y _);
      y = λ _. c.in_ok-y.ensures.within _ _ _ _ (in_x.z _) (in_y.x _) (in_x.x _) (in_y.z _);
      z = λ _. c.in_ok-z.ensures.within _ _ _ _ (in_x.x _) (in_y.y _) (in_x.y _) (in_y.x _);
    }
