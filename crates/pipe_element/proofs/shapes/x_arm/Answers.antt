use Rattle.pipe_element.specs.ExactStraight.{lever_arm}
use Rattle.pipe_element.proofs.shapes.x_arm.Goals as goal

pub returns-clause-within : goal.returns-clause-within
unfolding lever_arm
returns-clause-within c = λ l half part.
    let along = c.in_ok-along_x.ensures.within _ part in
    record {
      x = λ _. c.in_ok-sub.ensures.within _ _ half (along.x _);
      y = λ _. c.neg.ensures.within _ (along.y _);
      z = λ _. c.neg-2.ensures.within _ (along.z _);
    }
