use Rattle.section_data.specs.Tube.{exact_weight_of}
use Rattle.section_data.proofs.tube.weight.Goals as goal

pub returns-clause-within : goal.returns-clause-within
unfolding exact_weight_of
returns-clause-within c = λ x within. c.small_sum.ensures.within _ _ (c.pipe_weight-pipe.ensures.within x within) c.extra_weight-rest.ensures.within
