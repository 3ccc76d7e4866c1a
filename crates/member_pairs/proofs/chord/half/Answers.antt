use Rattle.member_pairs.specs.Lengths.{half_of, half_length}
use Rattle.member_pairs.proofs.chord.half.Goals as goal

pub returns-clause-value : goal.returns-clause-value
unfolding half_of
returns-clause-value c = c.ratio.ensures.value

pub returns-clause-within : goal.returns-clause-within
unfolding half_length
returns-clause-within c = c.ratio.ensures.within
