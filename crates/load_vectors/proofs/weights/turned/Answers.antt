use Rattle.load_vectors.proofs.VectorLemmas.{negative_size}
use Rattle.load_vectors.proofs.weights.turned.Goals as goal

pub returns-then-at_to-clause-size : goal.returns-then-at_to-clause-size
returns-then-at_to-clause-size c = rw c.negative.ensures.value (negative_size c.args.moment.now c.requires)
