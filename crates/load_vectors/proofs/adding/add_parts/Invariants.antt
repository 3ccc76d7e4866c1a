use Rattle.load_vectors.proofs.AddingLemmas.{IsAdding}
use Rattle.load_vectors.proofs.adding.add_parts.Given as goal

abbrev pub invariant-loop-freedom : goal.invariant-loop-freedom
invariant-loop-freedom l = IsAdding l.fn.loads l.loads l.node l.parts l.freedom
