use Rattle.solve.specs.Numerators.{TakesColumn}
use Rattle.solve.proofs.substitution.scatter.Given as goal

abbrev pub invariant-loop-v : goal.invariant-loop-v
invariant-loop-v l = TakesColumn l.initial.left l.left l.rows l.values l.j l.unknown l.v
