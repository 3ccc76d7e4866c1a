use Rattle.std.proofs.Common.{◌≡◌, ◌-ℤ◌, ◌+ℤ◌, ◌*ℤ◌, pos}
use Rattle.solve.specs.Numerators.{gathered, gathered_size}
use Rattle.solve.specs.Substitution.{at}
use Rattle.int_laws.specs.Matrices.{absolute}
use Rattle.solve.proofs.substitution.gather.Given as goal

abbrev pub invariant-loop-v : goal.invariant-loop-v
invariant-loop-v l =
    record {
      value : l.numerator.value ≡ (at l.x l.j *ℤ l.scale) -ℤ gathered l.rows l.values l.x l.j l.v;
      size : pos l.numerator.size ≡ absolute (at l.x l.j *ℤ l.scale) +ℤ gathered_size l.rows l.values l.x l.j l.v;
    }
