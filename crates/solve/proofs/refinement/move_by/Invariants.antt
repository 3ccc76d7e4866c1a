use Rattle.member_set.specs.Members.{IsModerate}
use Rattle.solve.proofs.Moving.{IsMoving}
use Rattle.solve.proofs.refinement.move_by.Given as goal

abbrev pub invariant-loop-j : goal.invariant-loop-j
invariant-loop-j l =
    record {
      moving : IsMoving l.order l.initial.u l.z l.u l.j;
      moderate : IsModerate l.u;
    }
