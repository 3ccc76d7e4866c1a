use Rattle.lists.specs.Lists.{contents}
use Rattle.structure.specs.Touching.{ListsTouching}
use Rattle.structure.proofs.touching.list_members.Given as goal

abbrev pub invariant-loop-number : goal.invariant-loop-number
invariant-loop-number l = ListsTouching l.members l.number (contents l.lists)
