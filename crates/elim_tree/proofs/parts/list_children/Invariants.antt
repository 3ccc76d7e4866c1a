use Rattle.lists.specs.Lists.{contents}
use Rattle.elim_tree.specs.Parts.{ListsChildren}
use Rattle.elim_tree.proofs.parts.list_children.Given as goal

abbrev pub invariant-loop-child : goal.invariant-loop-child
invariant-loop-child l = ListsChildren l.parents l.child (contents l.children)
