use Rattle.lists.specs.Lists.{contents}
use Rattle.elim_tree.proofs.HandLemmas.{HandsUp}
use Rattle.elim_tree.proofs.later.hand_up.Given as goal

abbrev pub invariant-loop-place : goal.invariant-loop-place
invariant-loop-place l = HandsUp (contents l.initial.lists) l.place (contents l.lists)
