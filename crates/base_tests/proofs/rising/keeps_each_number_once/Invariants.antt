use Rattle.lists.specs.Rising.{IsRising}
use Rattle.base_tests.proofs.rising.keeps_each_number_once.Given as goal

abbrev pub invariant-loop-number : goal.invariant-loop-number
invariant-loop-number g l = IsRising l.list.items

abbrev pub invariant-loop-number-2 : goal.invariant-loop-number-2
invariant-loop-number-2 g l = IsRising l.list.items
