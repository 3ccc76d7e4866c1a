use Rattle.std.proofs.Common.{take}
use Rattle.lists.specs.Rising.{InsertsLater}
use Rattle.lists.proofs.rising.insert_later.Given as goal

abbrev pub invariant-loop-number : goal.invariant-loop-number
invariant-loop-number l = InsertsLater l.initial.list.items l.list.items (take l.number-index l.numbers) l.least
