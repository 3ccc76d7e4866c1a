use Rattle.std.proofs.Common.{◌≡◌, ◌++◌, replicate}
use Rattle.structure.proofs.restraints.push_repeated.Given as goal

abbrev pub invariant-loop-step : goal.invariant-loop-step
invariant-loop-step l = l.numbers.items ≡ l.fn.numbers.items ++ replicate l._step l.number
