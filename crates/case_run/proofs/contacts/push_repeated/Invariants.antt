use Rattle.std.proofs.Common.{◌≡◌, ◌++◌, replicate}
use Rattle.case_run.proofs.contacts.push_repeated.Given as goal

abbrev pub invariant-loop-step : goal.invariant-loop-step
invariant-loop-step l = l.contacts.items ≡ l.fn.contacts.items ++ replicate l._step l.contact
