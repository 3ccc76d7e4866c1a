use Rattle.std.proofs.Common.{◌≡◌, [], replicate}
use Rattle.certificate.proofs.space.no_entries.Given as goal

abbrev pub invariant-loop : goal.invariant-loop
invariant-loop l = l.lists.items ≡ replicate l.counter []
