use Rattle.std.proofs.Common.{◌≡◌, map, take}
use Rattle.code_stress.proofs.CheckLemmas.{unchecked}
use Rattle.code_stress.proofs.answers.no_checks.Given as goal

abbrev pub invariant-loop-check : goal.invariant-loop-check
invariant-loop-check l = l.answers.items ≡ map (λ c. unchecked c.kind) (take l.check-index l.m.checks)
