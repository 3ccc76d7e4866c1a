use Rattle.std.proofs.Common.{◌≡◌, take}
use Rattle.report.specs.Checks.{count_of}
use Rattle.report.proofs.stations.count.Given as goal

abbrev pub invariant-loop-answer : goal.invariant-loop-answer
invariant-loop-answer l = l.count ≡ count_of l.outcome (take l.answer-index l.answers)
