use Rattle.std.proofs.Common.{◌≡◌, take}
use Rattle.pipeflex_top.specs.Analysis.{certified_count, uncertified_count}
use Rattle.pipeflex_top.proofs.tally.tally_of.Given as goal

abbrev pub invariant-loop-answer : goal.invariant-loop-answer
invariant-loop-answer l = record {
  certified : l.certified ≡ certified_count (take l.answer-index l.answers);
  uncertified : l.uncertified ≡ uncertified_count (take l.answer-index l.answers);
}
