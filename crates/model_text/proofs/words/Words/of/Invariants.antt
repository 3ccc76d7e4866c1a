use Rattle.std.proofs.Common.{ℕ, List, length, map, option_copied, Bor}
use Rattle.model_text.specs.Words.{parts_left}
use Rattle.model_text.proofs.WordLemmas.{IsCutUpTo}
use Rattle.model_text.proofs.words.Words.of.Given as goal

abbrev pub invariant-loop-rest : goal.invariant-loop-rest
invariant-loop-rest l = IsCutUpTo l.line (parts_left (option_copied l.rest)) l.count (map (λ (part : Bor (List ℕ)). part.now) l.first)

abbrev pub decreases-loop-rest : goal.decreases-loop-rest
decreases-loop-rest l = length (parts_left (option_copied l.rest))
