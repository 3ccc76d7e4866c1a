use Rattle.std.proofs.Common.{neg_ℤ}
use Rattle.factor.specs.Gather.{block_product}
use Rattle.factor.proofs.GatherLemmas.{IsGatheredTo}
use Rattle.factor.proofs.gather.gather.Given as goal

abbrev pub invariant-loop-place : goal.invariant-loop-place
invariant-loop-place l = IsGatheredTo 36 l.nodes l.reached l.initial.work l.work l.node (λ q t. neg_ℤ (block_product l.reached l.entries l.node q t)) l.place
