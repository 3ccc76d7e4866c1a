use Rattle.factor.specs.Panel.{kept_for}
use Rattle.factor.proofs.GatherLemmas.{IsGatheredTo}
use Rattle.factor.proofs.gather.add_squares.Given as goal

abbrev pub invariant-loop-place : goal.invariant-loop-place
invariant-loop-place l = IsGatheredTo 6 l.nodes l.reached l.initial.sums l.sums l.node (λ q r. kept_for 6 l.reached l.squares q r) l.place
