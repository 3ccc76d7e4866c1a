use Rattle.std.proofs.Common.{◌≡◌, ℕ, ◌<◌, get_or, not, false}
use Rattle.model_types.specs.declared.records.Tee.{Tee}
use Rattle.model_types.specs.Tees.{is_tee}
use Rattle.model_types.proofs.tees.first_broken.Given as goal

-- the tees before are made
abbrev pub invariant-loop-number : goal.invariant-loop-number
invariant-loop-number l = (k : ℕ) (d : Tee) → k < l.number → not (is_tee l.nodes l.elements (get_or l.tees k d)) ≡ false
