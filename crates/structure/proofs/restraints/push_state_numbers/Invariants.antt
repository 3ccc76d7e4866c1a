use Rattle.std.proofs.Common.{◌≡◌, ◌+◌, ◌++◌, replicate}
use Rattle.std.specs.List.{flat_map, range_with_len}
use Rattle.restraint_law.specs.States.{state_count_of}
use Rattle.structure.proofs.restraints.push_state_numbers.Given as goal

abbrev pub invariant-loop-part : goal.invariant-loop-part
invariant-loop-part l = l.numbers.items ≡ l.fn.numbers.items ++ flat_map (λ part. replicate (state_count_of l.r.kind part) (l.first + part)) (range_with_len 0 l.part)
