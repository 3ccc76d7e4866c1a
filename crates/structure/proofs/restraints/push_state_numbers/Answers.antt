use Rattle.std.proofs.Common.{◌+◌, ◌++◌, replicate, ℕ, List, ap, ◌∙◌}
use Rattle.restraint_law.specs.States.{state_count_of}
use Rattle.structure.proofs.Runs.{flat_map_range_more}
use Rattle.structure.proofs.restraints.push_state_numbers.Goals as goal

pub loop-part-preserved : goal.loop-part-preserved
loop-part-preserved c =
    let numbers = λ (part : ℕ). replicate (state_count_of c.args.r.now.kind part) (c.args.first + part) in
    let own = rw c.state_count.ensures at c.in_ok-push_repeated.ensures in
    own ∙ ap (λ (xs : List ℕ). xs ++ numbers c.loop-part.part) c.loop-part.invariant ∙ flat_map_range_more numbers c.args.numbers.now.items c.loop-part.part
