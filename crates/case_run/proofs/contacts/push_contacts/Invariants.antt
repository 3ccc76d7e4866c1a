use Rattle.std.proofs.Common.{◌≡◌, ◌++◌, replicate}
use Rattle.std.specs.List.{flat_map, range_with_len}
use Rattle.restraint_law.specs.States.{state_count_of}
use Rattle.case_run.specs.Contacts.{contact}
use Rattle.case_run.proofs.contacts.push_contacts.Given as goal

abbrev pub invariant-loop-part : goal.invariant-loop-part
invariant-loop-part l =
    l.contacts.items ≡ l.fn.contacts.items ++ flat_map (λ part. replicate (state_count_of l.r.kind part) (contact l.restraint.0 l.r.kind part)) (range_with_len 0 l.part)
