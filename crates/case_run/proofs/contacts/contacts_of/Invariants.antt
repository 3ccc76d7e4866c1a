use Rattle.std.proofs.Common.{◌≡◌}
use Rattle.std.specs.List.{flat_map, range_with_len}
use Rattle.structure.specs.Restraints.{restraint_at}
use Rattle.case_run.specs.Contacts.{kind_contacts}
use Rattle.case_run.proofs.contacts.contacts_of.Given as goal

abbrev pub invariant-loop-number : goal.invariant-loop-number
invariant-loop-number l = l.contacts.items ≡ flat_map (λ n. kind_contacts n (restraint_at l.m n).kind) (range_with_len 0 l.number)
