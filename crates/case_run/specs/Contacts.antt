-- The contacts of a model, in the order of their state numbers: the members that hold one way, which are open or closed.
use Rattle.std.specs.Prelude.{ℕ, nat_lt, Bool, false, List, length, map, replicate, slice_index_or}
use Rattle.std.specs.List.{flat_map, range_with_len}
use Rattle.model_types.specs.Lists.{Lists}
use Rattle.model_types.specs.MemberCounts.{restraint_member_count}
use Rattle.model_types.specs.declared.answers.Cause.{Cause}
use Rattle.model_types.specs.declared.answers.Cause.TheVariants as causes
use Rattle.model_types.specs.declared.records.RestraintKind.{RestraintKind}
use Rattle.restraint_law.specs.States.{state_count_of, is_closed_at_rest}
use Rattle.structure.specs.Restraints.{restraint_at}
use Rattle.case_run.specs.declared.contacts.Contact.{Contact}

-- a contact of a member of a restraint: its second member holds against the restraint's direction
abbrev pub contact : ℕ → RestraintKind → ℕ → Contact
contact number kind part = record {
  restraint = record { 0 = number };
  minus = nat_lt 0 part;
  closed = is_closed_at_rest kind part;
}

-- the contacts of the restraint of that number
abbrev pub kind_contacts : ℕ → RestraintKind → List Contact
kind_contacts number kind =
    flat_map (λ part. replicate (state_count_of kind part) (contact number kind part)) (range_with_len 0 (restraint_member_count kind))

-- those of a model: one for each state number
abbrev pub contacts_of : Lists → List Contact
contacts_of m = flat_map (λ n. kind_contacts n (restraint_at m n).kind) (range_with_len 0 (length m.restraints))

-- the states from which a search starts: closed where the gap is 0
abbrev pub starting_states : Lists → List Bool
starting_states m = map (λ c. c.closed) (contacts_of m)

-- the cause that a contact is on neither side of its gap
abbrev pub contact_cause : Contact → Cause
contact_cause c = causes.State c.restraint c.minus

abbrev pub no_contact : Contact
no_contact = record { restraint = record { 0 = 0 }; minus = false; closed = false }

abbrev pub state_cause : Lists → ℕ → Cause
state_cause m number = contact_cause (slice_index_or (contacts_of m) number no_contact)
