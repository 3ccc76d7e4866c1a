use Rattle.std.proofs.Common.{◌++◌, replicate, ℕ, List, ap, ◌∙◌}
use Rattle.restraint_law.specs.States.{state_count_of}
use Rattle.case_run.specs.declared.contacts.Contact.{Contact}
use Rattle.case_run.specs.Contacts.{contact}
use Rattle.case_run.proofs.Listing.{flat_map_range_more}
use Rattle.case_run.proofs.contacts.push_contacts.Goals as goal

pub loop-part-preserved : goal.loop-part-preserved
loop-part-preserved c =
    let kind = c.args.r.now.kind in
    let own_of = λ (part : ℕ). replicate (state_count_of kind part) (contact c.args.restraint.0 kind part) in
    let own = rw (c.state_count.ensures, c.starts_closed.ensures) at c.in_ok-push_repeated.ensures in
    own ∙ ap (λ (xs : List Contact). xs ++ own_of c.loop-part.part) c.loop-part.invariant ∙ flat_map_range_more own_of c.args.contacts.now.items c.loop-part.part
