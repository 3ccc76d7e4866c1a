use Rattle.std.proofs.Common.{◌≡◌, ◌<◌, ◌++◌, [], length, List, ℕ, get_or, subst, ap, ◌∙◌}
use Rattle.std.proofs.lemmas.List.{get_or_read}
use Rattle.std.specs.List.{flat_map, range_with_len}
use Rattle.model_types.specs.declared.records.Restraint.{Restraint}
use Rattle.structure.specs.Restraints.{no_restraint, restraint_at}
use Rattle.case_run.specs.declared.contacts.Contact.{Contact}
use Rattle.case_run.specs.Contacts.{kind_contacts}
use Rattle.case_run.proofs.Listing.{flat_map_range_more}
use Rattle.case_run.proofs.contacts.contacts_of.Goals as goal

pub loop-number-preserved : goal.loop-number-preserved
loop-number-preserved c =
    let m = c.args.m.now in
    let n = c.loop-number.number in
    let r = c.index-restraints-number.result in
    let records = c.restraints-restraints.ensures.records in
    let inside : n < length m.restraints = rw (← records) c.loop-number-test.true in
    let at : r ≡ restraint_at m n =
    subst (λ (rs : List Restraint). r ≡ get_or rs n no_restraint) records (get_or_read c.restraints-restraints.result.now n r c.loop-number-test.true c.index-restraints-number.is no_restraint) in
    let contacts : ℕ → List Contact = λ k. kind_contacts k (restraint_at m k).kind in
    c.in_ok-push_contacts.ensures
    ∙ ap (λ (xs : List Contact). xs ++ kind_contacts n r.kind) c.loop-number.invariant
    ∙ ap (λ (x : Restraint). flat_map contacts (range_with_len 0 n) ++ kind_contacts n x.kind) at
    ∙ flat_map_range_more contacts [] n
