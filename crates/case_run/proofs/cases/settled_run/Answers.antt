use Rattle.std.proofs.Common.{ℕ, List, length, ap, sym, ◌∙◌}
use Rattle.std.proofs.lemmas.List.{length-map}
use Rattle.std.specs.Prelude.{Bool}
use Rattle.case_run.specs.declared.contacts.Contact.{Contact}
use Rattle.case_run.specs.Contacts.{contacts_of}
use Rattle.case_run.proofs.ContactLemmas.{one_contact_each}
use Rattle.case_run.proofs.cases.settled_run.Goals as goal

pub bounded_run-requires-clause-one_contact_each : goal.bounded_run-requires-clause-one_contact_each
bounded_run-requires-clause-one_contact_each g c = one_contact_each c.args.m.now ∙ sym (ap (λ (xs : List ℕ). length xs) c.requires.ready.structure.unilateral)

pub settled-requires : goal.settled-requires
settled-requires g c =
    let ready = c.requires.ready in
    let m = c.args.m.now in
    let counted = one_contact_each m ∙ sym (ap (λ (xs : List ℕ). length xs) ready.structure.unilateral) in
    rw c.deref.ensures.value
    (record {
      system = c.requires.system;
      plan = ready.plan;
      nodes = ready.nodes ∙ sym ready.structure.nodes;
      takes_structure = ready.takes_structure;
      one_state_each = ap (λ (xs : List Bool). length xs) ready.start ∙ length-map (contacts_of m) (λ (x : Contact). x.closed) ∙ counted;
      given = ready.given;
      own_order = ready.own_order;
      fits = ready.fits;
    })
