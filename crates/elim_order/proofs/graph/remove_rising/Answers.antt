use Rattle.std.proofs.Common.{Ok, Err, ◌<◌, ℕ, Contains, subst}
use Rattle.std.proofs.lemmas.List.Quantifiers.{all_pairs_remove}
use Rattle.lists.proofs.RisingLemmas.{place_found}
use Rattle.elim_order.proofs.ListLemmas.{Contains-remove}
use Rattle.elim_order.proofs.graph.remove_rising.Goals as goal

pub returns-in-Ok-clause-rising : goal.returns-in-Ok-clause-rising
returns-in-Ok-clause-rising c =
    let at = place_found c.args.list.now.items c.args.number (Ok c.in-Ok.place) c.requires (rw c.deref.ensures.value at c.in-Ok.ensures.position) in
    rw c.remove.ensures.items (all_pairs_remove (λ x y. x < y) c.args.list.now.items c.in-Ok.place at.0 c.requires)

pub returns-in-Ok-clause-members : goal.returns-in-Ok-clause-members
returns-in-Ok-clause-members c k =
    let at = place_found c.args.list.now.items c.args.number (Ok c.in-Ok.place) c.requires (rw c.deref.ensures.value at c.in-Ok.ensures.position) in
    rw c.remove.ensures.items (Contains-remove c.args.list.now.items c.in-Ok.place c.args.number k c.requires at.0 at.1)

pub returns-in_default-clause-members : goal.returns-in_default-clause-members
returns-in_default-clause-members c k =
    let absent = place_found c.args.list.now.items c.args.number (Err c.in_default.field-0) c.requires (rw c.deref.ensures.value at c.in_default.ensures.position) in
    (λ h. (h, λ e. absent (subst (λ (n : ℕ). Contains c.args.list.now.items n) e h)), λ h. h.0)
