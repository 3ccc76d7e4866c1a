use Rattle.std.proofs.Common.{◌≡◌, ℕ, ◌+◌, ◌*◌, ◌^◌, ◌<◌, ◌≤◌, sym, subst, length, unsigned_abs}
use Rattle.lists.specs.Rising.{IsRising}
use Rattle.lists.specs.Rows.{freedom_at}
use Rattle.cholesky_laws.specs.Fronts.{Update, update_entry}
use Rattle.dense_front.proofs.ChildLemmas.{child-small}
use Rattle.dense_front.proofs.columns.FrontUpdate.add_to.Goals as goal

pub add_update-requires-clause-child_small : goal.add_update-requires-clause-child_small
add_update-requires-clause-child_small c =
    let u = c.self.inside in
    let places = c.args.places.now in
    let up : IsRising u.later.items = subst (λ (u : Update). IsRising u.later) (sym c.self.view_is) c.requires.child_rising in
    let P : Update → Type 0 = λ u. (r c : ℕ) → c ≤ r → r < 6 * length places → unsigned_abs (update_entry u (freedom_at places r) (freedom_at places c)) < 2 ^ 113 in
    let small = subst P (sym c.self.view_is) c.requires.update_small in
    let matched = rw (c.deref.ensures.value) at c.match_places.ensures.value in
    rw (c.deref-2.ensures.value, c.deref-3.ensures.value)
    (child-small c.fronts_follow_the_recurrence.ensures.triangles places u.later.items _ u.square.items c.requires.rising up matched small)
