use Rattle.std.proofs.Common.{Err}
use Rattle.std.proofs.lemmas.List.Sorted.{searched}
use Rattle.lists.proofs.RisingLemmas.{IsRising-insert, IsRising-le, Contains-insert, IsPlace}
use Rattle.lists.proofs.rising.insert_rising.Goals as goal

-- the place that the search answers
place_found : (c : goal.In_ok-insert) → IsPlace c.args.list.now.items c.in-Err.place c.args.number
place_found c =
    let found = searched c.args.list.now.items c.args.number (Err c.in-Err.place) (rw c.deref.ensures.value at c.in-Err.ensures.position) (IsRising-le _ c.requires) in
    record { within = found.0; below = found.1; above = found.2 }

pub returns-in_ok-insert-clause-rising : goal.returns-in_ok-insert-clause-rising
returns-in_ok-insert-clause-rising c =
    rw c.in_ok-insert.ensures.items (IsRising-insert _ _ _ c.requires (place_found c))

pub returns-in_ok-insert-clause-members : goal.returns-in_ok-insert-clause-members
returns-in_ok-insert-clause-members c x =
    rw c.in_ok-insert.ensures.items (Contains-insert _ _ _ x (place_found c).within)
