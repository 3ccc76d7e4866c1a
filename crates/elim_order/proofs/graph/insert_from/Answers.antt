use Rattle.elim_order.proofs.InsertLemmas.{already_there, put_there}
use Rattle.elim_order.proofs.graph.insert_from.Goals as goal
use Rattle.elim_order.proofs.graph.insert_from.Goals.{then-not-stands_at+in_ok-insert, else-not-stands_at}

pub returns : goal.returns
returns c =
    let xs = c.args.list.now.items in
    let p = c.place_from-place.result in
    let within = rw c.deref.ensures.value at c.place_from-place.ensures.within in
    let below = rw c.deref.ensures.value at c.place_from-place.ensures.below in
    let above = rw c.deref.ensures.value at c.place_from-place.ensures.above in
    elim c.if-not-stands_at.branch [
      | then-not-stands_at+in_ok-insert w ↦
          let free = rw c.deref-2.ensures.value at (c.stands_at.ensures.no w.if-not-stands_at.true) in
          rw w.list-is (rw w.in_ok-insert.ensures.items (put_there xs p c.args.number c.requires.rising within below above free))
      | else-not-stands_at w ↦
          let there = rw c.deref-2.ensures.value at (c.stands_at.ensures.yes w.if-not-stands_at.false) in
          rw w.list-is (already_there xs p c.args.number c.requires.rising there.0 there.1)
    ]
