use Rattle.std.proofs.Common.{◌∷◌, [], ◌++◌, ℕ, List, take, get_or, arith}
use Rattle.std.proofs.lemmas.List.{take_more}
use Rattle.lists.specs.Rising.{InsertsLater}
use Rattle.lists.proofs.LaterLemmas.{inserts_more, inserts_skip}
use Rattle.lists.proofs.rising.insert_later.Goals as goal
use Rattle.lists.proofs.rising.insert_later.Goals.{then-number-least+in_ok-insert_rising, else-number-least}

pub loop-number-preserved : goal.loop-number-preserved
loop-number-preserved c =
    let i = c.loop-number.number-index in
    let ns = c.args.numbers.now in
    let old = c.args.list.now.items in
    let P : List ℕ → Type 0 = λ xs. InsertsLater old xs (take i ns ++ get_or ns i 0 ∷ []) c.args.least in
    rw (take_more ns i 0 (omega arith))
    (elim c.if-number-least.branch [
      | then-number-least+in_ok-insert_rising w ↦
          rw w.list-is (inserts_more old c.loop-number.list.items w.insert_rising.new.list.items (take i ns) (get_or ns i 0) c.args.least c.loop-number.invariant w.in_ok-insert_rising.ensures.rising w.in_ok-insert_rising.ensures.members w.if-number-least.true)
      | else-number-least w ↦ rw w.list-is (inserts_skip old c.loop-number.list.items (take i ns) (get_or ns i 0) c.args.least c.loop-number.invariant w.if-number-least.false)
    ])
