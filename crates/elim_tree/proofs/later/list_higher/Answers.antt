use Rattle.std.proofs.Common.{ℕ, min, take, get_or, arith, subst}
use Rattle.std.proofs.lemmas.List.{take_more}
use Rattle.lists.specs.Lists.{contents, ListsNumber}
use Rattle.elim_tree.proofs.PlacedLemmas.{higher_none, higher_more}
use Rattle.elim_tree.proofs.later.list_higher.Goals as goal

pub loop-n-init : goal.loop-n-init
loop-n-init c = higher_none c.args.places.now (contents c.args.lists.now) c.requires.rising

pub loop-n-preserved : goal.loop-n-preserved
loop-n-preserved c =
    let i = c.loop-n.n-index in
    let pair : ℕ × ℕ = get_or c.args.pairs.now i (0, 0) in
    let places = c.args.places.now in
    let p = get_or places pair.0 0 in
    let q = get_or places pair.1 0 in
    let N : ℕ → ℕ → Type 0 = λ a b. ListsNumber (contents c.loop-n.lists) (contents c.list_number.new.lists) a b in
    let step = subst (λ (b : ℕ). N (min p q) b) c.max.ensures (subst (λ (a : ℕ). N a c.max.result) c.min.ensures c.in_ok-list_number.ensures) in
    rw (take_more c.args.pairs.now i (0, 0) (omega arith))
    (higher_more (take i c.args.pairs.now) pair.0 pair.1 places (contents c.args.lists.now) (contents c.loop-n.lists) (contents c.list_number.new.lists) (c.requires.apart i (0, 0) c.loop-n-test.true) c.loop-n.invariant step)
