use Rattle.std.proofs.Common.{ap, arith, sym, ◌∙◌, ℕ}
use Rattle.lists.specs.Order.{place_of}
use Rattle.lists.proofs.PlaceLemmas.{place_of-at}
use Rattle.sym_blocks.proofs.blocks.count_up_to.Goals as goal

pub returns-in-Some : goal.returns-in-Some
returns-in-Some c =
    let list = c.args.list.now in
    let found = c.in-Some.ensures in
    let place = sym (place_of-at list c.in-Some.place c.requires.rising found.0) ∙ ap (λ (k : ℕ). place_of k list) found.1 in
    omega (arith, place)
