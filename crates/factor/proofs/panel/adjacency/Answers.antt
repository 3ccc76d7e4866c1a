use Rattle.std.proofs.Common.{ℕ, ◌<◌, ◌∙◌, ap, sym, subst, arith, List, length, get_or, map}
use Rattle.std.proofs.lemmas.List.Elements.{Contains-get_or}
use Rattle.lists.specs.Order.{place_of}
use Rattle.factor.proofs.AdjacencyLemmas.{adjacency_front}
use Rattle.sym_blocks.specs.Matrix.{pattern_of}
use Rattle.factor.proofs.panel.adjacency.Goals as goal

pub places_of-requires : goal.places_of-requires
places_of-requires c k d lt =
    let p = c.args.problem.now in
    let kept = c.pattern-neighbours.ensures.kept in
    let P : List ℕ → Type 0 = λ xs. k < length xs → get_or xs k d < length p.order.now in
    subst P (sym c.pattern-neighbours.ensures.value)
    (λ lt'. let h = kept.in_range c.number_at.result _ (Contains-get_or _ k d lt') in omega (arith, h, c.requires.problem.nodes))
    lt

pub returns : goal.returns
returns c =
    let p = c.args.problem.now in
    let found = c.deref.ensures.value ∙ c.in_ok-places_of.ensures
    ∙ ap (λ (xs : List ℕ). map (λ m. place_of m p.order.now) xs) (c.pattern-neighbours.ensures.value ∙ ap (pattern_of p.matrix.now) c.number_at.ensures) in
    adjacency_front p.matrix.now p.order.now p.parents.now p.shift c.args.node c.in_ok-nodes.nodes.items c.deref.result.now c.insert_later.new.list.items
    c.requires.problem c.requires.node_in c.pattern-neighbours.ensures.kept c.in_ok-nodes.ensures found c.in_ok-insert_later.ensures
