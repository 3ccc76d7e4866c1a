use Rattle.std.proofs.Common.{◌≡◌, ◌<◌, ℕ, List, [], Vec, Global, length, get_or, set, take, Contains, ◌∙◌, ◌+◌, sym, ap, subst, arith, inl, inr}
use Rattle.std.proofs.lemmas.Bool.{cases_eq}
use Rattle.std.proofs.lemmas.List.{map-set, length-set, take_more, take_all}
use Rattle.std.proofs.lemmas.List.Elements.{Contains-get_or}
use Rattle.lists.specs.Rising.{IsRising}
use Rattle.lists.specs.Lists.{contents, list_of}
use Rattle.lists.proofs.ListsLemmas.{length-contents}
use Rattle.elim_order.specs.State.{TakesFront}
use Rattle.elim_order.proofs.ListLemmas.{list_at, list_of-here, list_of-other}
use Rattle.elim_order.proofs.JoinLemmas.{JoinsSome, joins_some_none, joins_some_more, joins_all}
use Rattle.elim_order.proofs.graph.eliminate.Goals as goal

base_rising : (lists : List (List ℕ)) (node : ℕ) → node < length lists → ((n : ℕ) → IsRising (list_of lists n)) → (n : ℕ) → IsRising (list_of (set lists node []) n)
base_rising lists node lt up n =
    elim (cases_eq n node) [
      | inl e ↦ (let P : ℕ → Type 0 = λ z. IsRising (list_of (set lists node []) z) in subst P (sym e) (subst IsRising (sym (list_of-here lists node [] lt)) (λ i j d il jl. absurd (omega arith))))
      | inr apart ↦ subst IsRising (sym (list_of-other lists node n [] apart)) (up n)
    ]

-- a number of a node's list is in the list as the contract names it
listed : (lists : List (List ℕ)) (xs : List ℕ) (node i : ℕ) → xs ≡ list_of lists node → i < length xs → Contains (list_of lists node) (get_or xs i 0)
listed lists xs node i is lt = (let P : List ℕ → Type 0 = λ ys. Contains ys (get_or xs i 0) in subst P is (Contains-get_or xs i 0 lt))

pub loop-own-init : goal.loop-own-init
loop-own-init c =
    let nb = c.args.neighbours.now in
    let node = c.args.node in
    let lt : node < length (contents nb) = omega (arith, length-contents nb, c.requires.node) in
    let eq : contents (set nb node c.replace-front.new.dest) ≡ set (contents nb) node [] =
    map-set (λ (v : Vec ℕ Global). v.items) nb node c.replace-front.new.dest
    ∙ ap (λ (xs : List ℕ). set (contents nb) node xs) (ap (λ (v : Vec ℕ Global). v.items) c.replace-front.ensures.after ∙ c.new.ensures.items)
    in
    let P : List (List ℕ) → Type 0 = λ ls. JoinsSome (set (contents nb) node []) ls c.deref-own-items.result.now [] node in
    subst P (sym eq) (joins_some_none (set (contents nb) node []) c.deref-own-items.result.now node (base_rising (contents nb) node lt c.requires.graph.rising))

pub bounds-neighbours-own : goal.bounds-neighbours-own
bounds-neighbours-own c =
    let nb = c.args.neighbours.now in
    let front = c.deref-own-items.result.now in
    let is : front ≡ list_of (contents nb) c.args.node =
    c.deref-own-items.ensures.value ∙ ap (λ (v : Vec ℕ Global). v.items) c.replace-front.ensures.value ∙ sym (list_at nb c.args.node c.index-neighbours-node.result c.requires.node)
    in
    let in' = c.requires.graph.in_range c.args.node (get_or front c.loop-own.own-index 0) (listed (contents nb) front c.args.node c.loop-own.own-index is (omega arith)) in
    omega (arith, in', length-contents nb, c.loop-own.auto.neighbours, length-set nb c.args.node c.replace-front.new.dest)

pub join-requires-clause-list : goal.join-requires-clause-list
join-requires-clause-list c =
    let vs = c.loop-own.neighbours in
    let own = get_or c.deref-own-items.result.now c.loop-own.own-index 0 in
    let nb = c.args.neighbours.now in
    let front = c.deref-own-items.result.now in
    let is : front ≡ list_of (contents nb) c.args.node =
    c.deref-own-items.ensures.value ∙ ap (λ (v : Vec ℕ Global). v.items) c.replace-front.ensures.value ∙ sym (list_at nb c.args.node c.index-neighbours-node.result c.requires.node)
    in
    let in' = c.requires.graph.in_range c.args.node own (listed (contents nb) front c.args.node c.loop-own.own-index is (omega arith)) in
    let lt : own < length vs = omega (arith, in', length-contents nb, c.loop-own.auto.neighbours, length-set nb c.args.node c.replace-front.new.dest) in
    subst IsRising (list_at vs own c.index-neighbours-own.result lt) (c.loop-own.invariant.rising own)

pub join-requires-clause-front : goal.join-requires-clause-front
join-requires-clause-front c =
    let nb = c.args.neighbours.now in
    let is : c.deref-own-items.result.now ≡ list_of (contents nb) c.args.node =
    c.deref-own-items.ensures.value ∙ ap (λ (v : Vec ℕ Global). v.items) c.replace-front.ensures.value ∙ sym (list_at nb c.args.node c.index-neighbours-node.result c.requires.node)
    in
    subst IsRising (sym (c.deref.ensures.value ∙ sym c.deref-own-items.ensures.value ∙ is)) (c.requires.graph.rising c.args.node)

pub loop-own-preserved : goal.loop-own-preserved
loop-own-preserved c =
    let vs = c.loop-own.neighbours in
    let nb = c.args.neighbours.now in
    let node = c.args.node in
    let i = c.loop-own.own-index in
    let front = c.deref-own-items.result.now in
    let own = get_or front i 0 in
    let is : front ≡ list_of (contents nb) node =
    c.deref-own-items.ensures.value ∙ ap (λ (v : Vec ℕ Global). v.items) c.replace-front.ensures.value ∙ sym (list_at nb node c.index-neighbours-node.result c.requires.node)
    in
    let in' = c.requires.graph.in_range node own (listed (contents nb) front node i is (omega arith)) in
    let lt : own < length vs = omega (arith, in', length-contents nb, c.loop-own.auto.neighbours, length-set nb c.args.node c.replace-front.new.dest) in
    let lt' : own < length (contents vs) = omega (arith, lt, length-contents vs) in
    let same : c.deref.result.now ≡ front = c.deref.ensures.value ∙ sym c.deref-own-items.ensures.value in
    let old_is = list_at vs own c.index-neighbours-own.result lt in
    let P : List ℕ → Type 0 = λ xs. TakesFront xs c.join.new.list.items c.deref.result.now node own in
    let Q : List ℕ → Type 0 = λ xs. TakesFront (list_of (contents vs) own) c.join.new.list.items xs node own in
    let joins = subst Q same (subst P (sym old_is) c.in_ok-join.ensures) in
    let next = joins_some_more (set (contents nb) node []) (contents vs) front (take i front) c.join.new.list.items node own lt' c.loop-own.invariant joins in
    let R : List (List ℕ) → Type 0 = λ ls. JoinsSome (set (contents nb) node []) ls front (take (i + 1) front) node in
    subst R (sym (map-set (λ (v : Vec ℕ Global). v.items) vs own c.join.new.list)) (rw (take_more front i 0 (omega arith)) next)

pub returns-clause-lists : goal.returns-clause-lists
returns-clause-lists c =
    let nb = c.args.neighbours.now in
    let node = c.args.node in
    let front = c.deref-own-items.result.now in
    let is : front ≡ list_of (contents nb) node =
    c.deref-own-items.ensures.value ∙ ap (λ (v : Vec ℕ Global). v.items) c.replace-front.ensures.value ∙ sym (list_at nb node c.index-neighbours-node.result c.requires.node)
    in
    let P : List ℕ → Type 0 = λ done. JoinsSome (set (contents nb) node []) (contents c.loop-own.neighbours) front done node in
    let Q : List ℕ → Type 0 = λ xs. JoinsSome (set (contents nb) node []) (contents c.loop-own.neighbours) xs xs node in
    joins_all (contents nb) (contents c.loop-own.neighbours) node (omega (arith, length-contents nb, c.requires.node)) c.requires.graph
    (subst Q is (subst P (take_all c.loop-own.own-index front (omega arith)) c.loop-own.invariant))
