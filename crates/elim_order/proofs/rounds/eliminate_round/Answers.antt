use Rattle.std.proofs.Common.{◌≡◌, ◌<◌, ℕ, List, length, get_or, take, Contains, ◌∙◌, ap, subst, arith}
use Rattle.std.proofs.lemmas.List.{take_more}
use Rattle.std.proofs.lemmas.List.Elements.{Contains-get_or}
use Rattle.lists.specs.Lists.{contents, list_of}
use Rattle.lists.proofs.ListsLemmas.{length-contents}
use Rattle.elim_order.specs.Queue.{Queues}
use Rattle.elim_order.proofs.ListLemmas.{list_at}
use Rattle.elim_order.proofs.JoinLemmas.{IsGraph-eliminated}
use Rattle.elim_order.proofs.RoundLemmas.{round_none, round_more, round_stops, key_small}
use Rattle.elim_order.proofs.rounds.eliminate_round.Goals as goal

pub loop-node-init : goal.loop-node-init
loop-node-init c =
    round_none (contents c.args.neighbours.now) (contents c.args.queue.now) c.requires.graph c.requires.rising (λ key n h. omega (arith, length-contents c.args.neighbours.now, c.requires.queued key n h))

pub returns-then-len-gt-BREADTH : goal.returns-then-len-gt-BREADTH
returns-then-len-gt-BREADTH c =
    let round = c.args.round.now in
    let i = c.loop-node.node-index in
    let node = get_or round i 0 in
    let vs = c.loop-node.neighbours in
    let lt : node < length vs = omega (arith, c.requires.nodes i 0 (omega arith), c.loop-node.auto.neighbours) in
    let is = list_at vs node c.index-neighbours-node.result lt in
    (i, round_stops round i (contents c.args.neighbours.now) (contents vs) (contents c.args.queue.now) (contents c.loop-node.queue) (omega arith) c.loop-node.invariant (omega (arith, ap (λ (xs : List ℕ). length xs) is, (get_or vs node c.index-neighbours-node.result).ok.0, c.len.ensures, c.if-len-gt-BREADTH.true)))

pub enqueue-requires-clause-nodes : goal.enqueue-requires-clause-nodes
enqueue-requires-clause-nodes c k d lt =
    let node = get_or c.args.round.now c.loop-node.node-index 0 in
    let vs = c.loop-node.neighbours in
    let front = c.deref.result.now in
    let is : front ≡ list_of (contents vs) node = c.deref.ensures.value ∙ c.in_ok-front.ensures.front in
    let P : List ℕ → Type 0 = λ xs. Contains xs (get_or front k d) in
    omega (arith, length-contents vs, c.eliminate.auto.neighbours, c.loop-node.invariant.graph.in_range node (get_or front k d) (subst P is (Contains-get_or front k d lt)))

pub enqueue-requires-clause-room : goal.enqueue-requires-clause-room
enqueue-requires-clause-room c n =
    let node = get_or c.args.round.now c.loop-node.node-index 0 in
    let vs = c.loop-node.neighbours in
    let new = c.eliminate.new.neighbours in
    let count : length (contents new) ≡ length (contents vs) = omega (arith, length-contents vs, length-contents new, c.eliminate.auto.neighbours) in
    key_small (contents new) n (length c.loop-node.queue) (IsGraph-eliminated (contents vs) (contents new) node count c.loop-node.invariant.graph c.in_ok-front.ensures.lists)
    (omega (arith, length-contents new, c.eliminate.auto.neighbours, c.loop-node.auto.neighbours, c.loop-node.auto.queue, c.requires.room))

pub loop-node-preserved : goal.loop-node-preserved
loop-node-preserved c =
    let round = c.args.round.now in
    let i = c.loop-node.node-index in
    let node = get_or round i 0 in
    let vs = c.loop-node.neighbours in
    let new = c.eliminate.new.neighbours in
    let old = c.args.neighbours.now in
    let count : length (contents new) ≡ length (contents vs) = omega (arith, length-contents vs, length-contents new, c.eliminate.auto.neighbours) in
    let count' : length (contents vs) ≡ length (contents old) = omega (arith, length-contents vs, length-contents old, c.loop-node.auto.neighbours) in
    let lt : node < length vs = omega (arith, c.requires.nodes i 0 (omega arith), c.loop-node.auto.neighbours) in
    let is = list_at vs node c.index-neighbours-node.result lt in
    let front : c.deref.result.now ≡ list_of (contents vs) node = c.deref.ensures.value ∙ c.in_ok-front.ensures.front in
    let P : List ℕ → Type 0 = λ xs. Queues (contents new) xs (contents c.loop-node.queue) (contents c.enqueue.new.queue) in
    rw (take_more round i 0 (omega arith))
    (round_more (take i round) node (contents old) (contents vs) (contents new) (contents c.args.queue.now) (contents c.loop-node.queue) (contents c.enqueue.new.queue) count' count c.loop-node.invariant c.in_ok-front.ensures.lists (subst P front c.in_ok-enqueue.ensures)
    (omega (arith, ap (λ (xs : List ℕ). length xs) is, (get_or vs node c.index-neighbours-node.result).ok.0, c.len.ensures, c.if-len-gt-BREADTH.false)))
