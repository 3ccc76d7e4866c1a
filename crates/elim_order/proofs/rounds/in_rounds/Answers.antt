use Rattle.std.proofs.Common.{◌≡◌, ◌<◌, ◌+◌, ℕ, List, [], ◌++◌, true, length, get_or, replicate, Contains, ◌∙◌, sym, ap, subst, arith}
use Rattle.std.proofs.lemmas.List.{length-replicate}
use Rattle.std.proofs.lemmas.Result.{err_from_is_err_and}
use Rattle.std.proofs.lemmas.List.Elements.{Contains-get_or}
use Rattle.lists.specs.Rising.{IsRising}
use Rattle.lists.specs.Lists.{contents, list_of, LinksLists}
use Rattle.lists.proofs.ListsLemmas.{length-contents}
use Rattle.elim_order.proofs.ListLemmas.{list_at}
use Rattle.elim_order.specs.Graph.{links}
use Rattle.elim_order.specs.Queue.{is_left, Queues, Marks}
use Rattle.elim_order.specs.State.{TakesApart, EliminatesRound, IsRoundFault}
use Rattle.elim_order.proofs.RoundLemmas.{key_small}
use Rattle.elim_order.proofs.TakeLemmas.{round_is, takes_some}
use Rattle.elim_order.proofs.ReachedLemmas.{IsReached, reached_with, reached_more, reached_all, reached_length, reached_order}
use Rattle.elim_order.proofs.StartLemmas.{links_graph, reached_none, key_in_range, taken_left, taken_in_range, round_fault}
use Rattle.elim_order.proofs.rounds.in_rounds.Goals as goal

pub enqueue-requires-clause-nodes : goal.enqueue-requires-clause-nodes
enqueue-requires-clause-nodes c k d lt =
    let n = get_or c.deref.result.now k d in
    let P : List ℕ → Type 0 = λ xs. Contains xs n in
    let below = (c.in_ok-nodes.ensures n).0 (subst P c.deref.ensures.value (Contains-get_or c.deref.result.now k d lt)) in
    omega (arith, below, c.link_pairs.auto.lists, ap (λ (xs : List (List ℕ)). length xs) c.requires.neighbours, length-contents c.args.neighbours.now, length-replicate (length c.args.left.now) (let e : List ℕ = [] in e))

pub enqueue-requires-clause-room : goal.enqueue-requires-clause-room
enqueue-requires-clause-room c n =
    let lists = contents c.link_pairs.new.lists in
    let nodes = length c.args.left.now in
    let count : length lists ≡ nodes = omega (arith, length-contents c.link_pairs.new.lists, c.link_pairs.auto.lists, ap (λ (xs : List (List ℕ)). length xs) c.requires.neighbours, length-contents c.args.neighbours.now, length-replicate nodes (let e : List ℕ = [] in e)) in
    let L : List (List ℕ) → Type 0 = λ ls. LinksLists ls lists c.args.pairs.now in
    key_small lists n (length c.args.queue.now) (links_graph nodes c.args.pairs.now lists count (subst L c.requires.neighbours c.in_ok-link_pairs.ensures) c.requires.in_range c.requires.apart)
    (omega (arith, count, ap (λ (xs : List (List ℕ)). length xs) c.requires.queue, length-contents c.args.queue.now, length-replicate (nodes + 3) (let e : List ℕ = [] in e)))

pub loop-order-init : goal.loop-order-init
loop-order-init c =
    let lists = contents c.link_pairs.new.lists in
    let nodes = length c.args.left.now in
    let count : length lists ≡ nodes = omega (arith, length-contents c.link_pairs.new.lists, c.link_pairs.auto.lists, ap (λ (xs : List (List ℕ)). length xs) c.requires.neighbours, length-contents c.args.neighbours.now, length-replicate nodes (let e : List ℕ = [] in e)) in
    let L : List (List ℕ) → Type 0 = λ ls. LinksLists ls lists c.args.pairs.now in
    let links' = subst L c.requires.neighbours c.in_ok-link_pairs.ensures in
    let Q : List ℕ → List (List ℕ) → Type 0 = λ xs ls. Queues lists xs ls (contents c.enqueue.new.queue) in
    let queued = subst (λ (xs : List ℕ). Q xs (replicate (nodes + 3) [])) c.deref.ensures.value (subst (λ (ls : List (List ℕ)). Q c.deref.result.now ls) c.requires.queue c.in_ok-enqueue.ensures) in
    let P : List ℕ → Type 0 = λ xs. IsReached nodes (links c.args.pairs.now) lists c.args.left.now (contents c.enqueue.new.queue) xs in
    subst P (sym c.in_ok-order.ensures.items)
    (reached_none nodes c.args.pairs.now lists c.args.left.now (contents c.enqueue.new.queue) c.in_ok-nodes.nodes.items (nodes + 3) count links' (links_graph nodes c.args.pairs.now lists count links' c.requires.in_range c.requires.apart) c.requires.left c.in_ok-nodes.ensures queued)

pub round_of-requires-clause-rising : goal.round_of-requires-clause-rising
round_of-requires-clause-rising c =
    let least = rw c.in-Some.is at c.in_ok-key.ensures.least in
    let vs = c.least_key.new.queue in
    let key = c.in-Some.key in
    let lt : key < length vs = omega (arith, key_in_range (contents c.loop-order.neighbours) c.loop-order.left (contents vs) key least, length-contents vs) in
    let is : c.deref-in-Some.result.now ≡ list_of (contents vs) key = c.deref-in-Some.ensures.value ∙ sym (list_at vs key c.index-queue-key.result lt) in
    subst IsRising (sym is) (c.in_ok-key.ensures.queue.rising key)

pub round_of-requires-clause-in_range : goal.round_of-requires-clause-in_range
round_of-requires-clause-in_range c k d lt' =
    let least = rw c.in-Some.is at c.in_ok-key.ensures.least in
    let vs = c.least_key.new.queue in
    let key = c.in-Some.key in
    let lt : key < length vs = omega (arith, key_in_range (contents c.loop-order.neighbours) c.loop-order.left (contents vs) key least, length-contents vs) in
    let is : c.deref-in-Some.result.now ≡ list_of (contents vs) key = c.deref-in-Some.ensures.value ∙ sym (list_at vs key c.index-queue-key.result lt) in
    let n = get_or c.deref-in-Some.result.now k d in
    let P : List ℕ → Type 0 = λ xs. Contains xs n in
    omega (arith, c.in_ok-key.ensures.queue.in_range key n (subst P is (Contains-get_or c.deref-in-Some.result.now k d lt')), length-contents c.loop-order.neighbours)

pub eliminate_round-requires-clause-nodes : goal.eliminate_round-requires-clause-nodes
eliminate_round-requires-clause-nodes c k d lt' =
    let least = rw c.in-Some.is at c.in_ok-key.ensures.least in
    let vs = c.least_key.new.queue in
    let key = c.in-Some.key in
    let lt : key < length vs = omega (arith, key_in_range (contents c.loop-order.neighbours) c.loop-order.left (contents vs) key least, length-contents vs) in
    let is : c.deref-in-Some.result.now ≡ list_of (contents vs) key = c.deref-in-Some.ensures.value ∙ sym (list_at vs key c.index-queue-key.result lt) in
    let T : List ℕ → Type 0 = λ xs. TakesApart (contents c.loop-order.neighbours) xs c.in_ok-round.round.items in
    let takes = subst T is c.in_ok-round.ensures in
    let N : List ℕ → Type 0 = λ xs. (k d : ℕ) → k < length xs → get_or xs k d < length (contents c.loop-order.neighbours) in
    omega (arith, length-contents c.loop-order.neighbours, subst N (sym c.deref-in-Some-2.ensures.value) (taken_in_range (contents c.loop-order.neighbours) c.loop-order.left (contents vs) key c.in_ok-round.round.items c.in_ok-key.ensures.queue takes) k d lt')

pub eliminate_round-requires-clause-room : goal.eliminate_round-requires-clause-room
eliminate_round-requires-clause-room c =
    omega (arith, c.loop-order.invariant.count, length-contents c.loop-order.neighbours, c.least_key.auto.queue, c.loop-order.auto.queue, c.enqueue.auto.queue, ap (λ (xs : List (List ℕ)). length xs) c.requires.queue, length-contents c.args.queue.now, length-replicate (length c.args.left.now + 3) (let e : List ℕ = [] in e))

pub eliminate_round-requires-clause-few : goal.eliminate_round-requires-clause-few
eliminate_round-requires-clause-few c =
    omega (arith, c.least_key.auto.queue, c.loop-order.auto.queue, c.enqueue.auto.queue, ap (λ (xs : List (List ℕ)). length xs) c.requires.queue, length-contents c.args.queue.now, length-replicate (length c.args.left.now + 3) (let e : List ℕ = [] in e), c.requires.few)

pub eliminate_round-requires-clause-queued : goal.eliminate_round-requires-clause-queued
eliminate_round-requires-clause-queued c d n h = omega (arith, c.in_ok-key.ensures.queue.in_range d n h, length-contents c.loop-order.neighbours)

pub returns-in_err-eliminate_round-clause-order : goal.returns-in_err-eliminate_round-clause-order
returns-in_err-eliminate_round-clause-order c =
    let least = rw c.in-Some.is at c.in_ok-key.ensures.least in
    let vs = c.least_key.new.queue in
    let key = c.in-Some.key in
    let lt : key < length vs = omega (arith, key_in_range (contents c.loop-order.neighbours) c.loop-order.left (contents vs) key least, length-contents vs) in
    let is : c.deref-in-Some.result.now ≡ list_of (contents vs) key = c.deref-in-Some.ensures.value ∙ sym (list_at vs key c.index-queue-key.result lt) in
    let T : List ℕ → Type 0 = λ xs. TakesApart (contents c.loop-order.neighbours) xs c.in_ok-round.round.items in
    let takes = subst T is c.in_ok-round.ensures in
    let r = reached_with (length c.args.left.now) (links c.args.pairs.now) (contents c.loop-order.neighbours) c.loop-order.left (contents c.loop-order.queue) (contents vs) c.loop-order.order.items c.loop-order.invariant c.in_ok-key.ensures.queue in
    let round = round_is (length c.args.left.now) (links c.args.pairs.now) c.loop-order.order.items (contents c.loop-order.neighbours) c.loop-order.left (contents vs) key c.in_ok-round.round.items r.told r.flags least takes in
    let F : List ℕ → Type 0 = λ xs. IsRoundFault xs (contents c.loop-order.neighbours) c.in_err-eliminate_round.field-0.0 in
    let fault = round_fault (length c.args.left.now) (links c.args.pairs.now) (contents c.loop-order.neighbours) c.loop-order.left (contents vs) c.loop-order.order.items c.in_ok-round.round.items c.in_err-eliminate_round.field-0.0 r round (subst F c.deref-in-Some-2.ensures.value c.in_err-eliminate_round.ensures) in
    let p = err_from_is_err_and c.from_residual-in_err-eliminate_round.result c.from_residual-in_err-eliminate_round.ensures.1 in
    rw (p.1, p.2) fault

pub mark-requires-clause-left : goal.mark-requires-clause-left
mark-requires-clause-left c k d lt' =
    let least = rw c.in-Some.is at c.in_ok-key.ensures.least in
    let vs = c.least_key.new.queue in
    let key = c.in-Some.key in
    let lt : key < length vs = omega (arith, key_in_range (contents c.loop-order.neighbours) c.loop-order.left (contents vs) key least, length-contents vs) in
    let is : c.deref-in-Some.result.now ≡ list_of (contents vs) key = c.deref-in-Some.ensures.value ∙ sym (list_at vs key c.index-queue-key.result lt) in
    let T : List ℕ → Type 0 = λ xs. TakesApart (contents c.loop-order.neighbours) xs c.in_ok-round.round.items in
    let takes = subst T is c.in_ok-round.ensures in
    let N : List ℕ → Type 0 = λ xs. (k d : ℕ) → k < length xs → is_left c.loop-order.left (get_or xs k d) ≡ true in
    subst N (sym c.deref-in-Some-3.ensures.value) (taken_left (contents c.loop-order.neighbours) c.loop-order.left (contents vs) key c.in_ok-round.round.items least takes) k d lt'

pub loop-order-smaller : goal.loop-order-smaller
loop-order-smaller c =
    let least = rw c.in-Some.is at c.in_ok-key.ensures.least in
    let vs = c.least_key.new.queue in
    let key = c.in-Some.key in
    let lt : key < length vs = omega (arith, key_in_range (contents c.loop-order.neighbours) c.loop-order.left (contents vs) key least, length-contents vs) in
    let is : c.deref-in-Some.result.now ≡ list_of (contents vs) key = c.deref-in-Some.ensures.value ∙ sym (list_at vs key c.index-queue-key.result lt) in
    let T : List ℕ → Type 0 = λ xs. TakesApart (contents c.loop-order.neighbours) xs c.in_ok-round.round.items in
    let takes = subst T is c.in_ok-round.ensures in
    let some = takes_some (contents c.loop-order.neighbours) (list_of (contents vs) key) c.in_ok-round.round.items (c.in_ok-key.ensures.queue.rising key) least.some takes in
    omega (arith, some, c.mark.ensures.count, ap (λ (xs : List ℕ). length xs) c.deref-in-Some-3.ensures.value)

pub loop-order-preserved : goal.loop-order-preserved
loop-order-preserved c =
    let least = rw c.in-Some.is at c.in_ok-key.ensures.least in
    let vs = c.least_key.new.queue in
    let key = c.in-Some.key in
    let lt : key < length vs = omega (arith, key_in_range (contents c.loop-order.neighbours) c.loop-order.left (contents vs) key least, length-contents vs) in
    let is : c.deref-in-Some.result.now ≡ list_of (contents vs) key = c.deref-in-Some.ensures.value ∙ sym (list_at vs key c.index-queue-key.result lt) in
    let T : List ℕ → Type 0 = λ xs. TakesApart (contents c.loop-order.neighbours) xs c.in_ok-round.round.items in
    let takes = subst T is c.in_ok-round.ensures in
    let r = reached_with (length c.args.left.now) (links c.args.pairs.now) (contents c.loop-order.neighbours) c.loop-order.left (contents c.loop-order.queue) (contents vs) c.loop-order.order.items c.loop-order.invariant c.in_ok-key.ensures.queue in
    let round = round_is (length c.args.left.now) (links c.args.pairs.now) c.loop-order.order.items (contents c.loop-order.neighbours) c.loop-order.left (contents vs) key c.in_ok-round.round.items r.told r.flags least takes in
    let new = c.eliminate_round.new.neighbours in
    let E : List ℕ → Type 0 = λ xs. EliminatesRound xs (contents c.loop-order.neighbours) (contents new) (contents vs) (contents c.eliminate_round.new.queue) in
    let M : List ℕ → Type 0 = λ xs. Marks xs c.loop-order.left c.mark.new.left in
    let more = reached_more (length c.args.left.now) (links c.args.pairs.now) (contents c.loop-order.neighbours) (contents new) c.loop-order.left c.mark.new.left (contents vs) (contents c.eliminate_round.new.queue) c.loop-order.order.items c.in_ok-round.round.items (omega (arith, length-contents new, length-contents c.loop-order.neighbours, c.eliminate_round.auto.neighbours)) c.mark.auto.left r round (subst E c.deref-in-Some-2.ensures.value c.in_ok-eliminate_round.ensures) (subst M c.deref-in-Some-3.ensures.value c.mark.ensures) in
    let P : List ℕ → Type 0 = λ xs. IsReached (length c.args.left.now) (links c.args.pairs.now) (contents new) c.mark.new.left (contents c.eliminate_round.new.queue) xs in
    subst P (sym (c.in_ok-extend_from_slice.ensures.items ∙ ap (λ (xs : List ℕ). c.loop-order.order.items ++ xs) c.deref-in-Some-4.ensures.value)) more

pub returns-clause-order : goal.returns-clause-order
returns-clause-order c =
    let none = rw c.in_default.is at c.in_ok-key.ensures.least in
    reached_all (length c.args.left.now) (links c.args.pairs.now) (contents c.loop-order.neighbours) c.loop-order.left (contents c.loop-order.queue) c.loop-order.order.items c.loop-order.invariant none

pub returns-clause-permutation : goal.returns-clause-permutation
returns-clause-permutation c =
    let none = rw c.in_default.is at c.in_ok-key.ensures.least in
    (reached_order (length c.args.left.now) (links c.args.pairs.now) (contents c.loop-order.neighbours) c.loop-order.left (contents c.loop-order.queue) c.loop-order.order.items c.loop-order.invariant none, reached_length (length c.args.left.now) (links c.args.pairs.now) (contents c.loop-order.neighbours) c.loop-order.left (contents c.loop-order.queue) c.loop-order.order.items c.loop-order.invariant none)
