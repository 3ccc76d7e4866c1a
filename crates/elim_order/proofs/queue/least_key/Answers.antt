use Rattle.std.proofs.Common.{◌≡◌, ◌<◌, ◌+◌, ℕ, List, [], Vec, Global, get_or, Contains, ◌∙◌, sym, ap, subst, arith}
use Rattle.std.specs.List.{filter}
use Rattle.std.proofs.lemmas.List.{map-set}
use Rattle.std.proofs.lemmas.List.Elements.{Contains-get_or}
use Rattle.lists.specs.Lists.{contents, list_of}
use Rattle.lists.proofs.ListsLemmas.{length-contents}
use Rattle.elim_order.specs.Queue.{is_current, IsQueue, IsLeastKey}
use Rattle.elim_order.proofs.ListLemmas.{list_at, written_some, written_none}
use Rattle.elim_order.proofs.QueueLemmas.{queue_kept, least_met, passed_more}
use Rattle.elim_order.proofs.queue.least_key.Goals as goal

pub current-requires-clause-nodes : goal.current-requires-clause-nodes
current-requires-clause-nodes c k d lt =
    let vs = c.loop-key.queue in
    let key = c.loop-key.key in
    let is : c.deref.result.now ≡ list_of (contents vs) key = c.deref.ensures.value ∙ sym (list_at vs key c.index-queue-key.result (omega arith)) in
    let n = get_or c.deref.result.now k d in
    let P : List ℕ → Type 0 = λ xs. Contains xs n in
    omega (arith, c.loop-key.invariant.queue.in_range key n (subst P is (Contains-get_or c.deref.result.now k d lt)), length-contents c.args.neighbours.now)

pub returns-then-not-is_empty-clause-queue : goal.returns-then-not-is_empty-clause-queue
returns-then-not-is_empty-clause-queue c =
    let vs = c.loop-key.queue in
    let key = c.loop-key.key in
    let found = c.in_ok-queue.field-0 in
    let is : c.deref.result.now ≡ list_of (contents vs) key = c.deref.ensures.value ∙ sym (list_at vs key c.index-queue-key.result (omega arith)) in
    let lists = contents c.args.neighbours.now in
    let left = c.args.left.now in
    let kept = queue_kept lists left (contents vs) key found.items (omega (arith, length-contents vs)) c.loop-key.invariant.queue (c.in_ok-queue.ensures ∙ ap (λ (xs : List ℕ). filter (is_current lists left key) xs) is) in
    let P : List (List ℕ) → Type 0 = λ ls. IsQueue lists left ls in
    subst P (sym (map-set (λ (v : Vec ℕ Global). v.items) vs key found)) kept

pub returns-then-not-is_empty-clause-least : goal.returns-then-not-is_empty-clause-least
returns-then-not-is_empty-clause-least c =
    let vs = c.loop-key.queue in
    let key = c.loop-key.key in
    let found = c.in_ok-queue.field-0 in
    let is : c.deref.result.now ≡ list_of (contents vs) key = c.deref.ensures.value ∙ sym (list_at vs key c.index-queue-key.result (omega arith)) in
    let lists = contents c.args.neighbours.now in
    let left = c.args.left.now in
    let some = written_some vs key found c.index-queue-key-in-loop-key-2.result c.is_empty.result (omega arith) c.is_empty.ensures c.if-not-is_empty.true in
    let met = least_met lists left (contents vs) key found.items (omega (arith, length-contents vs)) c.loop-key.invariant.queue c.loop-key.invariant.passed (c.in_ok-queue.ensures ∙ ap (λ (xs : List ℕ). filter (is_current lists left key) xs) is) some in
    let P : List (List ℕ) → Type 0 = λ ls. IsLeastKey lists left ls key in
    subst P (sym (map-set (λ (v : Vec ℕ Global). v.items) vs key found)) met

pub loop-key-preserved : goal.loop-key-preserved
loop-key-preserved c =
    let vs = c.loop-key.queue in
    let key = c.loop-key.key in
    let found = c.in_ok-queue.field-0 in
    let is : c.deref.result.now ≡ list_of (contents vs) key = c.deref.ensures.value ∙ sym (list_at vs key c.index-queue-key.result (omega arith)) in
    let lists = contents c.args.neighbours.now in
    let left = c.args.left.now in
    let kept = queue_kept lists left (contents vs) key found.items (omega (arith, length-contents vs)) c.loop-key.invariant.queue (c.in_ok-queue.ensures ∙ ap (λ (xs : List ℕ). filter (is_current lists left key) xs) is) in
    let none = written_none vs key found c.index-queue-key-in-loop-key-2.result c.is_empty.result (omega arith) c.is_empty.ensures c.if-not-is_empty.false in
    let more = passed_more (contents vs) key found.items (omega (arith, length-contents vs)) c.loop-key.invariant.passed none in
    let whole = map-set (λ (v : Vec ℕ Global). v.items) vs key found in
    let P : List (List ℕ) → Type 0 = λ ls. IsQueue lists left ls in
    let Q : List (List ℕ) → Type 0 = λ ls. (d : ℕ) → d < key + 1 → list_of ls d ≡ [] in
    record { queue = subst P (sym whole) kept; passed = subst Q (sym whole) more }
