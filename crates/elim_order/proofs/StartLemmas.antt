-- Where the rounds begin, and one turn of them.
use Rattle.std.proofs.Common.{◌≡◌, ◌≢◌, ℕ, ◌+◌, ◌<◌, List, [], ◌∷◌, ◌++◌, length, get_or, replicate, Contains, All, inl, inr, ◌↔◌, ◌∙◌, sym, ap, arith, subst, refl, Bool, true, false}
use Rattle.std.proofs.lemmas.Bool.{cases_lt, cases_eq}
use Rattle.std.proofs.lemmas.List.{get_or_past, get_or-replicate, get_or_default, length-replicate}
use Rattle.std.proofs.lemmas.List.Elements.{Contains-append_left, Contains-push, Contains-push_cases, All-contains}
use Rattle.lists.specs.Lists.{list_of, LinksLists}
use Rattle.elim_order.specs.declared.fault.OrderFault.{OrderFault}
use Rattle.elim_order.specs.declared.fault.OrderFault.TheVariants.{Broad, NoMemory}
use Rattle.elim_order.specs.Graph.{links}
use Rattle.elim_order.specs.Order.{IsRound, IsOrderFault}
use Rattle.elim_order.specs.Queue.{key_of, is_left, left_count, IsQueue, IsLeastKey, Queues}
use Rattle.elim_order.specs.State.{AreNeighbourLists, IsGraph, TakesApart, IsRoundFault}
use Rattle.elim_order.proofs.ListLemmas.{contains_none}
use Rattle.elim_order.proofs.MarkLemmas.{left_in_range, left_count-all}
use Rattle.elim_order.proofs.ReachedLemmas.{IsReached, reached_broad}

pub numbers_more : (xs : List ℕ) (i : ℕ) → ((n : ℕ) → Contains xs n ↔ (n < i)) → (n : ℕ) → Contains (xs ++ i ∷ []) n ↔ (n < i + 1)
numbers_more xs i all n = (
  λ h. elim (Contains-push_cases xs i n h) as (λ _. n < i + 1) [ inl before ↦ omega (arith, (all n).0 before) | inr e ↦ omega (arith, e) ],
  λ lt.
      elim (cases_eq n i) [
        | inl e ↦ (let P : ℕ → Type 0 = λ z. Contains (xs ++ i ∷ []) z in subst P (sym e) (Contains-push xs i))
        | inr ne ↦ Contains-append_left xs (i ∷ []) n ((all n).1 (omega arith))
      ],
)

-- of empty lists each is empty
pub list_of-empty : (count n k : ℕ) → Contains (list_of (replicate count []) n) k → ⊥
list_of-empty count n k h =
    let Q : List ℕ → Type 0 = λ xs. Contains xs k in
    elim (cases_lt n count) [
      | inl lt ↦ contains_none (subst Q (get_or-replicate count n [] [] lt) h)
      | inr past ↦ contains_none (subst Q (get_or_past (replicate count []) n [] (omega (arith, length-replicate count (let e : List ℕ = [] in e)))) h)
    ]

-- the lists of the pairs
pub links_told : (nodes : ℕ) (pairs : List (ℕ × ℕ)) (lists : List (List ℕ)) → LinksLists (replicate nodes []) lists pairs → AreNeighbourLists lists (links pairs)
links_told nodes pairs lists l =
    record {
      rising = l.rising;
      members = λ n k. (
        λ h. elim ((l.members n k).0 h) [ inl none ↦ absurd (list_of-empty nodes n k none) | inr some ↦ some ],
        λ some. (l.members n k).1 (inr some),
      );
    }

pub links_graph : (nodes : ℕ) (pairs : List (ℕ × ℕ)) (lists : List (List ℕ)) → length lists ≡ nodes → LinksLists (replicate nodes []) lists pairs → All (λ p. (p.0 < nodes) × (p.1 < nodes)) pairs → All (λ p. p.0 ≢ p.1) pairs → IsGraph lists
links_graph nodes pairs lists count l within apart =
    let t = links_told nodes pairs lists l in
    record {
      rising = l.rising;
      in_range = λ n k h. elim ((t.members n k).0 h) as (λ _. k < length lists) [ inl one ↦ omega (arith, count, (pair_within n k one).1) | inr other ↦ omega (arith, count, (pair_within k n other).0) ];
      converse = λ n k h. (t.members k n).1 (elim ((t.members n k).0 h) as (λ _. links pairs k n) [ inl one ↦ inr one | inr other ↦ inl other ]);
      apart = λ n h. elim ((t.members n n).0 h) as (λ _. ⊥) [ inl one ↦ pair_apart n one | inr other ↦ pair_apart n other ];
    }
  where
    pair_within : (n k : ℕ) → Contains {X = ℕ × ℕ} pairs (n, k) → (n < nodes) × (k < nodes)
    pair_within n k h = All-contains (λ (p : ℕ × ℕ). (p.0 < nodes) × (p.1 < nodes)) pairs (n, k) within h

    pair_apart : (n : ℕ) → Contains {X = ℕ × ℕ} pairs (n, n) → ⊥
    pair_apart n h = All-contains (λ (p : ℕ × ℕ). p.0 ≢ p.1) pairs (n, n) apart h refl

pub reached_none : (nodes : ℕ) (pairs : List (ℕ × ℕ)) (lists : List (List ℕ)) (left : List Bool) (queue : List (List ℕ)) (all : List ℕ) (room : ℕ) → length lists ≡ nodes → LinksLists (replicate nodes []) lists pairs → IsGraph lists → left ≡ replicate nodes true → ((n : ℕ) → Contains all n ↔ (n < nodes)) → Queues lists all (replicate room []) queue → IsReached nodes (links pairs) lists left queue []
reached_none nodes pairs lists left queue all room count l g whole every q =
    let long : length left ≡ nodes = ap (λ (bs : List Bool). length bs) whole ∙ length-replicate nodes true in
    record {
      count = count;
      marked = long;
      told = links_told nodes pairs lists l;
      proper = g;
      flags = λ n. (λ h. (omega (arith, long, left_in_range left n h), λ none. contains_none none), λ (lt, _). ap (λ (bs : List Bool). get_or bs n false) whole ∙ get_or-replicate nodes n true false lt);
      queue_is = record {
        rising = q.rising;
        in_range = λ d n h. elim ((q.members d n).0 h) as (λ _. n < length lists) [ inl none ↦ absurd (list_of-empty room d n none) | inr (here, _) ↦ omega (arith, count, (every n).0 here) ];
        queued = λ n h. (q.members (key_of lists n) n).1 (inr ((every n).1 (omega (arith, long, left_in_range left n h)), refl));
      };
      rounds = ([], refl);
      narrow = λ p lt. absurd (omega arith);
      apart = record { in_range = λ k lt. absurd (omega arith); apart = λ k m kl ml same. absurd (omega arith) };
      counted = omega (arith, ap left_count whole, left_count-all nodes);
    }

-- the key is one of the queue's
pub key_in_range : (lists : List (List ℕ)) (left : List Bool) (queue : List (List ℕ)) (key : ℕ) → IsLeastKey lists left queue key → key < length queue
key_in_range lists left queue key least =
    elim (cases_lt key (length queue)) [
      | inl lt ↦ lt
      | inr past ↦ absurd (omega (arith, least.some, ap (λ (xs : List ℕ). length xs) (get_or_past queue key [] past)))
    ]

-- who is taken is left, and one of the nodes
pub taken_left : (lists : List (List ℕ)) (left : List Bool) (queue : List (List ℕ)) (key : ℕ) (taken : List ℕ) → IsLeastKey lists left queue key → TakesApart lists (list_of queue key) taken → (k d : ℕ) → k < length taken → is_left left (get_or taken k d) ≡ true
taken_left lists left queue key taken least t k d lt =
    let n = get_or taken k d in
    ((least.current n).0 ((t.members n).0 (k, lt, get_or_default taken k n d lt)).0).0

pub taken_in_range : (lists : List (List ℕ)) (left : List Bool) (queue : List (List ℕ)) (key : ℕ) (taken : List ℕ) → IsQueue lists left queue → TakesApart lists (list_of queue key) taken → (k d : ℕ) → k < length taken → get_or taken k d < length lists
taken_in_range lists left queue key taken q t k d lt =
    let n = get_or taken k d in
    q.in_range key n ((t.members n).0 (k, lt, get_or_default taken k n d lt)).0

-- why a round stops is why there is no order
pub round_fault : (nodes : ℕ) (graph : ℕ → ℕ → Type 0) (lists : List (List ℕ)) (left : List Bool) (queue : List (List ℕ)) (gone round : List ℕ) (fault : OrderFault) → IsReached nodes graph lists left queue gone → IsRound nodes graph gone round → IsRoundFault round lists fault → IsOrderFault nodes graph fault
round_fault nodes graph lists left queue gone round (Broad node) r is (place, s) = reached_broad nodes graph lists left queue gone round place node r is s
round_fault nodes graph lists left queue gone round NoMemory r is f = tt
