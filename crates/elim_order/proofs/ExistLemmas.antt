-- Every graph has an order, or a node that is too broad: each step of the rounds can be made.
use Rattle.std.proofs.Common.{◌≡◌, ◌≢◌, ℕ, zero, suc, ◌+◌, ◌<◌, ◌≤◌, List, [], ◌∷◌, ◌++◌, length, get_or, take, set, replicate, Contains, All, ◌⊎◌, inl, inr, ◌↔◌, ◌∙◌, sym, ap, arith, subst, refl, Bool, true, false}
use Rattle.std.proofs.lemmas.Bool.{cases_lt, cases_eq}
use Rattle.std.proofs.lemmas.List.{get_or-replicate, get_or_default, get_or_past, length-replicate, take_more, take_all, length-set}
use Rattle.std.proofs.lemmas.List.Elements.{Contains-get_or, All-contains}
use Rattle.lists.specs.Rising.{IsRising}
use Rattle.lists.specs.Lists.{list_of, LinksLists}
use Rattle.lists.specs.Order.{IsOrder}
use Rattle.elim_order.proofs.ChosenLemmas.{Chooses, decide_both, decide_three, decide_either, decide_pair, chosen, each_chosen}
use Rattle.lists.proofs.UniqueLemmas.{decide_contains}
use Rattle.elim_order.specs.Exist.{OrderOrBroadNode, LinksAreDecided}
use Rattle.elim_order.specs.Graph.{links, eliminated}
use Rattle.elim_order.specs.Order.{IsLeft, IsRound, IsEliminationOrder, IsFirstBroad}
use Rattle.elim_order.specs.Queue.{key_of, is_left, left_count, IsLeastKey, Queues, Marks}
use Rattle.elim_order.specs.State.{AreNeighbourLists, told, IsGraph, TakesApart, EliminatesRound, StopsAt}
use Rattle.elim_order.proofs.ListLemmas.{contains_none, contains_first, contains_rest, contains_cases}
use Rattle.elim_order.proofs.MarkLemmas.{marks_more}
use Rattle.elim_order.proofs.JoinLemmas.{IsGraph-eliminated}
use Rattle.elim_order.proofs.RoundLemmas.{round_none, round_more, round_stops, key_small}
use Rattle.elim_order.proofs.TakeLemmas.{before_place, takes_more, takes_skip, takes_some, least_of, round_is}
use Rattle.elim_order.proofs.ReachedLemmas.{IsReached, reached_more, reached_all, reached_length, reached_order, reached_broad}
use Rattle.elim_order.proofs.StartLemmas.{list_of-empty, links_graph, reached_none}

-- ---- what is decided

decide_apart : (n k : ℕ) → (n ≢ k) ⊎ ((n ≢ k) → ⊥)
decide_apart n k = elim (cases_eq n k) [ inl e ↦ inr (λ ne. ne e) | inr ne ↦ inl ne ]

-- two lists have a number in common, or none
decide_common : (xs ys : List ℕ) → ((k : ℕ) × Contains xs k × Contains ys k) ⊎ ((k : ℕ) → Contains xs k → Contains ys k → ⊥)
decide_common [] ys = inr (λ k h. absurd (contains_none h))
decide_common (x ∷ xs) ys =
    elim (decide_contains ys x) [
      | inl here ↦ inl (x, contains_first x xs, here)
      | inr out ↦
          elim (decide_common xs ys) [
            | inl (k, there, also) ↦ inl (k, contains_rest x xs k there, also)
            | inr none ↦ inr (λ k h also. elim (contains_cases x xs k h) as (λ _. ⊥) [ inl e ↦ (let P : ℕ → Type 0 = λ z. Contains ys z in out (subst P (sym e) also)) | inr there ↦ none k there also ])
          ]
    ]

pub links_decided : LinksAreDecided
links_decided pairs n k = decide_either (Contains {X = ℕ × ℕ} pairs (n, k)) (Contains {X = ℕ × ℕ} pairs (k, n)) (decide_pair pairs n k) (decide_pair pairs k n)

-- ---- the lists

take_suc : (xs : List ℕ) (i : ℕ) → i < length xs → take (suc i) xs ≡ take i xs ++ get_or xs i 0 ∷ []
take_suc xs i lt = ap (λ (n : ℕ). take n xs) (let e : suc i ≡ i + 1 = omega arith in e) ∙ take_more xs i 0 lt

-- a list that is not empty is one of the lists
listed_in_range : (lists : List (List ℕ)) (key n : ℕ) → Contains (list_of lists key) n → key < length lists
listed_in_range lists key n h =
    elim (cases_lt key (length lists)) [
      | inl lt ↦ lt
      | inr past ↦ (let P : List ℕ → Type 0 = λ xs. Contains xs n in absurd (contains_none (subst P (get_or_past lists key [] past) h)))
    ]

links_made : (nodes : ℕ) (pairs : List (ℕ × ℕ)) → ((n k : ℕ) → links pairs n k → (n < nodes) × (k < nodes)) → (lists : List (List ℕ)) × (length lists ≡ nodes) × LinksLists (replicate nodes []) lists pairs
links_made nodes pairs within =
    let made = each_chosen (links pairs) (links_decided pairs) nodes nodes in (
      made.0,
      made.1,
      record {
        count = made.1 ∙ sym (length-replicate nodes (let e : List ℕ = [] in e));
        rising = λ n. elim (cases_lt n nodes) [ inl lt ↦ (made.2 n lt).rising | inr past ↦ subst IsRising (sym (made.3 n past)) (λ i j d before inside. absurd (omega (arith, inside))) ];
        members = λ n k. (
          λ h.
              elim (cases_lt n nodes) [
                | inl lt ↦ inr (((made.2 n lt).members k).0 h).1
                | inr past ↦ (let P : List ℕ → Type 0 = λ xs. Contains xs k in absurd (contains_none (subst P (made.3 n past) h)))
              ],
          λ h.
              elim h as (λ _. Contains (list_of made.0 n) k) [
                | inl none ↦ absurd (list_of-empty nodes n k none)
                | inr link ↦ (let ends = within n k link in ((made.2 n ends.0).members k).1 (ends.1, link))
              ],
        );
      },
    )

eliminated_made : (cur : List (List ℕ)) (node : ℕ) → IsGraph cur → (new : List (List ℕ)) × (length new ≡ length cur) × AreNeighbourLists new (eliminated (told cur) node)
eliminated_made cur node g =
    let made = each_chosen (eliminated (told cur) node) decide (length cur) (length cur) in (
      made.0,
      made.1,
      record {
        rising = λ n. elim (cases_lt n (length cur)) [ inl lt ↦ (made.2 n lt).rising | inr past ↦ subst IsRising (sym (made.3 n past)) (λ i j d before inside. absurd (omega (arith, inside))) ];
        members = λ n k. (
          λ h.
              elim (cases_lt n (length cur)) [
                | inl lt ↦ (((made.2 n lt).members k).0 h).1
                | inr past ↦ (let P : List ℕ → Type 0 = λ xs. Contains xs k in absurd (contains_none (subst P (made.3 n past) h)))
              ],
          λ h. ((made.2 n (within n k h).0).members k).1 ((within n k h).1, h),
        );
      },
    )
  where
    known : (n k : ℕ) → told cur n k ⊎ (told cur n k → ⊥)
    known n k = decide_contains (list_of cur n) k

    decide : (n k : ℕ) → eliminated (told cur) node n k ⊎ (eliminated (told cur) node n k → ⊥)
    decide n k =
        decide_three (n ≢ node) (k ≢ node) (told cur n k ⊎ ((n ≢ k) × told cur node n × told cur node k)) (decide_apart n node) (decide_apart k node)
        (decide_either (told cur n k) ((n ≢ k) × told cur node n × told cur node k) (known n k)
        (decide_three (n ≢ k) (told cur node n) (told cur node k) (decide_apart n k) (known node n) (known node k)))

    within : (n k : ℕ) → eliminated (told cur) node n k → (n < length cur) × (k < length cur)
    within n k (_, _, inl link) = (g.in_range k n (g.converse n k link), g.in_range n k link)
    within n k (_, _, inr (_, to, from)) = (g.in_range node n to, g.in_range node k from)

queue_made : (lists : List (List ℕ)) (named : List ℕ) (old : List (List ℕ)) → ((key n : ℕ) → Contains (list_of old key) n → (key < length old) × (n < length lists)) → ((n : ℕ) → Contains named n → (n < length lists) × (key_of lists n < length old)) → (new : List (List ℕ)) × (length new ≡ length old) × Queues lists named old new
queue_made lists named old before within =
    let made = each_chosen Is decide (length old) (length lists) in (
      made.0,
      made.1,
      record {
        rising = λ key. elim (cases_lt key (length old)) [ inl lt ↦ (made.2 key lt).rising | inr past ↦ subst IsRising (sym (made.3 key past)) (λ i j d less inside. absurd (omega (arith, inside))) ];
        members = λ key n. (
          λ h.
              elim (cases_lt key (length old)) [
                | inl lt ↦ (((made.2 key lt).members n).0 h).1
                | inr past ↦ (let P : List ℕ → Type 0 = λ xs. Contains xs n in absurd (contains_none (subst P (made.3 key past) h)))
              ],
          λ h. let both = inside key n h in ((made.2 key both.0).members n).1 (both.1, h),
        );
      },
    )
  where
    Is : ℕ → ℕ → Type 0
    Is key n = Contains (list_of old key) n ⊎ (Contains named n × (key ≡ key_of lists n))

    decide_key : (key n : ℕ) → (key ≡ key_of lists n) ⊎ ((key ≡ key_of lists n) → ⊥)
    decide_key key n = cases_eq key (key_of lists n)

    decide : (key n : ℕ) → Is key n ⊎ (Is key n → ⊥)
    decide key n =
        decide_either (Contains (list_of old key) n) (Contains named n × (key ≡ key_of lists n)) (decide_contains (list_of old key) n)
        (decide_both (Contains named n) (key ≡ key_of lists n) (decide_contains named n) (decide_key key n))

    inside : (key n : ℕ) → Is key n → (key < length old) × (n < length lists)
    inside key n (inl there) = before key n there
    inside key n (inr (there, is)) = (omega (arith, is, (within n there).1), (within n there).0)

-- ---- a round

takes_made : (lists : List (List ℕ)) (nodes : List ℕ) → IsRising nodes → (i : ℕ) → i ≤ length nodes → (taken : List ℕ) × TakesApart lists (take i nodes) taken
takes_made lists nodes up zero le = (
  [],
  record {
    rising = λ i j d before inside. absurd (omega (arith, inside));
    members = λ n. (λ h. absurd (contains_none h), λ (h, _). absurd (contains_none h));
  },
)
takes_made lists nodes up (suc i) le =
    let (taken, t) = takes_made lists nodes up i (omega arith) in
    let node = get_or nodes i 0 in
    let below : (n : ℕ) → Contains (take i nodes) n → n < node = λ n h. before_place nodes i n up (omega arith) h in
    let T : List ℕ → List ℕ → Type 0 = λ done xs. TakesApart lists done xs in
    elim (decide_common (list_of lists node) taken) [
      | inl (k, link, there) ↦ (taken, subst (λ (done : List ℕ). T done taken) (sym (take_suc nodes i (omega arith))) (takes_skip lists (take i nodes) taken node k below t link there))
      | inr free ↦ (taken ++ node ∷ [], subst (λ (done : List ℕ). T done (taken ++ node ∷ [])) (sym (take_suc nodes i (omega arith))) (takes_more lists (take i nodes) taken node below t free))
    ]

round_made : (round : List ℕ) (old queue : List (List ℕ)) → IsGraph old → length old + 2 < length queue → ((key : ℕ) → IsRising (list_of queue key)) → ((key n : ℕ) → Contains (list_of queue key) n → n < length old) → (i : ℕ) → i ≤ length round
    → ((new : List (List ℕ)) × (queued : List (List ℕ)) × (length new ≡ length old) × (length queued ≡ length queue) × EliminatesRound (take i round) old new queue queued) ⊎ ((place : ℕ) × (node : ℕ) × StopsAt round old place node)
round_made round old queue g room up within zero le = inl (old, queue, refl, refl, round_none old queue g up within)
round_made round old queue g room up within (suc i) le =
    elim (round_made round old queue g room up within i (omega arith)) [
      | inr stops ↦ inr stops
      | inl (cur, at, count, long, e) ↦
          (let node = get_or round i 0 in
          elim (cases_lt 31 (length (list_of cur node))) [
            | inl many ↦ inr (i, node, round_stops round i old cur queue at (omega arith) e many)
            | inr few ↦
                (let (new, count', lists) = eliminated_made cur node e.graph in
                let g' = IsGraph-eliminated cur new node count' e.graph lists in
                let (next, long', queues) = queue_made new (list_of cur node) at
                (λ key n h. (listed_in_range at key n h, omega (arith, count, count', e.in_range key n h)))
                (λ n h. (omega (arith, count', e.graph.in_range node n h), omega (arith, long, key_small new n (length queue) g' (omega (arith, room, count, count'))))) in
                let E : List ℕ → Type 0 = λ done. EliminatesRound done old new queue next in
                inl (new, next, count' ∙ count, long' ∙ long, subst E (sym (take_suc round i (omega arith))) (round_more (take i round) node old cur new queue at next count count' e lists queues (omega (arith, few)))))
          ])
    ]

marks_made : (left : List Bool) (round : List ℕ) → IsRising round → ((n : ℕ) → Contains round n → is_left left n ≡ true) → (i : ℕ) → i ≤ length round → (new : List Bool) × (length new ≡ length left) × Marks (take i round) left new
marks_made left round up all zero le = (left, refl, record { left = λ n. (λ h. (h, λ none. contains_none none), λ (h, _). h); count = omega arith })
marks_made left round up all (suc i) le =
    let (cur, long, m) = marks_made left round up all i (omega arith) in
    let node = get_or round i 0 in
    let M : List ℕ → Type 0 = λ done. Marks done left (set cur node false) in (
      set cur node false,
      length-set cur node false ∙ long,
      subst M (sym (take_suc round i (omega arith))) (marks_more (take i round) node left cur (λ n h. before_place round i n up (omega arith) h) (all node (Contains-get_or round i 0 (omega arith))) m),
    )

decide_true : (b : Bool) → (b ≡ true) ⊎ ((b ≡ true) → ⊥)
decide_true true = inl refl
decide_true false = inr (λ e. (let no : false ≡ true = e in cc))

-- where a node is left there is a round, and it takes some
round_found : (nodes : ℕ) (graph : ℕ → ℕ → Type 0) (lists : List (List ℕ)) (left : List Bool) (queue : List (List ℕ)) (gone ns : List ℕ) → IsReached nodes graph lists left queue gone → Chooses (λ n. is_left left n ≡ true) nodes ns → 0 < length ns → (round : List ℕ) × IsRound nodes graph gone round × (0 < length round)
round_found nodes graph lists left queue gone ns r all some =
    let (m, here, least) = least_of (key_of lists) ns some in
    let key = key_of lists m in
    let (row, c) = chosen (λ n. (is_left left n ≡ true) × (key_of lists n ≡ key)) (λ n. decide_both (is_left left n ≡ true) (key_of lists n ≡ key) (decide_true (is_left left n)) (cases_eq (key_of lists n) key)) nodes in
    let at : list_of (replicate (suc key) row) key ≡ row = get_or-replicate (suc key) key row [] (omega arith) in
    let in_nodes : (n : ℕ) → is_left left n ≡ true → n < nodes = λ n l. ((r.flags n).0 l).0 in
    let mine : Contains row m = (c.members m).1 (((all.members m).0 here).0, (((all.members m).0 here).1, refl)) in
    let K : List ℕ → Type 0 = λ xs. ((n : ℕ) → Contains xs n ↔ ((is_left left n ≡ true) × (key_of lists n ≡ key))) × (0 < length xs) in
    let row_is : K row = (λ n. (λ h. ((c.members n).0 h).1, λ both. (c.members n).1 (in_nodes n both.0, both)), omega (arith, mine.1)) in
    let whole = subst K (sym at) row_is in
    let is : IsLeastKey lists left (replicate (suc key) row) key =
    record { current = whole.0; some = whole.1; least = λ n l. least n ((all.members n).1 (in_nodes n l, l)) }
    in
    let (taken, t) = takes_made lists row c.rising (length row) (omega arith) in
    let T : List ℕ → Type 0 = λ xs. TakesApart lists xs taken in
    let t' = subst T (take_all (length row) row (omega arith)) t in
    (taken, round_is nodes graph gone lists left (replicate (suc key) row) key taken r.told r.flags is (subst T (sym at) t'), takes_some lists row taken c.rising row_is.1 t')

-- ---- the rounds

abbrev Ends : ℕ → (ℕ → ℕ → Type 0) → Type 0
Ends nodes graph = ((order : List ℕ) × IsEliminationOrder nodes graph order × IsOrder order × (length order ≡ nodes)) ⊎ ((node : ℕ) × IsFirstBroad nodes graph node)

-- the rounds after one more
abbrev Goes : ℕ → (ℕ → ℕ → Type 0) → List Bool → List (List ℕ) → Type 0
Goes nodes graph left queue = (lists : List (List ℕ)) × (left' : List Bool) × (queue' : List (List ℕ)) × (gone : List ℕ) × IsReached nodes graph lists left' queue' gone × (length queue' ≡ length queue) × (left_count left' < left_count left)

turned : (nodes : ℕ) (graph : ℕ → ℕ → Type 0) (lists : List (List ℕ)) (left : List Bool) (queue : List (List ℕ)) (gone round : List ℕ) → nodes + 2 < length queue → IsReached nodes graph lists left queue gone → IsRound nodes graph gone round → 0 < length round → Ends nodes graph ⊎ Goes nodes graph left queue
turned nodes graph lists left queue gone round room r is some =
    elim (round_made round lists queue r.proper (omega (arith, room, r.count)) r.queue_is.rising r.queue_is.in_range (length round) (omega arith)) [
      | inr (place, node, stops) ↦ inl (inr (node, reached_broad nodes graph lists left queue gone round place node r is stops))
      | inl (new, queued, count, long, e) ↦
          (let whole = take_all (length round) round (omega arith) in
          let E : List ℕ → Type 0 = λ xs. EliminatesRound xs lists new queue queued in
          let (left', marked, m) = marks_made left round is.2.rising (λ n h. (r.flags n).1 ((is.2.members n).0 h).0) (length round) (omega arith) in
          let M : List ℕ → Type 0 = λ xs. Marks xs left left' in
          let m' = subst M whole m in
          inr (new, left', queued, gone ++ round, reached_more nodes graph lists new left left' queue queued gone round count marked r is (subst E whole e) m', long, omega (arith, some, m'.count)))
    ]

turn : (nodes : ℕ) (graph : ℕ → ℕ → Type 0) (lists : List (List ℕ)) (left : List Bool) (queue : List (List ℕ)) (gone : List ℕ) → nodes + 2 < length queue → IsReached nodes graph lists left queue gone → Ends nodes graph ⊎ Goes nodes graph left queue
turn nodes graph lists left queue gone room r =
    let (ns, all) = chosen (λ n. is_left left n ≡ true) (λ n. decide_true (is_left left n)) nodes in
    elim (cases_lt 0 (length ns)) [
      | inr bare ↦
          (let none : (n : ℕ) → is_left left n ≡ true → ⊥ = λ n l. omega (arith, bare, ((all.members n).1 (((r.flags n).0 l).0, l)).1) in
          inl (inl (gone, reached_all nodes graph lists left queue gone r none, reached_order nodes graph lists left queue gone r none, reached_length nodes graph lists left queue gone r none)))
      | inl some ↦
          (let (round, is, takes) = round_found nodes graph lists left queue gone ns r all some in
          turned nodes graph lists left queue gone round room r is takes)
    ]

ends_from : (fuel nodes : ℕ) (graph : ℕ → ℕ → Type 0) (lists : List (List ℕ)) (left : List Bool) (queue : List (List ℕ)) (gone : List ℕ) → left_count left ≤ fuel → nodes + 2 < length queue → IsReached nodes graph lists left queue gone → Ends nodes graph
ends_from zero nodes graph lists left queue gone enough room r =
    elim (turn nodes graph lists left queue gone room r) [
      | inl ends ↦ ends
      | inr (lists', left', queue', gone', r', long, fewer) ↦ absurd (omega (arith, enough, fewer))
    ]
ends_from (suc fuel) nodes graph lists left queue gone enough room r =
    elim (turn nodes graph lists left queue gone room r) [
      | inl ends ↦ ends
      | inr (lists', left', queue', gone', r', long, fewer) ↦ ends_from fuel nodes graph lists' left' queue' gone' (omega (arith, enough, fewer)) (omega (arith, room, long)) r'
    ]

pub order_or_broad : OrderOrBroadNode
order_or_broad nodes pairs within apart =
    let (lists, count, l) = links_made nodes pairs linked in
    let g = links_graph nodes pairs lists count l within apart in
    let (all, c) = chosen (λ n. n ≡ n) (λ n. inl refl) nodes in
    let every : (n : ℕ) → Contains all n ↔ (n < nodes) = λ n. (λ h. ((c.members n).0 h).0, λ lt. (c.members n).1 (lt, refl)) in
    let (queue, long, q) = queue_made lists all (replicate (nodes + 3) [])
    (λ key n h. absurd (list_of-empty (nodes + 3) key n h))
    (λ n h. (omega (arith, count, (every n).0 h), key_small lists n (length (replicate (nodes + 3) (let e : List ℕ = [] in e))) g (omega (arith, count, length-replicate (nodes + 3) (let e : List ℕ = [] in e))))) in
    ends_from (left_count (replicate nodes true)) nodes (links pairs) lists (replicate nodes true) queue [] (omega arith) (omega (arith, long, length-replicate (nodes + 3) (let e : List ℕ = [] in e)))
    (reached_none nodes pairs lists (replicate nodes true) queue all (nodes + 3) count l g refl every q)
  where
    P : (ℕ × ℕ) → Type 0
    P p = (p.0 < nodes) × (p.1 < nodes)

    linked : (n k : ℕ) → links pairs n k → (n < nodes) × (k < nodes)
    linked n k (inl one) = All-contains P pairs (n, k) within one
    linked n k (inr other) = let both = All-contains P pairs (k, n) within other in (both.1, both.0)
