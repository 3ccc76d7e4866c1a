-- A generated model has an assembly tree: its elements make a line.
use Rattle.std.proofs.Common.{◌≡◌, ◌≢◌, ℕ, zero, suc, ◌+◌, ◌*◌, ◌<◌, ◌≤◌, List, [], ◌∷◌, length, get_or, take, map, ◌⊎◌, inl, inr, refl, sym, ap, ◌∙◌, arith, subst, All, Contains}
use Rattle.std.proofs.lemmas.List.{get_or_default}
use Rattle.std.proofs.lemmas.List.Elements.{Contains-get_or}
use Rattle.std.proofs.lemmas.List.FromFn.{get_or-map-range_with_len, length-map-range_with_len}
use Rattle.std.proofs.lemmas.List.Sums.{sum_by-le}
use Rattle.lists.specs.Listed.{listed}
use Rattle.lists.specs.Lists.{list_of}
use Rattle.lists.specs.Order.{IsOrder}
use Rattle.elimination.specs.Elimination.{Joined, IsLaterNeighbour}
use Rattle.elim_order.specs.Exist.{OrderOrBroadNode}
use Rattle.elim_order.specs.Graph.{AreNeighbours, links, eliminated, after}
use Rattle.elim_order.specs.Order.{IsEliminationOrder, IsFirstBroad}
use Rattle.elim_tree.specs.Fronts.{Fronts, front_entries, entries_of}
use Rattle.elim_tree.specs.Laws.{TreeOrTooMany}
use Rattle.elim_tree.specs.Tree.{placed, AreLater, IsTreeOf, HasManyEntries}
use Rattle.accepted_text.specs.Accepted.{joined_nodes, model_graph, IsModelOrder, IsModelTree}
use Rattle.model_types.specs.Lists.{Lists}
use Rattle.model_gen.specs.GeneratedModel.{node, straight, generated_model, GeneratedHasTree}
use Rattle.model_gen.proofs.Canonical.{map_listed}
use Rattle.model_gen.proofs.LineGraph.{IsLine, IsWithout, line_without, few_neighbours}
use Rattle.model_gen.proofs.Rules.{all_listed}

-- ---- the graph

abbrev next : ℕ → ℕ × ℕ
next i = (i, i + 1)

abbrev pairs : ℕ → List (ℕ × ℕ)
pairs count = listed count next

joined : (n : ℕ) → joined_nodes (generated_model n) ≡ pairs (4 * n)
joined n = map_listed (λ e. (e.from.0, e.to.0)) straight next (4 * n) (λ i inside. refl)

pair_is : (count a b : ℕ) → Contains (pairs count) (a, b) → b ≡ a + 1
pair_is count a b (i, inside, is) =
    let own : i < count = omega (arith, inside, length-map-range_with_len next 0 count) in
    let same : next i ≡ (a, b) = sym (get_or-map-range_with_len next 0 count i i (a, b) own (omega arith)) ∙ is in
    let first : i ≡ a = ap (λ (p : ℕ × ℕ). p.0) same in
    let second : i + 1 ≡ b = ap (λ (p : ℕ × ℕ). p.1) same in
    omega (arith, first, second)

neighbours_are : (count a b : ℕ) → links (pairs count) a b → (b ≡ a + 1) ⊎ (a ≡ b + 1)
neighbours_are count a b (inl up) = inl (pair_is count a b up)
neighbours_are count a b (inr down) = inr (pair_is count b a down)

swapped_link : (ps : List (ℕ × ℕ)) (a b : ℕ) → links ps a b → links ps b a
swapped_link ps a b (inl up) = inr up
swapped_link ps a b (inr down) = inl down

linked_apart : (count a b : ℕ) → links (pairs count) a b → a ≢ b
linked_apart count a b link same = elim (neighbours_are count a b link) [ inl up ↦ omega (arith, up, same) | inr down ↦ omega (arith, down, same) ]

module _ (count : ℕ) where
  above : (n k l : ℕ) → n < k → n < l → links (pairs count) n k → links (pairs count) n l → k ≡ l
  above n k l nk nl a b =
      elim (neighbours_are count n k a) [
        | inr down ↦ absurd (omega (arith, down, nk))
        | inl up ↦ elim (neighbours_are count n l b) [ inr down ↦ absurd (omega (arith, down, nl)) | inl also ↦ omega (arith, up, also) ]
      ]

  below : (n k l : ℕ) → k < n → l < n → links (pairs count) n k → links (pairs count) n l → k ≡ l
  below n k l nk nl a b =
      elim (neighbours_are count n k a) [
        | inl up ↦ absurd (omega (arith, up, nk))
        | inr down ↦ elim (neighbours_are count n l b) [ inl up ↦ absurd (omega (arith, up, nl)) | inr also ↦ omega (arith, down, also) ]
      ]

-- ---- no front is broad

-- a line by the nodes' own numbers, in which no node is its own neighbour
record IsNodeLine (g : ℕ → ℕ → Type 0) : Type 0 where
  line : IsLine (λ n. n) g
  apart : (n k : ℕ) → g n k → n ≢ k

without : (g : ℕ → ℕ → Type 0) (m : ℕ) → IsNodeLine g → IsNodeLine (eliminated g m)
without g m own = record {
  line = line_without (λ n. n) g m (eliminated g m) own.line (record {
    turns = λ n k (nm, km, here). (km, nm, turned n k here);
    apart = λ n k (nm, km, here). nm;
    from = λ n k (nm, km, here). elim here [ inl old ↦ inl old | inr (nk, mn, mk) ↦ inr (mn, mk) ];
  });
  apart = λ n k (nm, km, here). elim here [ inl old ↦ own.apart n k old | inr (nk, mn, mk) ↦ nk ];
}
  where
    turned : (n k : ℕ) → g n k ⊎ ((n ≢ k) × g m n × g m k) → g k n ⊎ ((k ≢ n) × g m k × g m n)
    turned n k (inl old) = inl (own.line.turns n k old)
    turned n k (inr (nk, mn, mk)) = inr ((λ same. nk (sym same)), mk, mn)

after_line : (g : ℕ → ℕ → Type 0) (gone : List ℕ) → IsNodeLine g → IsNodeLine (after g gone)
after_line g [] own = own
after_line g (m ∷ gone) own = after_line (eliminated g m) gone (without g m own)

node_line : (count : ℕ) → IsNodeLine (links (pairs count))
node_line count = record {
  line = record { turns = swapped_link (pairs count); above = above count; below = below count };
  apart = linked_apart count;
}

-- once some nodes are gone, a node has two neighbours left at most
narrow_after : (count : ℕ) (gone : List ℕ) (n : ℕ) (neighbours : List ℕ) → AreNeighbours (after (links (pairs count)) gone) n neighbours → length neighbours ≤ 2
narrow_after count gone n neighbours front = few_neighbours (λ n. n) (after (links (pairs count)) gone) (after_line (links (pairs count)) gone (node_line count)).line n neighbours front.rising each
  where
    each : (i : ℕ) → i < length neighbours → after (links (pairs count)) gone n (get_or neighbours i 0) × (n ≢ get_or neighbours i 0)
    each i inside =
        let here = (front.members (get_or neighbours i 0)).0 (Contains-get_or neighbours i 0 inside) in
        (here, (after_line (links (pairs count)) gone (node_line count)).apart n (get_or neighbours i 0) here)

never_broad : (nodes count number : ℕ) → IsFirstBroad nodes (links (pairs count)) number → ⊥
never_broad nodes count number (order, place, is) =
    omega (arith, is.broad.2, narrow_after count (take place order) (get_or order place 0) is.broad.0 is.broad.1)

-- ---- no tree is large

module _ (count : ℕ) (order : List ℕ) (ok : IsOrder order) where
  abbrev key : ℕ → ℕ
  key p = get_or order p 0

  abbrev linked : ℕ → ℕ → Type 0
  linked = placed (links (pairs count)) order

  -- two places that are left, and neighbours, once the places before t are eliminated
  abbrev Left : ℕ → ℕ → ℕ → Type 0
  Left t p q = (t ≤ p) × (t ≤ q) × (p ≢ q) × Joined linked t p q

  in_range : (t p q : ℕ) → Joined linked t p q → (p < length order) × (q < length order)
  in_range zero p q (pl, ql, _) = (pl, ql)
  in_range (suc t) p q (inl old) = in_range t p q old
  in_range (suc t) p q (inr (_, _, jp, jq)) = ((in_range t t p jp).1, (in_range t t q jq).1)

  keys_apart : (p q : ℕ) → p < length order → q < length order → p ≢ q → key p ≢ key q
  keys_apart p q pl ql differ same = differ (ok.spread.apart p q pl ql same)

  first_line : IsLine key (Left 0)
  first_line = record {
    turns = λ p q (tp, tq, pq, (pl, ql, link)). (tq, tp, (λ same. pq (sym same)), (ql, pl, swapped_link (pairs count) (key p) (key q) link));
    above = λ n k l nk nl (_, _, _, (_, kl, a)) (_, _, _, (_, ll, b)). ok.spread.apart k l kl ll (above count (key n) (key k) (key l) nk nl a b);
    below = λ n k l nk nl (_, _, _, (_, kl, a)) (_, _, _, (_, ll, b)). ok.spread.apart k l kl ll (below count (key n) (key k) (key l) nk nl a b);
  }

  next_line : (t : ℕ) → IsLine key (Left t) → IsLine key (Left (suc t))
  next_line t line = line_without key (Left t) t (Left (suc t)) line (record {
    turns = λ p q (tp, tq, pq, j). (tq, tp, (λ same. pq (sym same)), turned p q (omega (arith, tp)) (omega (arith, tq)) pq j);
    apart = λ p q (tp, tq, pq, j). let inside = (in_range (suc t) p q j).0 in keys_apart p t inside (omega (arith, tp, inside)) (λ same. omega (arith, same, tp));
    from = λ p q (tp, tq, pq, j). elim j as (λ _. Left t p q ⊎ (Left t t p × Left t t q)) [
      | inl old ↦ inl (omega (arith, tp), omega (arith, tq), pq, old)
      | inr (_, _, jp, jq) ↦ inr ((omega arith, omega (arith, tp), (λ same. omega (arith, same, tp)), jp), (omega arith, omega (arith, tq), (λ same. omega (arith, same, tq)), jq))
    ];
  })
    where
      turned : (p q : ℕ) → t ≤ p → t ≤ q → p ≢ q → Joined linked (suc t) p q → Joined linked (suc t) q p
      turned p q tp tq pq (inl old) = inl (line.turns p q (tp, tq, pq, old)).3
      turned p q tp tq pq (inr (lp, lq, jp, jq)) = inr (lq, lp, jq, jp)

  line_at : (t : ℕ) → IsLine key (Left t)
  line_at zero = first_line
  line_at (suc t) = next_line t (line_at t)

  few_later : (later : List (List ℕ)) (p : ℕ) → AreLater linked (length order) later → p < length order → length (list_of later p) ≤ 2
  few_later later p are inside = few_neighbours key (Left p) (line_at p) p (list_of later p) (are.rising p) each
    where
      each : (i : ℕ) → i < length (list_of later p) → Left p p (get_or (list_of later p) i 0) × (key p ≢ key (get_or (list_of later p) i 0))
      each i within =
          let q = get_or (list_of later p) i 0 in
          let here = (are.members p q inside).0 (Contains-get_or (list_of later p) i 0 within) in
          let apart : p ≢ q = λ same. omega (arith, same, here.0) in
          ((omega arith, omega (arith, here.0), apart, here.1), keys_apart p q inside (in_range p p q here.1).1 apart)

  few_entries : (later : List (List ℕ)) → AreLater linked (length order) later → entries_of later ≤ length order * 324
  few_entries later are =
      let each : All (λ (places : List ℕ). front_entries (length places) ≤ 324) later =
      λ p d inside. small (length (get_or later p d)) (subst (λ (xs : List ℕ). length xs ≤ 2) (get_or_default later p [] d inside) (few_later later p are (omega (arith, inside, are.count)))) in
      omega (arith, are.count, sum_by-le (λ (places : List ℕ). front_entries (length places)) 324 later each)
    where
      small : (k : ℕ) → k ≤ 2 → front_entries k ≤ 324
      small zero few = omega arith
      small (suc zero) few = omega arith
      small (suc (suc zero)) few = omega arith
      small (suc (suc (suc k))) few = absurd (omega (arith, few))

never_many : (count : ℕ) (order : List ℕ) → IsOrder order → length order ≤ 1601 → HasManyEntries (placed (links (pairs count)) order) (length order) → ⊥
never_many count order ok few (later, are, many) = omega (arith, many, few, few_entries count order ok later are)

-- ---- the tree

pub has_tree : OrderOrBroadNode → TreeOrTooMany → GeneratedHasTree
has_tree orders trees n some few =
    let m = generated_model n in
    let count : length m.nodes ≡ 4 * n + 1 = length-map-range_with_len node 0 (4 * n + 1) in
    let within = all_listed (λ (p : ℕ × ℕ). (p.0 < length m.nodes) × (p.1 < length m.nodes)) (4 * n) next (λ i inside. (omega (arith, inside, count), omega (arith, inside, count))) in
    let differ = all_listed (λ (p : ℕ × ℕ). p.0 ≢ p.1) (4 * n) next (λ i inside same. omega (arith, same)) in
    elim (orders (length m.nodes) (pairs (4 * n)) within differ) [
      | inr (number, broad) ↦ absurd (never_broad (length m.nodes) (4 * n) number broad)
      | inl (order, is, ok, whole) ↦ elim (trees (pairs (4 * n)) order) [
        | inl (t, tree) ↦ (t, of_pairs m t (pairs (4 * n)) (joined n) order is tree)
        | inr many ↦ absurd (never_many (4 * n) order ok (omega (arith, whole, count, few)) many)
      ]
    ]
  where
    of_pairs : (m : Lists) (t : Fronts) (ps : List (ℕ × ℕ)) → joined_nodes m ≡ ps → (order : List ℕ) → IsEliminationOrder (length m.nodes) (links ps) order → IsTreeOf (placed (links ps) order) order t → IsModelTree m t
    of_pairs m t ps same order is tree =
        let own : IsModelOrder m order = subst (λ qs. IsEliminationOrder (length m.nodes) (links qs) order) (sym same) is in
        let made : IsTreeOf (placed (model_graph m) order) order t = subst (λ qs. IsTreeOf (placed (links qs) order) order t) (sym same) tree in
        record {
          order = subst (IsModelOrder m) (sym made.order_is) own;
          tree = subst (λ o. IsTreeOf (placed (model_graph m) o) o t) (sym made.order_is) made;
        }
