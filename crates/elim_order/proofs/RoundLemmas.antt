-- The nodes of a round, one after another.
use Rattle.std.proofs.Common.{◌≡◌, ◌≢◌, ℕ, ◌+◌, ◌<◌, ◌≤◌, List, [], ◌∷◌, ◌++◌, length, get_or, take, drop, max, Contains, inl, inr, sym, arith, subst, refl, length-append}
use Rattle.std.proofs.lemmas.Bool.{cases_lt}
use Rattle.std.proofs.lemmas.List.{take-append-drop, length-take-le}
use Rattle.std.proofs.lemmas.List.Elements.{Contains-append_left, Contains-push}
use Rattle.lists.specs.Rising.{IsRising}
use Rattle.lists.specs.Lists.{list_of}
use Rattle.elim_order.specs.Graph.{eliminated, after}
use Rattle.elim_order.specs.Order.{IsNarrowAt}
use Rattle.elim_order.specs.Queue.{key_of, Queues}
use Rattle.elim_order.specs.State.{AreNeighbourLists, told, IsGraph, EliminatesRound, StopsAt}
use Rattle.elim_order.proofs.JoinLemmas.{IsGraph-eliminated}
use Rattle.lists.proofs.PlaceLemmas.{length-rising}
use Rattle.lists.proofs.UniqueLemmas.{decide_contains, rising_unique}
use Rattle.elim_order.proofs.GraphLemmas.{lists_once, neighbours_of, narrow-append, narrow-after}

-- lists tell what they tell
pub told_itself : (lists : List (List ℕ)) → ((n : ℕ) → IsRising (list_of lists n)) → AreNeighbourLists lists (told lists)
told_itself lists up = record { rising = up; members = λ n k. (λ h. h, λ h. h) }

pub round_none : (old queue : List (List ℕ)) → IsGraph old → ((key : ℕ) → IsRising (list_of queue key)) → ((key node : ℕ) → Contains (list_of queue key) node → node < length old) → EliminatesRound [] old old queue queue
round_none old queue g up within =
    record {
      lists = told_itself old g.rising;
      graph = g;
      narrow = λ p lt. absurd (omega arith);
      rising = up;
      in_range = within;
      kept = λ n out h. h;
    }

-- who is no neighbour of the node that goes keeps its list
unchanged : (cur new : List (List ℕ)) (node n : ℕ) → IsGraph cur → AreNeighbourLists new (eliminated (told cur) node) → n ≢ node → (told cur node n → ⊥) → list_of new n ≡ list_of cur n
unchanged cur new node n g lists ne apart =
    rising_unique (list_of new n) (list_of cur n) (lists.rising n) (g.rising n)
    (λ k h. elim ((lists.members n k).0 h).2 as (λ _. told cur n k) [ inl o ↦ o | inr (_, o, _) ↦ absurd (apart o) ])
    (λ k h. (lists.members n k).1 (ne, λ e. apart (g.converse n node (let P : ℕ → Type 0 = λ z. told cur n z in subst P e h)), inl h))

pub round_more : (done : List ℕ) (node : ℕ) (old cur new queue at next : List (List ℕ)) → length cur ≡ length old → length new ≡ length cur → EliminatesRound done old cur queue at → AreNeighbourLists new (eliminated (told cur) node) → Queues new (list_of cur node) at next → length (list_of cur node) ≤ 31 → EliminatesRound (done ++ node ∷ []) old new queue next
round_more done node old cur new queue at next count count' before lists q few =
    let g = before.graph in
    record {
      graph = IsGraph-eliminated cur new node count' g lists;
      lists = lists_once (told old) done node cur new before.lists lists;
      narrow = λ p lt.
          elim (cases_lt p (length done)) [
            | inl earlier ↦ narrow-append (told old) done (node ∷ []) p earlier (before.narrow p earlier)
            | inr from ↦
                (let last : length done + 0 ≡ p = omega (arith, length-append done (node ∷ [])) in
                let P : ℕ → Type 0 = λ z. IsNarrowAt (told old) (done ++ node ∷ []) z in
                subst P last (narrow-after (told old) cur done (node ∷ []) 0 before.lists (list_of cur node, neighbours_of cur (told cur) node (told_itself cur g.rising), few)))
          ];
      rising = q.rising;
      in_range = λ key n h. elim ((q.members key n).0 h) as (λ _. n < length old) [ inl o ↦ before.in_range key n o | inr (f, _) ↦ omega (arith, count, g.in_range node n f) ];
      kept = λ n out h.
          let was = before.kept n (λ d. out (Contains-append_left done (node ∷ []) n d)) h in
          elim (decide_contains (list_of cur node) n) [
            | inl f ↦ (q.members (key_of new n) n).1 (inr (f, refl))
            | inr apart ↦
                (let same = unchanged cur new node n g lists (λ e. out (let P : ℕ → Type 0 = λ z. Contains (done ++ node ∷ []) z in subst P (sym e) (Contains-push done node))) apart in
                let Q : List ℕ → Type 0 = λ xs. Contains (list_of next (max (length xs) 2)) n in
                subst Q (sym same) ((q.members (key_of cur n) n).1 (inl was)))
          ];
    }

-- a node of a round with over 31 neighbours
pub round_stops : (round : List ℕ) (i : ℕ) (old cur queue at : List (List ℕ)) → i < length round → EliminatesRound (take i round) old cur queue at → 31 < length (list_of cur (get_or round i 0)) → StopsAt round old i (get_or round i 0)
round_stops round i old cur queue at lt before many =
    record {
      in_round = lt;
      node_is = refl;
      broad = (list_of cur (get_or round i 0), neighbours_of cur (after (told old) (take i round)) (get_or round i 0) before.lists, many);
      before = λ q ql.
          let within : q < length (take i round) = omega (arith, length-take-le i round (omega arith)) in
          let P : List ℕ → Type 0 = λ xs. IsNarrowAt (told old) xs q in
          subst P (take-append-drop i round) (narrow-append (told old) (take i round) (drop i round) q within (before.narrow q within));
    }

-- a key is within a queue that has two places more than there are nodes
pub key_small : (lists : List (List ℕ)) (n room : ℕ) → IsGraph lists → length lists + 2 < room → key_of lists n < room
key_small lists n room g lt =
    let few = length-rising (list_of lists n) (length lists) (g.rising n) (g.in_range n) in
    omega arith
