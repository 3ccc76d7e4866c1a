-- The rounds, one after another.
use Rattle.std.proofs.Common.{◌≡◌, ℕ, ◌+◌, ◌-◌, ◌<◌, ◌≤◌, List, [], ◌∷◌, ◌++◌, length, get_or, Contains, inl, inr, ◌↔◌, ◌∙◌, sym, ap, arith, subst, Bool, true, length-append}
use Rattle.std.proofs.lemmas.Bool.{cases_lt, cases_eq}
use Rattle.std.proofs.lemmas.List.{get_or_append_left, get_or-append-add}
use Rattle.std.proofs.lemmas.List.Elements.{Contains-append_left, Contains-append_right, Contains-append_cases, Contains-get_or}
use Rattle.lists.specs.Rising.{IsRising}
use Rattle.lists.specs.Order.{IsSpread, IsOrder}
use Rattle.elim_order.specs.Graph.{after}
use Rattle.elim_order.specs.Order.{IsLeft, IsRound, LeadsTo, IsByRounds, IsNarrowAt, IsEliminationOrder, IsFirstBroad}
use Rattle.elim_order.specs.Queue.{is_left, left_count, IsQueue, Marks}
use Rattle.elim_order.specs.State.{AreNeighbourLists, IsGraph, EliminatesRound, StopsAt}
use Rattle.lists.proofs.UniqueLemmas.{decide_contains}
use Rattle.elim_order.proofs.MarkLemmas.{left_count-none}
use Rattle.elim_order.proofs.GraphLemmas.{lists_after, narrow-append, narrow-after, broad-after}

-- one more round
leads_on : (nodes : ℕ) (g : ℕ → ℕ → Type 0) (start : List ℕ) (rounds : List (List ℕ)) (gone round : List ℕ) → LeadsTo nodes g start rounds gone → IsRound nodes g gone round → LeadsTo nodes g start (rounds ++ round ∷ []) (gone ++ round)
leads_on nodes g start [] gone round e r =
    let P : List ℕ → Type 0 = λ xs. IsRound nodes g xs round in
    (subst P (sym e) r, ap (λ (xs : List ℕ). xs ++ round) e)
leads_on nodes g start (x ∷ xs) gone round (r, h) last = (r, leads_on nodes g (start ++ x) xs gone round h last)

pub rounds_more : (nodes : ℕ) (g : ℕ → ℕ → Type 0) (gone round : List ℕ) → IsByRounds nodes g gone → IsRound nodes g gone round → IsByRounds nodes g (gone ++ round)
rounds_more nodes g gone round (rounds, h) r = (rounds ++ round ∷ [], leads_on nodes g [] rounds gone round h r)

contains_at : (xs : List ℕ) (k : ℕ) → k < length xs → Contains xs (get_or xs k 0)
contains_at xs k lt = Contains-get_or xs k 0 lt

rising_apart : (xs : List ℕ) (k l : ℕ) → IsRising xs → k < length xs → l < length xs → get_or xs k 0 ≡ get_or xs l 0 → k ≡ l
rising_apart xs k l up kl ll same =
    elim (cases_lt k l) [
      | inl before ↦ absurd (omega (arith, up k l 0 before ll, same))
      | inr from ↦ elim (cases_eq k l) [ inl e ↦ e | inr ne ↦ absurd (omega (arith, up l k 0 (omega arith) kl, same)) ]
    ]

pub apart-append : (xs ys : List ℕ) (n : ℕ) → IsSpread xs n → IsRising ys → ((k : ℕ) → Contains ys k → (k < n) × (Contains xs k → ⊥)) → IsSpread (xs ++ ys) n
apart-append xs ys n a up fresh =
    record {
      in_range = λ k lt.
          elim (cases_lt k (length xs)) [
            | inl before ↦ omega (arith, get_or_append_left xs ys 0 k before, a.in_range k before)
            | inr from ↦ omega (arith, second k from lt, (fresh (get_or ys (k - length xs) 0) (contains_at ys (k - length xs) (omega (arith, length-append xs ys)))).0)
          ];
      apart = λ k l kl ll same.
          elim (cases_lt k (length xs)) [
            | inl k-before ↦
                elim (cases_lt l (length xs)) [
                  | inl l-before ↦ a.apart k l k-before l-before (sym (get_or_append_left xs ys 0 k k-before) ∙ same ∙ get_or_append_left xs ys 0 l l-before)
                  | inr l-from ↦ absurd (crossed k l k-before l-from ll same)
                ]
            | inr k-from ↦
                elim (cases_lt l (length xs)) [
                  | inl l-before ↦ absurd (crossed l k l-before k-from kl (sym same))
                  | inr l-from ↦
                      (let e = rising_apart ys (k - length xs) (l - length xs) up (omega (arith, length-append xs ys)) (omega (arith, length-append xs ys)) (sym (second k k-from kl) ∙ same ∙ second l l-from ll) in
                      omega (arith, e))
                ]
          ];
    }
  where
    second : (k : ℕ) → length xs ≤ k → k < length (xs ++ ys) → get_or (xs ++ ys) k 0 ≡ get_or ys (k - length xs) 0
    second k le lt =
        let at : length xs + (k - length xs) ≡ k = omega arith in
        let P : ℕ → Type 0 = λ z. get_or (xs ++ ys) z 0 ≡ get_or ys (k - length xs) 0 in
        subst P at (get_or-append-add xs ys (k - length xs) 0)

    crossed : (k l : ℕ) → k < length xs → length xs ≤ l → l < length (xs ++ ys) → get_or (xs ++ ys) k 0 ≡ get_or (xs ++ ys) l 0 → ⊥
    crossed k l before from lt same =
        let both : get_or xs k 0 ≡ get_or ys (l - length xs) 0 = sym (get_or_append_left xs ys 0 k before) ∙ same ∙ second l from lt in
        let P : ℕ → Type 0 = λ z. Contains xs z in
        (fresh (get_or ys (l - length xs) 0) (contains_at ys (l - length xs) (omega (arith, length-append xs ys)))).1
        (subst P both (contains_at xs k before))

-- some rounds are done
pub record IsReached (nodes : ℕ) (graph : ℕ → ℕ → Type 0) (lists : List (List ℕ)) (left : List Bool) (queue : List (List ℕ)) (gone : List ℕ) : Type 0 where
  pub count : length lists ≡ nodes
  pub marked : length left ≡ nodes
  pub told : AreNeighbourLists lists (after graph gone)
  pub proper : IsGraph lists
  pub flags : (n : ℕ) → (is_left left n ≡ true) ↔ IsLeft nodes gone n
  pub queue_is : IsQueue lists left queue
  pub rounds : IsByRounds nodes graph gone
  pub narrow : (p : ℕ) → p < length gone → IsNarrowAt graph gone p
  pub apart : IsSpread gone nodes
  pub counted : left_count left + length gone ≡ nodes

pub reached_more : (nodes : ℕ) (graph : ℕ → ℕ → Type 0) (lists lists' : List (List ℕ)) (left left' : List Bool) (queue queue' : List (List ℕ)) (gone round : List ℕ) → length lists' ≡ length lists → length left' ≡ length left → IsReached nodes graph lists left queue gone → IsRound nodes graph gone round → EliminatesRound round lists lists' queue queue' → Marks round left left' → IsReached nodes graph lists' left' queue' (gone ++ round)
reached_more nodes graph lists lists' left left' queue queue' gone round count marked r is e m =
    record {
      count = count ∙ r.count;
      marked = marked ∙ r.marked;
      told = lists_after graph gone round lists lists' r.told e.lists;
      proper = e.graph;
      flags = λ n. (
        λ l.
            let both = (m.left n).0 l in
            let was = (r.flags n).0 both.0 in
            (was.0, λ h. elim (Contains-append_cases gone round n h) [ inl before ↦ was.1 before | inr here ↦ both.1 here ]),
        λ (lt, out). (m.left n).1 ((r.flags n).1 (lt, λ h. out (Contains-append_left gone round n h)), λ h. out (Contains-append_right gone round n h)),
      );
      queue_is = record {
        rising = e.rising;
        in_range = λ d n h. omega (arith, count, e.in_range d n h);
        queued = λ n l. let both = (m.left n).0 l in e.kept n both.1 (r.queue_is.queued n both.0);
      };
      rounds = rounds_more nodes graph gone round r.rounds is;
      narrow = λ p lt.
          elim (cases_lt p (length gone)) [
            | inl before ↦ narrow-append graph gone round p before (r.narrow p before)
            | inr from ↦
                (let at : length gone + (p - length gone) ≡ p = omega arith in
                let P : ℕ → Type 0 = λ z. IsNarrowAt graph (gone ++ round) z in
                subst P at (narrow-after graph lists gone round (p - length gone) r.told (e.narrow (p - length gone) (omega (arith, length-append gone round)))))
          ];
      apart = apart-append gone round nodes r.apart is.2.rising (λ k h. let all = (is.2.members k).0 h in (all.0.0, all.0.1));
      counted = omega (arith, r.counted, m.count, length-append gone round);
    }

-- the queue may be put in order
pub reached_with : (nodes : ℕ) (graph : ℕ → ℕ → Type 0) (lists : List (List ℕ)) (left : List Bool) (queue queue' : List (List ℕ)) (gone : List ℕ) → IsReached nodes graph lists left queue gone → IsQueue lists left queue' → IsReached nodes graph lists left queue' gone
reached_with nodes graph lists left queue queue' gone r q =
    record { count = r.count; marked = r.marked; told = r.told; proper = r.proper; flags = r.flags; queue_is = q; rounds = r.rounds; narrow = r.narrow; apart = r.apart; counted = r.counted }

-- the rounds are whole where no node is left
pub reached_all : (nodes : ℕ) (graph : ℕ → ℕ → Type 0) (lists : List (List ℕ)) (left : List Bool) (queue : List (List ℕ)) (gone : List ℕ) → IsReached nodes graph lists left queue gone → ((n : ℕ) → is_left left n ≡ true → ⊥) → IsEliminationOrder nodes graph gone
reached_all nodes graph lists left queue gone r none =
    record {
      by_rounds = r.rounds;
      whole = λ n lt. elim (decide_contains gone n) [ inl here ↦ here | inr out ↦ absurd (none n ((r.flags n).1 (lt, out))) ];
      narrow = r.narrow;
    }

pub reached_length : (nodes : ℕ) (graph : ℕ → ℕ → Type 0) (lists : List (List ℕ)) (left : List Bool) (queue : List (List ℕ)) (gone : List ℕ) → IsReached nodes graph lists left queue gone → ((n : ℕ) → is_left left n ≡ true → ⊥) → length gone ≡ nodes
reached_length nodes graph lists left queue gone r none = omega (arith, r.counted, left_count-none left none)

pub reached_order : (nodes : ℕ) (graph : ℕ → ℕ → Type 0) (lists : List (List ℕ)) (left : List Bool) (queue : List (List ℕ)) (gone : List ℕ) → IsReached nodes graph lists left queue gone → ((n : ℕ) → is_left left n ≡ true → ⊥) → IsOrder gone
reached_order nodes graph lists left queue gone r none =
    let all = reached_length nodes graph lists left queue gone r none in
    let whole = (reached_all nodes graph lists left queue gone r none).whole in
    let P : ℕ → Type 0 = λ z. IsSpread gone z in
    record { spread = subst P (sym all) r.apart; complete = λ n lt. whole n (omega (arith, all)) }

-- a round that stops has the first node that is too broad
pub reached_broad : (nodes : ℕ) (graph : ℕ → ℕ → Type 0) (lists : List (List ℕ)) (left : List Bool) (queue : List (List ℕ)) (gone round : List ℕ) (place node : ℕ) → IsReached nodes graph lists left queue gone → IsRound nodes graph gone round → StopsAt round lists place node → IsFirstBroad nodes graph node
reached_broad nodes graph lists left queue gone round place node r is s = (
  gone ++ round,
  length gone + place,
  record {
    by_rounds = rounds_more nodes graph gone round r.rounds is;
    in_range = omega (arith, length-append gone round, s.in_round);
    node_is = get_or-append-add gone round place 0 ∙ s.node_is;
    broad = broad-after graph lists gone round place r.told s.broad;
    before = λ q lt.
        elim (cases_lt q (length gone)) [
          | inl before ↦ narrow-append graph gone round q before (r.narrow q before)
          | inr from ↦
              (let at : length gone + (q - length gone) ≡ q = omega arith in
              let P : ℕ → Type 0 = λ z. IsNarrowAt graph (gone ++ round) z in
              subst P at (narrow-after graph lists gone round (q - length gone) r.told (s.before (q - length gone) (omega arith))))
        ];
  },
)
