-- The nodes that a round takes.
use Rattle.std.proofs.Common.{◌≡◌, ℕ, ◌<◌, ◌≤◌, List, [], ◌∷◌, ◌++◌, length, get_or, take, max, Contains, inl, inr, ◌↔◌, ◌∙◌, sym, ap, arith, subst, refl, Bool, true}
use Rattle.std.proofs.lemmas.Bool.{cases_lt, cases_eq}
use Rattle.std.proofs.lemmas.List.{get_or_default, get_or-take, length-take}
use Rattle.std.proofs.lemmas.List.Elements.{Contains-append_left, Contains-push, Contains-push_cases}
use Rattle.std.proofs.lemmas.List.Quantifiers.{all_pairs_push}
use Rattle.lists.specs.Rising.{IsRising}
use Rattle.lists.specs.Lists.{list_of}
use Rattle.elim_order.specs.Graph.{after, HasDegree}
use Rattle.elim_order.specs.Order.{IsLeft, IsRound}
use Rattle.elim_order.specs.Queue.{key_of, is_left, IsLeastKey}
use Rattle.elim_order.specs.State.{AreNeighbourLists, told, TakesApart}
use Rattle.elim_order.proofs.ListLemmas.{contains_none, contains_first, contains_rest, contains_cases}
use Rattle.lists.proofs.UniqueLemmas.{rising_unique}
use Rattle.elim_order.proofs.GraphLemmas.{neighbours_of}

-- the numbers before a place of a rising list are less
pub before_place : (xs : List ℕ) (i n : ℕ) → IsRising xs → i < length xs → Contains (take i xs) n → n < get_or xs i 0
before_place xs i n up lt (j, in', is) =
    let jl : j < i = omega (arith, length-take i xs) in
    let at : get_or xs j n ≡ n = sym (get_or-take i xs j n jl) ∙ is in
    omega (arith, at, get_or_default xs j 0 n (omega arith), up j i 0 jl lt)

-- a node that is no neighbour of one taken is taken
pub takes_more : (lists : List (List ℕ)) (done taken : List ℕ) (node : ℕ) → ((n : ℕ) → Contains done n → n < node) → TakesApart lists done taken → ((k : ℕ) → told lists node k → Contains taken k → ⊥) → TakesApart lists (done ++ node ∷ []) (taken ++ node ∷ [])
takes_more lists done taken node below t free =
    let less : (k : ℕ) → Contains taken k → k < node = λ k h. below k ((t.members k).0 h).0 in
    record {
      rising = all_pairs_push (λ x y. x < y) taken node t.rising (λ k d lt. less (get_or taken k d) (k, lt, get_or_default taken k (get_or taken k d) d lt));
      members = λ n. (
        λ h.
            elim (Contains-push_cases taken node n h) [
              | inl old ↦
                  (let both = (t.members n).0 old in (
                    Contains-append_left done (node ∷ []) n both.0,
                    λ k tk lt l.
                        elim (Contains-push_cases taken node k tk) [ inl o ↦ both.1 k o lt l | inr e ↦ absurd (omega (arith, below n both.0, e)) ],
                  ))
              | inr e ↦
                  (let P : ℕ → Type 0 = λ z. Contains (done ++ node ∷ []) z × ((k : ℕ) → Contains (taken ++ node ∷ []) k → k < z → told lists z k → ⊥) in
                  subst P e (
                    Contains-push done node,
                    λ k tk lt l.
                        elim (Contains-push_cases taken node k tk) [ inl o ↦ free k l o | inr e' ↦ absurd (omega (arith, e')) ],
                  ))
            ],
        λ (h, apart).
            elim (Contains-push_cases done node n h) [
              | inl d ↦ Contains-append_left taken (node ∷ []) n ((t.members n).1 (d, λ k tk lt l. apart k (Contains-append_left taken (node ∷ []) k tk) lt l))
              | inr e ↦ (let P : ℕ → Type 0 = λ z. Contains (taken ++ node ∷ []) z in subst P e (Contains-push taken node))
            ],
      );
    }

-- a neighbour of one taken is not
pub takes_skip : (lists : List (List ℕ)) (done taken : List ℕ) (node k : ℕ) → ((n : ℕ) → Contains done n → n < node) → TakesApart lists done taken → told lists node k → Contains taken k → TakesApart lists (done ++ node ∷ []) taken
takes_skip lists done taken node k below t l tk =
    record {
      rising = t.rising;
      members = λ n. (
        λ h. let both = (t.members n).0 h in (Contains-append_left done (node ∷ []) n both.0, both.1),
        λ (h, apart).
            elim (Contains-push_cases done node n h) [
              | inl d ↦ (t.members n).1 (d, apart)
              | inr e ↦
                  (let P : ℕ → Type 0 = λ z. (k' : ℕ) → Contains taken k' → k' < z → told lists z k' → ⊥ in
                  let Q : ℕ → Type 0 = λ z. P z → ⊥ in
                  absurd ((subst Q e (λ no. no k tk (below k ((t.members k).0 tk).0) l)) apart))
            ],
      );
    }

-- the first of some nodes is always taken
pub takes_some : (lists : List (List ℕ)) (nodes taken : List ℕ) → IsRising nodes → 0 < length nodes → TakesApart lists nodes taken → 0 < length taken
takes_some lists nodes taken up some t =
    let first = get_or nodes 0 0 in
    let in' = (t.members first).1 ((0, some, get_or_default nodes 0 first 0 some), λ k tk lt l. not_below k ((t.members k).0 tk).0 lt) in
    omega (arith, in'.1)
  where
    not_below : (k : ℕ) → Contains nodes k → k < get_or nodes 0 0 → ⊥
    not_below k (i, in', is) lt =
        elim (cases_eq i 0) [
          | inl e ↦ omega (arith, lt, is, get_or_default nodes i k 0 in', ap (λ (j : ℕ). get_or nodes j 0) e)
          | inr ne ↦ omega (arith, lt, is, get_or_default nodes i k 0 in', up 0 i 0 (omega arith) in')
        ]

-- a list that is not empty has a number at which f is least
least_at : (f : ℕ → ℕ) (x : ℕ) (xs : List ℕ) → (m : ℕ) × Contains (x ∷ xs) m × ((n : ℕ) → Contains (x ∷ xs) n → f m ≤ f n)
least_at f x [] =
    (x, contains_first x [], λ n h. elim (contains_cases x [] n h) as (λ _. f x ≤ f n) [ inl e ↦ omega (arith, ap f e) | inr none ↦ absurd (contains_none none) ])
least_at f x (y ∷ ys) =
    let rest = least_at f y ys in
    elim (cases_lt (f rest.0) (f x)) [
      | inl lower ↦
          (rest.0, contains_rest x (y ∷ ys) rest.0 rest.1, λ n h. elim (contains_cases x (y ∷ ys) n h) as (λ _. f rest.0 ≤ f n) [ inl e ↦ omega (arith, ap f e) | inr later ↦ rest.2 n later ])
      | inr from ↦
          (x, contains_first x (y ∷ ys), λ n h. elim (contains_cases x (y ∷ ys) n h) as (λ _. f x ≤ f n) [ inl e ↦ omega (arith, ap f e) | inr later ↦ omega (arith, rest.2 n later) ])
    ]

pub least_of : (f : ℕ → ℕ) (xs : List ℕ) → 0 < length xs → (m : ℕ) × Contains xs m × ((n : ℕ) → Contains xs n → f m ≤ f n)
least_of f [] some = absurd (omega arith)
least_of f (x ∷ xs) some = least_at f x xs

-- a node's degree is the length of its list
pub degree_is : (lists : List (List ℕ)) (g : ℕ → ℕ → Type 0) (n d : ℕ) → AreNeighbourLists lists g → HasDegree g n d → length (list_of lists n) ≡ d
degree_is lists g n d tells (ns, are, len) =
    ap (λ (xs : List ℕ). length xs) (rising_unique (list_of lists n) ns (tells.rising n) are.rising (λ k h. (are.members k).1 ((tells.members n k).0 h)) (λ k h. (tells.members n k).1 ((are.members k).0 h))) ∙ len

pub degree_has : (lists : List (List ℕ)) (g : ℕ → ℕ → Type 0) (n : ℕ) → AreNeighbourLists lists g → HasDegree g n (length (list_of lists n))
degree_has lists g n tells = (list_of lists n, neighbours_of lists g n tells, refl)

-- the nodes at the least key, but for those beside one taken before, are the round
pub round_is : (nodes : ℕ) (graph : ℕ → ℕ → Type 0) (gone : List ℕ) (lists : List (List ℕ)) (left : List Bool) (queue : List (List ℕ)) (key : ℕ) (taken : List ℕ) → AreNeighbourLists lists (after graph gone) → ((n : ℕ) → (is_left left n ≡ true) ↔ IsLeft nodes gone n) → IsLeastKey lists left queue key → TakesApart lists (list_of queue key) taken → IsRound nodes graph gone taken
round_is nodes graph gone lists left queue key taken tells flags least t =
    let degree_of = λ (n : ℕ). length (list_of lists n) in
    let low = least_of degree_of (list_of queue key) least.some in
    let m = low.0 in
    let at = (least.current m).0 low.1 in
    let at_key : max (degree_of m) 2 ≡ key = at.1 in (
      degree_of m,
      record {
        some = (m, (flags m).0 at.0, degree_has lists (after graph gone) m tells);
        least = λ n e l has.
            let is = degree_is lists (after graph gone) n e tells has in
            let from = least.least n ((flags n).1 l) in
            elim (cases_eq (key_of lists n) key) as (λ _. degree_of m ≤ e) [
              | inl same ↦ omega (arith, is, low.2 n ((least.current n).1 ((flags n).1 l, same)))
              | inr apart ↦ omega (arith, is, from, at_key)
            ];
      },
      record {
        rising = t.rising;
        members = λ n. (
          λ h.
              let both = (t.members n).0 h in
              let here = (least.current n).0 both.0 in
              let key_is : max (degree_of n) 2 ≡ key = here.1 in
              ((flags n).0 here.0, (degree_of n, degree_has lists (after graph gone) n tells, omega (arith, key_is, at_key)), λ k tk lt g. both.1 k tk lt ((tells.members n k).1 g)),
          λ (l, (d, has, le), apart).
              let is = degree_is lists (after graph gone) n d tells has in
              let from = least.least n ((flags n).1 l) in
              let same : key_of lists n ≡ key = omega (arith, is, le, from, at_key) in
              (t.members n).1 ((least.current n).1 ((flags n).1 l, same), λ k tk lt x. apart k tk lt ((tells.members n k).0 x)),
        );
      },
    )
