-- How the later neighbours of a place come from its links and from its children.
use Rattle.std.proofs.Common.{◌≡◌, ◌≢◌, ℕ, zero, suc, ◌+◌, ◌<◌, ◌≤◌, List, [], length, get_or, set, Contains, ◌⊎◌, inl, inr, ◌↔◌, ◌∙◌, sym, ap, arith, subst, refl, Option, Some, None}
use Rattle.std.specs.List.{slice_get}
use Rattle.std.proofs.lemmas.Bool.{cases_lt, cases_eq}
use Rattle.std.proofs.lemmas.List.{get_or-set_same, get_or-set_other}
use Rattle.lists.specs.Rising.{IsRising, InsertsLater}
use Rattle.lists.specs.Lists.{list_of}
use Rattle.elimination.specs.Elimination.{Joined, IsLaterNeighbour}
use Rattle.elim_tree.proofs.JoinedLemmas.{later_from_linked, later_closed}
use Rattle.elim_tree.specs.Tree.{AreLater}
use Rattle.elim_tree.specs.Parts.{AreHigher, higher, HandsTo}
use Rattle.elim_tree.proofs.HeadLemmas.{contains_none, head_none, head_from, head_contained, head_least, same_head}

-- neighbours are linked, or are later neighbours of one place before
pub joined_cases : (linked : ℕ → ℕ → Type 0) (t p q : ℕ) → Joined linked t p q → linked p q ⊎ ((c : ℕ) × (c < t) × IsLaterNeighbour linked c p × IsLaterNeighbour linked c q)
joined_cases linked zero p q h = inl h
joined_cases linked (suc t) p q (inl h) =
    elim (joined_cases linked t p q h) [ inl l ↦ inl l | inr (c, lt, a, b) ↦ inr (c, omega arith, a, b) ]
joined_cases linked (suc t) p q (inr (tp, tq, jp, jq)) = inr (t, omega arith, (tp, jp), (tq, jq))

-- the places before p have handed up: their lists are whole, and the others have what their children handed them
pub record HandsUp (first : List (List ℕ)) (p : ℕ) (cur : List (List ℕ)) : Type 0 where
  pub rising : (q : ℕ) → IsRising (list_of cur q)
  pub done : (c q : ℕ) → c < p → Contains (list_of cur c) q ↔ IsLaterNeighbour (higher first) c q
  pub ahead : (q r : ℕ) → p ≤ q → Contains (list_of cur q) r ↔ (Contains (list_of first q) r ⊎ ((c : ℕ) × (c < p) × (slice_get (list_of cur c) 0 ≡ Some q) × Contains (list_of cur c) r × (q < r)))
  pub above : (q r : ℕ) → Contains (list_of cur q) r → (q < r) × (r < length first)

pub hands_none : (first : List (List ℕ)) → AreHigher first → HandsUp first 0 first
hands_none first h =
    record {
      rising = h.rising;
      done = λ c q lt. absurd (omega arith);
      ahead = λ q r le. (λ x. inl x, λ e. elim e [ inl x ↦ x | inr (c, lt, _, _, _) ↦ absurd (omega arith) ]);
      above = h.above;
    }

-- then the next list is whole too
pub hands_here : (first : List (List ℕ)) (p : ℕ) (cur : List (List ℕ)) → AreHigher first → HandsUp first p cur → (q : ℕ) → Contains (list_of cur p) q ↔ IsLaterNeighbour (higher first) p q
hands_here first p cur h u q = (
  λ m.
      let lt = (u.above p q m).0 in
      elim ((u.ahead p q (omega arith)).0 m) [
        | inl l ↦ later_from_linked (higher first) p q lt l
        | inr (c, cl, head, has, _) ↦ later_closed (higher first) c p q lt ((u.done c p cl).0 (head_contained (list_of cur c) p head)) ((u.done c q cl).0 has)
      ],
  λ (lt, j).
      elim (joined_cases (higher first) p p q j) [
        | inl l ↦ (u.ahead p q (omega arith)).1 (inl l)
        | inr (c, cl, a, b) ↦ climb p c cl (omega arith) lt a b
      ],
)
  where
    climb : (fuel c : ℕ) → c < p → p ≤ c + fuel → p < q → IsLaterNeighbour (higher first) c p → IsLaterNeighbour (higher first) c q → Contains (list_of cur p) q
    climb zero c cl le lt a b = absurd (omega arith)
    climb (suc fuel) c cl le lt a b =
        let xs = list_of cur c in
        let has = (u.done c p cl).1 a in
        let v = get_or xs 0 0 in
        let head = head_from xs (omega (arith, has.1)) in
        let least = head_least xs v p (u.rising c) head has in
        elim (cases_eq v p) [
          | inl e ↦ (u.ahead p q (omega arith)).1 (inr (c, cl, head ∙ ap (λ (x : ℕ). Some x) e, (u.done c q cl).1 b, lt))
          | inr apart ↦
              (let first' = (u.done c v cl).0 (head_contained xs v head) in
              climb fuel v (omega arith) (omega (arith, first'.0)) lt (later_closed (higher first) c v p (omega arith) first' a) (later_closed (higher first) c v q (omega arith) first' b))
        ]

-- the list of a place is handed to its parent
pub hands_more : (first : List (List ℕ)) (p : ℕ) (cur next : List (List ℕ)) → AreHigher first → HandsUp first p cur → ((q : ℕ) → IsRising (list_of next q)) → ((c : ℕ) → c < p + 1 → list_of next c ≡ list_of cur c) → ((q r : ℕ) → p < q → Contains (list_of next q) r ↔ (Contains (list_of cur q) r ⊎ ((slice_get (list_of cur p) 0 ≡ Some q) × Contains (list_of cur p) r × (q < r)))) → HandsUp first (p + 1) next
hands_more first p cur next h u up keep gain =
    record {
      rising = up;
      done = λ c q lt.
          let P : List ℕ → Type 0 = λ xs. Contains xs q ↔ IsLaterNeighbour (higher first) c q in
          subst P (sym (keep c lt)) (elim (cases_lt c p) [
            | inl before ↦ u.done c q before
            | inr here ↦
                (let e : p ≡ c = omega arith in
                let Q : ℕ → Type 0 = λ z. Contains (list_of cur z) q ↔ IsLaterNeighbour (higher first) z q in
                subst Q e (hands_here first p cur h u q))
          ]);
      ahead = λ q r le. (
        λ m.
            elim ((gain q r (omega arith)).0 m) [
              | inl old ↦
                  elim ((u.ahead q r (omega arith)).0 old) [
                    | inl l ↦ inl l
                    | inr (c, cl, head, has, lt) ↦ inr (c, omega arith, moved c q r (omega arith) head, kept c r (omega arith) has, lt)
                  ]
              | inr (head, has, lt) ↦ inr (p, omega arith, moved p q r (omega arith) head, kept p r (omega arith) has, lt)
            ],
        λ e.
            (gain q r (omega arith)).1
            (elim e [
              | inl l ↦ inl ((u.ahead q r (omega arith)).1 (inl l))
              | inr (c, cl, head, has, lt) ↦
                  elim (cases_lt c p) [
                    | inl before ↦ inl ((u.ahead q r (omega arith)).1 (inr (c, before, back c q r cl head, unkept c r cl has, lt)))
                    | inr here ↦
                        (let e' : c ≡ p = omega arith in
                        let H : ℕ → Type 0 = λ z. slice_get (list_of cur z) 0 ≡ Some q in
                        let C : ℕ → Type 0 = λ z. Contains (list_of cur z) r in
                        inr (subst H e' (back c q r cl head), subst C e' (unkept c r cl has), lt))
                  ]
            ]),
      );
      above = λ q r m.
          elim (cases_lt q (p + 1)) [
            | inl before ↦ u.above q r (unkept q r before m)
            | inr from ↦ elim ((gain q r (omega arith)).0 m) as (λ _. (q < r) × (r < length first)) [ inl old ↦ u.above q r old | inr (head, has, lt) ↦ (lt, (u.above p r has).1) ]
          ];
    }
  where
    moved : (c q r : ℕ) → c < p + 1 → slice_get (list_of cur c) 0 ≡ Some q → slice_get (list_of next c) 0 ≡ Some q
    moved c q r lt e = ap (λ (xs : List ℕ). slice_get xs 0) (keep c lt) ∙ e

    back : (c q r : ℕ) → c < p + 1 → slice_get (list_of next c) 0 ≡ Some q → slice_get (list_of cur c) 0 ≡ Some q
    back c q r lt e = ap (λ (xs : List ℕ). slice_get xs 0) (sym (keep c lt)) ∙ e

    kept : (c r : ℕ) → c < p + 1 → Contains (list_of cur c) r → Contains (list_of next c) r
    kept c r lt m = let P : List ℕ → Type 0 = λ xs. Contains xs r in subst P (sym (keep c lt)) m

    unkept : (c r : ℕ) → c < p + 1 → Contains (list_of next c) r → Contains (list_of cur c) r
    unkept c r lt m = let P : List ℕ → Type 0 = λ xs. Contains xs r in subst P (keep c lt) m

-- a place with no later neighbour hands nothing
pub hands_nothing : (first : List (List ℕ)) (p : ℕ) (cur next : List (List ℕ)) → AreHigher first → HandsUp first p cur → ((c : ℕ) → list_of next c ≡ list_of cur c) → list_of cur p ≡ [] → HandsUp first (p + 1) next
hands_nothing first p cur next h u same none =
    hands_more first p cur next h u (λ q. subst IsRising (sym (same q)) (u.rising q)) (λ c lt. same c) (λ q r lt.
    let P : List ℕ → Type 0 = λ xs. Contains xs r in (
      λ m. inl (subst P (same q) m),
      λ e. elim e [ inl old ↦ subst P (sym (same q)) old | inr (_, has, _) ↦ absurd (contains_none (subst P none has)) ],
    ))

-- the parent takes what is above it
pub hands_on : (first : List (List ℕ)) (p v : ℕ) (new : List ℕ) (cur next : List (List ℕ)) → AreHigher first → HandsUp first p cur → slice_get (list_of cur p) 0 ≡ Some v → InsertsLater (list_of cur v) new (list_of cur p) v → ((c : ℕ) → c ≢ v → list_of next c ≡ list_of cur c) → list_of next v ≡ new → HandsUp first (p + 1) next
hands_on first p v new cur next h u head inserts others here =
    let past = (u.above p v (head_contained (list_of cur p) v head)).0 in
    hands_more first p cur next h u
    (λ q. elim (cases_eq q v) [
      | inl e ↦ (let P : ℕ → Type 0 = λ z. IsRising (list_of next z) in subst P (sym e) (subst IsRising (sym here) inserts.rising))
      | inr apart ↦ subst IsRising (sym (others q apart)) (u.rising q)
    ])
    (λ c lt. others c (λ e. omega arith))
    (λ q r lt.
    let P : List ℕ → Type 0 = λ xs. Contains xs r in
    elim (cases_eq q v) [
      | inl e ↦
          (let Q : ℕ → Type 0 = λ z. Contains (list_of next z) r ↔ (Contains (list_of cur z) r ⊎ ((slice_get (list_of cur p) 0 ≡ Some z) × Contains (list_of cur p) r × (z < r))) in
          subst Q (sym e) (
            λ m. elim ((inserts.members r).0 (subst P here m)) [ inl old ↦ inl old | inr (has, above) ↦ inr (head, has, above) ],
            λ k. subst P (sym here) ((inserts.members r).1 (elim k [ inl old ↦ inl old | inr (_, has, above) ↦ inr (has, above) ])),
          ))
      | inr apart ↦ (
        λ m. inl (subst P (others q apart) m),
        λ k. elim k [ inl old ↦ subst P (sym (others q apart)) old | inr (other, _, _) ↦ absurd (apart (same_head (list_of cur p) q v other head)) ],
      )
    ])

pub hands_all : (first cur : List (List ℕ)) (size : ℕ) → length cur ≡ length first → length first ≡ size → HandsUp first size cur → AreLater (higher first) size cur
hands_all first cur size count long u = record { count = count ∙ long; rising = u.rising; members = λ p q lt. u.done p q lt }

-- one turn: the list is taken out, handed on and put back
pub hands_turn : (first : List (List ℕ)) (p : ℕ) (own : List ℕ) (cur new next : List (List ℕ)) → p < length new → AreHigher first → HandsUp first p cur → own ≡ list_of cur p → HandsTo (slice_get own 0) own (set cur p []) new → next ≡ set new p own → HandsUp first (p + 1) next
hands_turn first p own cur new next lt h u is hands put = at (slice_get own 0) refl hands
  where
    other : (c : ℕ) → c ≢ p → list_of next c ≡ list_of new c
    other c ne = ap (λ (ls : List (List ℕ)). list_of ls c) put ∙ get_or-set_other new p c own [] ne

    here : list_of next p ≡ list_of cur p
    here = ap (λ (ls : List (List ℕ)). list_of ls p) put ∙ get_or-set_same new p own [] lt ∙ is

    at : (o : Option ℕ) → slice_get own 0 ≡ o → HandsTo o own (set cur p []) new → HandsUp first (p + 1) next
    at None none same =
        hands_nothing first p cur next h u
        (λ c. elim (cases_eq c p) [
          | inl e ↦ (let P : ℕ → Type 0 = λ z. list_of next z ≡ list_of cur z in subst P (sym e) here)
          | inr ne ↦ other c ne ∙ ap (λ (ls : List (List ℕ)). list_of ls c) same ∙ get_or-set_other cur p c [] [] ne
        ])
        (sym is ∙ head_none own none)
    at (Some v) head (inserts, others) =
        let head' : slice_get (list_of cur p) 0 ≡ Some v = ap (λ (xs : List ℕ). slice_get xs 0) (sym is) ∙ head in
        let past = (u.above p v (head_contained (list_of cur p) v head')).0 in
        let v-p : v ≢ p = λ e. omega arith in
        let P : List ℕ → Type 0 = λ xs. InsertsLater xs (list_of new v) own v in
        let Q : List ℕ → Type 0 = λ xs. InsertsLater (list_of cur v) (list_of new v) xs v in
        hands_on first p v (list_of new v) cur next h u head' (subst Q is (subst P (get_or-set_other cur p v [] [] v-p) inserts))
        (λ c ne. elim (cases_eq c p) [
          | inl e ↦ (let R : ℕ → Type 0 = λ z. list_of next z ≡ list_of cur z in subst R (sym e) here)
          | inr ne' ↦ other c ne' ∙ others c ne ∙ get_or-set_other cur p c [] [] ne'
        ])
        (other v v-p)
