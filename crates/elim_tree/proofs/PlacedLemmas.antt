-- The links of places are those of their nodes.
use Rattle.std.proofs.Common.{◌≡◌, ◌≢◌, ℕ, zero, suc, ◌<◌, ◌≤◌, min, max, List, [], ◌∷◌, ◌++◌, length, get_or, replicate, Contains, All, inl, inr, ◌↔◌, ◌∙◌, sym, ap, arith, subst, refl}
use Rattle.std.proofs.lemmas.Bool.{cases_lt}
use Rattle.std.proofs.lemmas.List.Elements.{Contains-append_left, Contains-push, Contains-push_cases, All-contains}
use Rattle.std.proofs.lemmas.List.{get_or_default}
use Rattle.lists.specs.Rising.{IsRising}
use Rattle.lists.specs.Lists.{list_of, ListsNumber}
use Rattle.lists.specs.Order.{IsOrder, place_of, places_of}
use Rattle.lists.proofs.PlaceLemmas.{place-found, place-at, places-read, length-places}
use Rattle.elimination.specs.Elimination.{Joined, IsLaterNeighbour}
use Rattle.elim_order.specs.Graph.{links}
use Rattle.elim_tree.specs.Tree.{placed, AreLater}
use Rattle.elim_tree.specs.Parts.{ListsHigher, AreHigher, higher}
use Rattle.elim_tree.proofs.HeadLemmas.{list_of-empty}

pub higher_none : (places : List ℕ) (lists : List (List ℕ)) → ((p : ℕ) → IsRising (list_of lists p)) → ListsHigher [] places lists lists
higher_none places lists up =
    record {
      count = refl;
      rising = up;
      members = λ p q. (λ h. inl h, λ h. elim h [ inl old ↦ old | inr (_, (_, _, (i, in', _), _)) ↦ absurd (omega arith) ]);
    }

pub higher_more : (done : List (ℕ × ℕ)) (n k : ℕ) (places : List ℕ) (old cur new : List (List ℕ)) → get_or places n 0 ≢ get_or places k 0 → ListsHigher done places old cur → ListsNumber cur new (min (get_or places n 0) (get_or places k 0)) (max (get_or places n 0) (get_or places k 0)) → ListsHigher (done ++ (n, k) ∷ []) places old new
higher_more done n k places old cur new apart l step =
    record {
      count = step.count ∙ l.count;
      rising = step.rising;
      members = λ p q. (
        λ h.
            elim ((step.members p q).0 h) [
              | inl c ↦
                  elim ((l.members p q).0 c) [
                    | inl o ↦ inl o
                    | inr (lt, (n', k', in', at)) ↦ inr (lt, (n', k', Contains-append_left done ((n, k) ∷ []) (n', k') in', at))
                  ]
              | inr (e, f) ↦
                  inr (
                    omega (arith, e, f, apart),
                    (
                      n,
                      k,
                      Contains-push done (n, k),
                      elim (cases_lt (get_or places n 0) (get_or places k 0)) [
                        | inl lt ↦ inl (omega (arith, e, lt), omega (arith, f, lt))
                        | inr ge ↦ inr (omega (arith, f, ge), omega (arith, e, ge))
                      ],
                    ),
                  )
            ],
        λ h.
            (step.members p q).1
            (elim h [
              | inl o ↦ inl ((l.members p q).1 (inl o))
              | inr (lt, (n', k', in', at)) ↦
                  elim (Contains-push_cases done (n, k) (n', k') in') [
                    | inl before ↦ inl ((l.members p q).1 (inr (lt, (n', k', before, at))))
                    | inr e ↦
                        (let en : n ≡ n' = ap (λ (x : ℕ × ℕ). x.0) e in
                        let ek : k ≡ k' = ap (λ (x : ℕ × ℕ). x.1) e in
                        let pn = ap (λ (x : ℕ). get_or places x 0) en in
                        let pk = ap (λ (x : ℕ). get_or places x 0) ek in
                        inr (elim at [
                          | inl (a, b) ↦ (omega (arith, pn, pk, a, b, lt), omega (arith, pn, pk, a, b, lt))
                          | inr (a, b) ↦ (omega (arith, pn, pk, a, b, lt), omega (arith, pn, pk, a, b, lt))
                        ]))
                  ]
            ]),
      );
    }

-- the pairs' higher places, and who is linked
pub higher_is : (pairs : List (ℕ × ℕ)) (order places : List ℕ) (first : List (List ℕ)) (p q : ℕ) → IsOrder order → places ≡ places_of order → All (λ x. (x.0 < length order) × (x.1 < length order)) pairs → ListsHigher pairs places (replicate (length order) []) first → p < q → higher first p q ↔ placed (links pairs) order p q
higher_is pairs order places first p q ok is within l lt = (
  λ h.
      elim ((l.members p q).0 h) [
        | inl none ↦ absurd (list_of-empty (length order) p q none)
        | inr (_, (n, k, in', at)) ↦
            (let both = All-contains (λ (x : ℕ × ℕ). (x.0 < length order) × (x.1 < length order)) pairs (n, k) within in' in
            let pn = place n both.0 in
            let pk = place k both.1 in
            elim at [
              | inl (a, b) ↦ (omega (arith, a, pn.0), omega (arith, b, pk.0), inl (moved n k p q in' (back n p pn.1 a) (back k q pk.1 b)))
              | inr (a, b) ↦ (omega (arith, b, pk.0), omega (arith, a, pn.0), inr (moved n k q p in' (back n q pn.1 a) (back k p pk.1 b)))
            ])
      ],
  λ (pl, ql, link).
      (l.members p q).1
      (inr (
        lt,
        elim link [
          | inl one ↦ (get_or order p 0, get_or order q 0, one, inl (there p pl, there q ql))
          | inr other ↦ (get_or order q 0, get_or order p 0, other, inr (there q ql, there p pl))
        ],
      )),
)
  where
    -- the place of a node holds it
    place : (n : ℕ) → n < length order → (get_or places n 0 < length order) × (get_or order (get_or places n 0) 0 ≡ n)
    place n nl =
        let found = place-found order n ok nl in
        let read : get_or places n 0 ≡ place_of n order = ap (λ (xs : List ℕ). get_or xs n 0) is ∙ places-read order n nl in
        (omega (arith, read, found.0), ap (λ (x : ℕ). get_or order x 0) read ∙ found.1)

    there : (x : ℕ) → x < length order → get_or places (get_or order x 0) 0 ≡ x
    there x xl = ap (λ (xs : List ℕ). get_or xs (get_or order x 0) 0) is ∙ places-read order (get_or order x 0) (ok.spread.in_range x xl) ∙ place-at order x ok xl

    back : (n x : ℕ) → get_or order (get_or places n 0) 0 ≡ n → get_or places n 0 ≡ x → n ≡ get_or order x 0
    back n x at e = sym at ∙ ap (λ (y : ℕ). get_or order y 0) e

    moved : (n k x y : ℕ) → Contains {X = ℕ × ℕ} pairs (n, k) → n ≡ get_or order x 0 → k ≡ get_or order y 0 → Contains {X = ℕ × ℕ} pairs (get_or order x 0, get_or order y 0)
    moved n k x y in' en ek =
        let P : ℕ → Type 0 = λ z. Contains {X = ℕ × ℕ} pairs (z, k) in
        let Q : ℕ → Type 0 = λ z. Contains {X = ℕ × ℕ} pairs (get_or order x 0, z) in
        subst Q ek (subst P en in')

pub higher_above : (pairs : List (ℕ × ℕ)) (order places : List ℕ) (first : List (List ℕ)) → IsOrder order → places ≡ places_of order → All (λ x. (x.0 < length order) × (x.1 < length order)) pairs → ListsHigher pairs places (replicate (length order) []) first → length first ≡ length order → AreHigher first
higher_above pairs order places first ok is within l long =
    record {
      rising = l.rising;
      above = λ p q h.
          elim ((l.members p q).0 h) as (λ _. (p < q) × (q < length first)) [
            | inl none ↦ absurd (list_of-empty (length order) p q none)
            | inr (lt, _) ↦ (lt, omega (arith, long, ((higher_is pairs order places first p q ok is within l lt).0 h).1))
          ];
    }

-- graphs that link the same lesser with greater places have the same later neighbours
joined_same : (l m : ℕ → ℕ → Type 0) → ((p q : ℕ) → p < q → l p q → m p q) → (t p q : ℕ) → t ≤ p → p < q → Joined l t p q → Joined m t p q
joined_same l m same zero p q le lt h = same p q lt h
joined_same l m same (suc t) p q le lt (inl h) = inl (joined_same l m same t p q (omega arith) lt h)
joined_same l m same (suc t) p q le lt (inr (tp, tq, jp, jq)) = inr (tp, tq, joined_same l m same t t p (omega arith) tp jp, joined_same l m same t t q (omega arith) tq jq)

pub later_same : (l m : ℕ → ℕ → Type 0) → ((p q : ℕ) → p < q → l p q ↔ m p q) → (p q : ℕ) → IsLaterNeighbour l p q ↔ IsLaterNeighbour m p q
later_same l m same p q = (
  λ (lt, j). (lt, joined_same l m (λ a b ab. (same a b ab).0) p p q (omega arith) lt j),
  λ (lt, j). (lt, joined_same m l (λ a b ab. (same a b ab).1) p p q (omega arith) lt j),
)

pub are_later_same : (l m : ℕ → ℕ → Type 0) (size : ℕ) (later : List (List ℕ)) → ((p q : ℕ) → p < q → l p q ↔ m p q) → AreLater l size later → AreLater m size later
are_later_same l m size later same a =
    record {
      count = a.count;
      rising = a.rising;
      members = λ p q lt.
          let both = later_same l m same p q in
          (λ h. both.0 ((a.members p q lt).0 h), λ h. (a.members p q lt).1 (both.1 h));
    }

-- ---- the places of an order's nodes
pub place_within : (order places : List ℕ) (n d : ℕ) → IsOrder order → places ≡ places_of order → n < length order → get_or places n d < length order
place_within order places n d ok is lt =
    let long : length places ≡ length order = ap (λ (xs : List ℕ). length xs) is ∙ length-places order in
    let read : get_or places n d ≡ place_of n order = get_or_default places n d 0 (omega arith) ∙ ap (λ (xs : List ℕ). get_or xs n 0) is ∙ places-read order n lt in
    omega (arith, read, (place-found order n ok lt).0)

pub places_apart : (order places : List ℕ) (n k : ℕ) → IsOrder order → places ≡ places_of order → n < length order → k < length order → get_or places n 0 ≡ get_or places k 0 → n ≡ k
places_apart order places n k ok is nl kl e =
    let read = λ (x : ℕ) (xl : x < length order). ap (λ (xs : List ℕ). get_or xs x 0) is ∙ places-read order x xl in
    let same : place_of n order ≡ place_of k order = sym (read n nl) ∙ e ∙ read k kl in
    sym (place-found order n ok nl).1 ∙ ap (λ (x : ℕ). get_or order x 0) same ∙ (place-found order k ok kl).1
