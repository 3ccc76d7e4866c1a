-- The later places of a front hold the neighbours that its node has when it is eliminated.
use Rattle.std.proofs.Common.{◌≡◌, ◌≢◌, ℕ, zero, suc, ◌+◌, ◌<◌, ◌≤◌, List, [], ◌∷◌, ◌++◌, length, get_or, take, ◌⊎◌, inl, inr, ◌↔◌, ◌∙◌, sym, ap, arith, subst, refl}
use Rattle.std.proofs.lemmas.Bool.{cases_lt, cases_eq}
use Rattle.std.proofs.lemmas.List.{take_more}
use Rattle.std.proofs.lemmas.List.Elements.{Contains-get_or}
use Rattle.lists.specs.Lists.{list_of}
use Rattle.lists.specs.Order.{IsOrder}
use Rattle.elimination.specs.Elimination.{Joined, IsLaterNeighbour}
use Rattle.elim_order.specs.Graph.{eliminated, after}
use Rattle.elim_order.specs.Order.{IsNarrowAt}
use Rattle.elim_tree.specs.Tree.{placed, AreLater}
use Rattle.elim_tree.proofs.HeadLemmas.{fits_within}

after_push : (g : ℕ → ℕ → Type 0) (xs : List ℕ) (m n k : ℕ) → after g (xs ++ m ∷ []) n k ≡ eliminated (after g xs) m n k
after_push g [] m n k = refl
after_push g (x ∷ xs) m n k = after_push (eliminated g x) xs m n k

after_more : (g : ℕ → ℕ → Type 0) (order : List ℕ) (t n k : ℕ) → t < length order → after g (take (suc t) order) n k ≡ eliminated (after g (take t order)) (get_or order t 0) n k
after_more g order t n k lt =
    let next : take (suc t) order ≡ take t order ++ get_or order t 0 ∷ [] = ap (λ (x : ℕ). take x order) (let e : suc t ≡ t + 1 = omega arith in e) ∙ take_more order t 0 lt in
    ap (λ (xs : List ℕ). after g xs n k) next ∙ after_push g (take t order) (get_or order t 0) n k

-- places are joined as their nodes are
pub joined_after : (g : ℕ → ℕ → Type 0) (order : List ℕ) → IsOrder order → (t p q : ℕ) → t ≤ p → t ≤ q → p < length order → q < length order → p ≢ q → Joined (placed g order) t p q ↔ after g (take t order) (get_or order p 0) (get_or order q 0)
joined_after g order ok zero p q tp tq pl ql apart = (λ (_, _, h). h, λ h. (pl, ql, h))
joined_after g order ok (suc t) p q tp tq pl ql apart =
    let n = get_or order p 0 in
    let k = get_or order q 0 in
    let m = get_or order t 0 in
    let whole = after_more g order t n k (omega arith) in
    let own = joined_after g order ok t p q (omega arith) (omega arith) pl ql apart in
    let to_p = joined_after g order ok t t p (omega arith) (omega arith) (omega arith) pl (λ e. omega arith) in
    let to_q = joined_after g order ok t t q (omega arith) (omega arith) (omega arith) ql (λ e. omega arith) in
    let n-m : n ≢ m = λ e. (let s = ok.spread.apart p t pl (omega arith) e in omega (arith, s)) in
    let k-m : k ≢ m = λ e. (let s = ok.spread.apart q t ql (omega arith) e in omega (arith, s)) in
    let n-k : n ≢ k = λ e. apart (ok.spread.apart p q pl ql e) in (
      λ h.
          subst (λ (T : Type 0). T) (sym whole) (
            n-m,
            k-m,
            elim h as (λ _. after g (take t order) n k ⊎ ((n ≢ k) × after g (take t order) m n × after g (take t order) m k)) [
              | inl j ↦ inl (own.0 j)
              | inr (_, _, jp, jq) ↦ inr (n-k, to_p.0 jp, to_q.0 jq)
            ],
          ),
      λ h.
          elim (subst (λ (T : Type 0). T) whole h).2 as (λ _. Joined (placed g order) (suc t) p q) [
            | inl a ↦ inl (own.1 a)
            | inr (_, a, b) ↦ inr (omega arith, omega arith, to_p.1 a, to_q.1 b)
          ],
    )

pub joined_in_range : (g : ℕ → ℕ → Type 0) (order : List ℕ) (t p q : ℕ) → Joined (placed g order) t p q → (p < length order) × (q < length order)
joined_in_range g order zero p q (pl, ql, _) = (pl, ql)
joined_in_range g order (suc t) p q (inl h) = joined_in_range g order t p q h
joined_in_range g order (suc t) p q (inr (_, _, jp, jq)) = ((joined_in_range g order t t p jp).1, (joined_in_range g order t t q jq).1)

-- a narrow front has at most 31 later places
pub later_narrow : (g : ℕ → ℕ → Type 0) (order : List ℕ) (later : List (List ℕ)) (p : ℕ) → IsOrder order → AreLater (placed g order) (length order) later → p < length order → IsNarrowAt g order p → length (list_of later p) ≤ 31
later_narrow g order later p ok a pl (ns, front, few) =
    let xs = list_of later p in
    omega (
      arith,
      few,
      fits_within (λ q. get_or order q 0) xs ns
          (λ i j il jl e.
          let same = ok.spread.apart (get_or xs i 0) (get_or xs j 0) (within i il) (within j jl) e in
          elim (cases_lt i j) [
            | inl before ↦ absurd (omega (arith, same, a.rising p i j 0 before jl))
            | inr from ↦ elim (cases_eq i j) [ inl eq ↦ eq | inr ne ↦ absurd (omega (arith, same, a.rising p j i 0 (omega arith) il)) ]
          ])
          (λ i il.
          let (lt, j) = neighbour i il in
          (front.members (get_or order (get_or xs i 0) 0)).1 ((joined_after g order ok p p (get_or xs i 0) (omega arith) (omega arith) pl (within i il) (λ e. omega (arith, lt))).0 j)),
    )
  where
    neighbour : (i : ℕ) → i < length (list_of later p) → IsLaterNeighbour (placed g order) p (get_or (list_of later p) i 0)
    neighbour i il = (a.members p (get_or (list_of later p) i 0) pl).0 (Contains-get_or (list_of later p) i 0 il)

    within : (i : ℕ) → i < length (list_of later p) → get_or (list_of later p) i 0 < length order
    within i il = (joined_in_range g order p p (get_or (list_of later p) i 0) (neighbour i il).1).1
