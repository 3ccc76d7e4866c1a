-- Every order has a tree, or too many entries for one.
use Rattle.std.proofs.Common.{◌≡◌, ℕ, zero, suc, ◌<◌, ◌≤◌, List, [], ◌∷◌, ◌++◌, length, get_or, Contains, ◌⊎◌, inl, inr, ◌↔◌, sym, arith, subst, refl}
use Rattle.std.proofs.lemmas.Bool.{cases_lt, cases_eq}
use Rattle.std.proofs.lemmas.List.{get_or_default, get_or_past}
use Rattle.std.proofs.lemmas.List.Elements.{Contains-append_left, Contains-push, Contains-push_cases}
use Rattle.std.proofs.lemmas.List.FromFn.{length-map-range_with_len, get_or-map-range_with_len}
use Rattle.std.proofs.lemmas.List.Quantifiers.{all_pairs_push}
use Rattle.lists.specs.Rising.{IsRising}
use Rattle.lists.specs.Lists.{list_of}
use Rattle.lists.specs.Listed.{listed}
use Rattle.elimination.specs.Elimination.{Joined, IsLaterNeighbour}
use Rattle.elim_order.specs.Exist.{LinksAreDecided}
use Rattle.elim_order.specs.Graph.{links}
use Rattle.elim_tree.specs.Fronts.{entries_of}
use Rattle.elim_tree.specs.Laws.{TreeOrTooMany}
use Rattle.elim_tree.specs.Parts.{fronts_of}
use Rattle.elim_tree.specs.Tree.{placed, AreLater, IsTreeOf, HasManyEntries}
use Rattle.elim_tree.proofs.FrontLemmas.{joined_in_range}

-- ---- what is decided

decide_both : (P Q : Type 0) → P ⊎ (P → ⊥) → Q ⊎ (Q → ⊥) → (P × Q) ⊎ ((P × Q) → ⊥)
decide_both P Q (inl p) (inl q) = inl (p, q)
decide_both P Q (inl p) (inr none) = inr (λ both. none both.1)
decide_both P Q (inr none) q = inr (λ both. none both.0)

decide_lt : (n k : ℕ) → (n < k) ⊎ ((n < k) → ⊥)
decide_lt n k = elim (cases_lt n k) [ inl lt ↦ inl lt | inr from ↦ inr (λ lt. omega (arith, lt, from)) ]

module _ (decided : LinksAreDecided) where
  decide_placed : (pairs : List (ℕ × ℕ)) (order : List ℕ) (p q : ℕ) → placed (links pairs) order p q ⊎ (placed (links pairs) order p q → ⊥)
  decide_placed pairs order p q =
      elim (decide_both (p < length order) (q < length order) (decide_lt p (length order)) (decide_lt q (length order))) [
        | inr none ↦ inr (λ all. none (all.0, all.1))
        | inl inside ↦ elim (decided pairs (get_or order p 0) (get_or order q 0)) [ inl link ↦ inl (inside.0, inside.1, link) | inr none ↦ inr (λ all. none all.2) ]
      ]

decide_joined : (linked : ℕ → ℕ → Type 0) → ((p q : ℕ) → linked p q ⊎ (linked p q → ⊥)) → (t p q : ℕ) → Joined linked t p q ⊎ (Joined linked t p q → ⊥)
decide_joined linked decide zero p q = decide p q
decide_joined linked decide (suc t) p q =
    elim (decide_joined linked decide t p q) [
      | inl before ↦ inl (inl before)
      | inr apart ↦
          elim (decide_both ((t < p) × (t < q)) (Joined linked t t p × Joined linked t t q) (decide_both (t < p) (t < q) (decide_lt t p) (decide_lt t q))
          (decide_both (Joined linked t t p) (Joined linked t t q) (decide_joined linked decide t t p) (decide_joined linked decide t t q))) [
            | inl both ↦ inl (inr (both.0.0, both.0.1, both.1.0, both.1.1))
            | inr none ↦ inr (λ h. elim h as (λ _. ⊥) [ inl before ↦ apart before | inr (tp, tq, jp, jq) ↦ none ((tp, tq), (jp, jq)) ])
          ]
    ]

-- ---- the lists

-- a rising list has exactly the numbers below the bound of which P holds
record Chooses (P : ℕ → Type 0) (bound : ℕ) (xs : List ℕ) : Type 0 where
  rising : IsRising xs
  members : (k : ℕ) → Contains xs k ↔ ((k < bound) × P k)

chooses_one : (P : ℕ → Type 0) (n : ℕ) (xs : List ℕ) → Chooses P n xs → P n → Chooses P (suc n) (xs ++ n ∷ [])
chooses_one P n xs c holds =
    record {
      rising = all_pairs_push (λ x y. x < y) xs n c.rising (λ k d lt. ((c.members (get_or xs k d)).0 (k, lt, get_or_default xs k (get_or xs k d) d lt)).0);
      members = λ k. (
        λ h.
            elim (Contains-push_cases xs n k h) as (λ _. (k < suc n) × P k) [
              | inl old ↦ (let both = (c.members k).0 old in (omega (arith, both.0), both.1))
              | inr e ↦ (omega (arith, e), subst P e holds)
            ],
        λ (lt, p).
            elim (cases_eq k n) [
              | inl e ↦ (let Q : ℕ → Type 0 = λ z. Contains (xs ++ n ∷ []) z in subst Q (sym e) (Contains-push xs n))
              | inr ne ↦ Contains-append_left xs (n ∷ []) k ((c.members k).1 (omega (arith, lt, ne), p))
            ],
      );
    }

chooses_skip : (P : ℕ → Type 0) (n : ℕ) (xs : List ℕ) → Chooses P n xs → (P n → ⊥) → Chooses P (suc n) xs
chooses_skip P n xs c fails =
    record {
      rising = c.rising;
      members = λ k. (
        λ h. let both = (c.members k).0 h in (omega (arith, both.0), both.1),
        λ (lt, p). elim (cases_eq k n) [ inl e ↦ absurd (fails (subst P e p)) | inr ne ↦ (c.members k).1 (omega (arith, lt, ne), p) ],
      );
    }

chosen : (P : ℕ → Type 0) → ((n : ℕ) → P n ⊎ (P n → ⊥)) → (bound : ℕ) → (xs : List ℕ) × Chooses P bound xs
chosen P decide zero = (
  [],
  record {
    rising = λ i j d before within. absurd (omega (arith, within));
    members = λ k. (λ (i, within, is). absurd (omega (arith, within)), λ (lt, p). absurd (omega (arith, lt)));
  },
)
chosen P decide (suc n) =
    let before = chosen P decide n in
    elim (decide n) [
      | inl holds ↦ (before.0 ++ n ∷ [], chooses_one P n before.0 before.1 holds)
      | inr fails ↦ (before.0, chooses_skip P n before.0 before.1 fails)
    ]

pub tree_or_many : LinksAreDecided → TreeOrTooMany
tree_or_many decided pairs order =
    let size = length order in
    let pick = λ (p : ℕ). (chosen (IsLaterNeighbour linked p) (decide p) size).0 in
    let later = listed size pick in
    let long = length-map-range_with_len pick 0 size in
    let of : (p : ℕ) → p < size → Chooses (IsLaterNeighbour linked p) size (list_of later p) =
    λ p lt. subst (Chooses (IsLaterNeighbour linked p) size) (sym (get_or-map-range_with_len pick 0 size p p [] lt (omega arith))) (chosen (IsLaterNeighbour linked p) (decide p) size).1
    in
    let are : AreLater linked size later =
    record {
      count = long;
      rising = λ p. elim (cases_lt p size) [ inl lt ↦ (of p lt).rising | inr past ↦ subst IsRising (sym (get_or_past later p [] (omega (arith, long, past)))) (λ i j d before inside. absurd (omega (arith, inside))) ];
      members = λ p q lt. (λ h. (((of p lt).members q).0 h).1, λ is. ((of p lt).members q).1 ((joined_in_range (links pairs) order p p q is.1).1, is));
    }
    in
    elim (cases_lt 33554432 (entries_of later)) [
      | inl many ↦ inr (later, are, many)
      | inr few ↦ inl (fronts_of order later, record { order_is = refl; later_are = are; few = few })
    ]
  where
    linked : ℕ → ℕ → Type 0
    linked = placed (links pairs) order

    decide : (p q : ℕ) → IsLaterNeighbour linked p q ⊎ (IsLaterNeighbour linked p q → ⊥)
    decide p q = decide_both (p < q) (Joined linked p p q) (decide_lt p q) (decide_joined linked (decide_placed decided pairs order) p p q)
