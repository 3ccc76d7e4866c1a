-- Statements that are decided, and rising lists of the numbers below a bound of which one holds.
use Rattle.std.proofs.Common.{◌≡◌, ◌≢◌, ℕ, zero, suc, ◌<◌, ◌≤◌, List, [], ◌∷◌, ◌++◌, length, get_or, Contains, ◌⊎◌, inl, inr, ◌↔◌, sym, ap, arith, subst}
use Rattle.std.proofs.lemmas.Bool.{cases_lt, cases_eq}
use Rattle.std.proofs.lemmas.List.{get_or_default, get_or_past}
use Rattle.std.proofs.lemmas.List.Elements.{Contains-append_left, Contains-push, Contains-push_cases}
use Rattle.std.proofs.lemmas.List.FromFn.{length-map-range_with_len, get_or-map-range_with_len}
use Rattle.std.proofs.lemmas.List.Quantifiers.{all_pairs_push}
use Rattle.lists.specs.Rising.{IsRising}
use Rattle.lists.specs.Lists.{list_of}
use Rattle.lists.specs.Listed.{listed}

-- ---- what is decided

pub decide_both : (P Q : Type 0) → P ⊎ (P → ⊥) → Q ⊎ (Q → ⊥) → (P × Q) ⊎ ((P × Q) → ⊥)
decide_both P Q (inl p) (inl q) = inl (p, q)
decide_both P Q (inl p) (inr none) = inr (λ both. none both.1)
decide_both P Q (inr none) q = inr (λ both. none both.0)

pub decide_three : (P Q R : Type 0) → P ⊎ (P → ⊥) → Q ⊎ (Q → ⊥) → R ⊎ (R → ⊥) → (P × Q × R) ⊎ ((P × Q × R) → ⊥)
decide_three P Q R (inl p) (inl q) (inl r) = inl (p, q, r)
decide_three P Q R (inl p) (inl q) (inr none) = inr (λ all. none all.2)
decide_three P Q R (inl p) (inr none) r = inr (λ all. none all.1)
decide_three P Q R (inr none) q r = inr (λ all. none all.0)

pub decide_either : (P Q : Type 0) → P ⊎ (P → ⊥) → Q ⊎ (Q → ⊥) → (P ⊎ Q) ⊎ ((P ⊎ Q) → ⊥)
decide_either P Q (inl p) q = inl (inl p)
decide_either P Q (inr none) (inl q) = inl (inr q)
decide_either P Q (inr none) (inr nor) = inr (λ h. elim h as (λ _. ⊥) [ inl p ↦ none p | inr q ↦ nor q ])

neither : {X : Type 0} (x y : X) (xs : List X) → x ≢ y → (Contains xs y → ⊥) → Contains (x ∷ xs) y → ⊥
neither x y xs ne none (zero, within, is) = ne is
neither x y xs ne none (suc i, within, is) = none (i, omega (arith, within), is)

decide_later : {X : Type 0} (x y : X) (xs : List X) → x ≢ y → Contains xs y ⊎ (Contains xs y → ⊥) → Contains (x ∷ xs) y ⊎ (Contains (x ∷ xs) y → ⊥)
decide_later x y xs ne (inl (i, within, is)) = inl (suc i, omega (arith, within), is)
decide_later x y xs ne (inr none) = inr (neither x y xs ne none)

pub decide_pair : (pairs : List (ℕ × ℕ)) (n k : ℕ) → Contains {X = ℕ × ℕ} pairs (n, k) ⊎ (Contains {X = ℕ × ℕ} pairs (n, k) → ⊥)
decide_pair [] n k = inr (λ (i, within, is). omega (arith, within))
decide_pair ((a, b) ∷ pairs) n k =
    elim (cases_eq a n) [
      | inr ne ↦ decide_later {X = ℕ × ℕ} (a, b) (n, k) pairs (λ e. ne (ap (λ (p : ℕ × ℕ). p.0) e)) (decide_pair pairs n k)
      | inl same ↦
          elim (cases_eq b k) [
            | inr ne ↦ decide_later {X = ℕ × ℕ} (a, b) (n, k) pairs (λ e. ne (ap (λ (p : ℕ × ℕ). p.1) e)) (decide_pair pairs n k)
            | inl also ↦ inl (0, omega arith, λ i. (same i, also i))
          ]
    ]

-- ---- the lists

-- a rising list has exactly the numbers below the bound of which P holds
pub record Chooses (P : ℕ → Type 0) (bound : ℕ) (xs : List ℕ) : Type 0 where
  pub rising : IsRising xs
  pub members : (k : ℕ) → Contains xs k ↔ ((k < bound) × P k)

chooses_one : (P : ℕ → Type 0) (n : ℕ) (xs : List ℕ) → Chooses P n xs → P n → Chooses P (suc n) (xs ++ n ∷ [])
chooses_one P n xs c holds =
    record {
      rising = all_pairs_push (λ x y. x < y) xs n c.rising (λ k d lt. ((c.members (get_or xs k d)).0 (k, lt, get_or_default xs k (get_or xs k d) d lt)).0);
      members = λ k. (
        λ h.
            elim (Contains-push_cases xs n k h) as (λ _. (k < suc n) × P k) [
              | inl old ↦ (let both = (c.members k).0 old in (omega (arith, both.0), both.1))
              | inr e ↦ (omega (arith, e), subst P e holds)
            ],
        λ (lt, p).
            elim (cases_eq k n) [
              | inl e ↦ (let Q : ℕ → Type 0 = λ z. Contains (xs ++ n ∷ []) z in subst Q (sym e) (Contains-push xs n))
              | inr ne ↦ Contains-append_left xs (n ∷ []) k ((c.members k).1 (omega (arith, lt, ne), p))
            ],
      );
    }

chooses_skip : (P : ℕ → Type 0) (n : ℕ) (xs : List ℕ) → Chooses P n xs → (P n → ⊥) → Chooses P (suc n) xs
chooses_skip P n xs c fails =
    record {
      rising = c.rising;
      members = λ k. (
        λ h. let both = (c.members k).0 h in (omega (arith, both.0), both.1),
        λ (lt, p). elim (cases_eq k n) [ inl e ↦ absurd (fails (subst P e p)) | inr ne ↦ (c.members k).1 (omega (arith, lt, ne), p) ],
      );
    }

pub chosen : (P : ℕ → Type 0) → ((n : ℕ) → P n ⊎ (P n → ⊥)) → (bound : ℕ) → (xs : List ℕ) × Chooses P bound xs
chosen P decide zero = (
  [],
  record {
    rising = λ i j d before within. absurd (omega (arith, within));
    members = λ k. (λ (i, within, is). absurd (omega (arith, within)), λ (lt, p). absurd (omega (arith, lt)));
  },
)
chosen P decide (suc n) =
    let before = chosen P decide n in
    elim (decide n) [
      | inl holds ↦ (before.0 ++ n ∷ [], chooses_one P n before.0 before.1 holds)
      | inr fails ↦ (before.0, chooses_skip P n before.0 before.1 fails)
    ]

-- a list for each number below a count
pub each_chosen : (P : ℕ → ℕ → Type 0) → ((n k : ℕ) → P n k ⊎ (P n k → ⊥)) → (count bound : ℕ) → (lists : List (List ℕ)) × (length lists ≡ count) × ((n : ℕ) → n < count → Chooses (P n) bound (list_of lists n)) × ((n : ℕ) → count ≤ n → list_of lists n ≡ [])
each_chosen P decide count bound =
    let pick = λ (n : ℕ). (chosen (P n) (decide n) bound).0 in
    let long = length-map-range_with_len pick 0 count in (
      listed count pick,
      long,
      λ n lt.
          let at = get_or-map-range_with_len pick 0 count n n [] lt (omega arith) in
          subst (Chooses (P n) bound) (sym at) (chosen (P n) (decide n) bound).1,
      λ n past. get_or_past (listed count pick) n [] (omega (arith, long, past)),
    )
