-- The first of a list, and lists made place by place.
use Rattle.std.proofs.Common.{◌≡◌, ◌≢◌, ℕ, suc, ◌+◌, ◌-◌, ◌<◌, ◌≤◌, List, [], ◌∷◌, ◌++◌, length, get_or, set, replicate, Contains, inl, inr, ◌∙◌, sym, ap, arith, subst, refl, Some, None, Vec, Global}
use Rattle.std.specs.List.{slice_get, remove}
use Rattle.std.proofs.lemmas.Bool.{cases_lt, cases_eq}
use Rattle.std.proofs.lemmas.List.{get_or_default, get_or_past, get_or-replicate, get_or-map, get_or-set_same, get_or-set_other, length-replicate}
use Rattle.std.proofs.lemmas.List.Edits.{length-remove, get_or-remove_below, get_or-remove_above}
use Rattle.std.proofs.lemmas.List.FromFn.{map-range_with_len_more, get_or-map-range_with_len, length-map-range_with_len}
use Rattle.lists.specs.Rising.{IsRising}
use Rattle.lists.specs.Lists.{contents, list_of}
use Rattle.lists.specs.Listed.{listed}

pub contains_none : {k : ℕ} → Contains [] k → ⊥
contains_none (i, in', is) = omega arith

pub head_parts : (xs : List ℕ) (u : ℕ) → slice_get xs 0 ≡ Some u → (0 < length xs) × (get_or xs 0 0 ≡ u)
head_parts [] u e = cc
head_parts (x ∷ xs) u e = (omega arith, cc)

pub head_from : (xs : List ℕ) → 0 < length xs → slice_get xs 0 ≡ Some (get_or xs 0 0)
head_from [] lt = absurd (omega arith)
head_from (x ∷ xs) lt = refl

pub head_none : (xs : List ℕ) → slice_get xs 0 ≡ None → xs ≡ []
head_none [] e = refl
head_none (x ∷ xs) e = cc

pub head_contained : (xs : List ℕ) (u : ℕ) → slice_get xs 0 ≡ Some u → Contains xs u
head_contained xs u e = let h = head_parts xs u e in (0, h.0, get_or_default xs 0 u 0 h.0 ∙ h.1)

-- the first of a rising list is the least
pub head_least : (xs : List ℕ) (u k : ℕ) → IsRising xs → slice_get xs 0 ≡ Some u → Contains xs k → u ≤ k
head_least xs u k up e (i, in', is) =
    let h = head_parts xs u e in
    elim (cases_eq i 0) [
      | inl z ↦ omega (arith, h.1, is, get_or_default xs i k 0 in', ap (λ (j : ℕ). get_or xs j 0) z)
      | inr ne ↦ omega (arith, h.1, is, get_or_default xs i k 0 in', up 0 i 0 (omega arith) in')
    ]

pub same_head : (xs : List ℕ) (u v : ℕ) → slice_get xs 0 ≡ Some u → slice_get xs 0 ≡ Some v → u ≡ v
same_head xs u v e f = sym (head_parts xs u e).1 ∙ (head_parts xs v f).1

-- ---- lists made place by place
pub listed_more : {X : Type 0} (n : ℕ) (f : ℕ → X) → listed (n + 1) f ≡ listed n f ++ f n ∷ []
listed_more n f = map-range_with_len_more f 0 n n (omega arith)

pub length-listed : {X : Type 0} (n : ℕ) (f : ℕ → X) → length (listed n f) ≡ n
length-listed n f = length-map-range_with_len f 0 n

pub listed_read : {X : Type 0} (n : ℕ) (f : ℕ → X) (i : ℕ) (d : X) → i < n → get_or (listed n f) i d ≡ f i
listed_read n f i d lt = get_or-map-range_with_len f 0 n i i d lt (omega arith)

-- of empty lists each is empty
pub empty_at : (count n : ℕ) → list_of {X = ℕ} (replicate count []) n ≡ []
empty_at count n =
    elim (cases_lt n count) [
      | inl lt ↦ get_or-replicate count n [] [] lt
      | inr past ↦ get_or_past (replicate count []) n [] (omega (arith, length-replicate count (let e : List ℕ = [] in e)))
    ]

pub list_of-empty : (count n k : ℕ) → Contains (list_of (replicate count []) n) k → ⊥
list_of-empty count n k h = let Q : List ℕ → Type 0 = λ xs. Contains xs k in contains_none (subst Q (empty_at count n) h)

-- the list that an element of the vectors holds, as it is read
pub list_at : (vs : List (Vec ℕ Global)) (i : ℕ) (d : Vec ℕ Global) → i < length vs → list_of (contents vs) i ≡ (get_or vs i d).items
list_at vs i d lt = get_or-map (λ (v : Vec ℕ Global). v.items) vs i d [] lt

-- ---- counting
contains_removed : (ys : List ℕ) (j z : ℕ) → j < length ys → Contains ys z → get_or ys j z ≢ z → Contains (remove ys j) z
contains_removed ys j z lt (i, in', is) apart =
    elim (cases_lt i j) [
      | inl below ↦ (i, omega (arith, length-remove ys j lt), get_or-remove_below ys j z i below lt ∙ is)
      | inr from ↦
          elim (cases_eq i j) [
            | inl e ↦ absurd (apart (ap (λ (x : ℕ). get_or ys x z) (sym e) ∙ is))
            | inr ne ↦
                (i - 1, omega (arith, length-remove ys j lt), get_or-remove_above ys j z (i - 1) (omega arith) lt ∙ ap (λ (x : ℕ). get_or ys x z) (let e : i - 1 + 1 ≡ i = omega arith in e) ∙ is)
          ]
    ]

-- numbers that a map takes to different numbers of a list are at most as many
pub fits_within : (f : ℕ → ℕ) (xs ys : List ℕ) → ((i j : ℕ) → i < length xs → j < length xs → f (get_or xs i 0) ≡ f (get_or xs j 0) → i ≡ j) → ((i : ℕ) → i < length xs → Contains ys (f (get_or xs i 0))) → length xs ≤ length ys
fits_within f [] ys apart inside = omega arith
fits_within f (x ∷ xs) ys apart inside =
    let first = inside 0 (omega arith) in
    let rest = fits_within f xs (remove ys first.0) (λ i j il jl e. let s = apart (suc i) (suc j) (omega arith) (omega arith) e in omega (arith, s)) (λ i il.
    contains_removed ys first.0 (f (get_or xs i 0)) first.1 (inside (suc i) (omega arith)) (λ e.
    let s = apart 0 (suc i) (omega arith) (omega arith) (sym first.2 ∙ get_or_default ys first.0 (f x) (f (get_or xs i 0)) first.1 ∙ e) in
    omega (arith, s))) in
    omega (arith, rest, length-remove ys first.0 first.1)

-- lists stay in order as one is emptied
pub rising_emptied : (lists : List (List ℕ)) (n : ℕ) → n < length lists → ((q : ℕ) → IsRising (list_of lists q)) → (q : ℕ) → IsRising (list_of (set lists n []) q)
rising_emptied lists n lt up q =
    elim (cases_eq q n) [
      | inl e ↦ (let P : ℕ → Type 0 = λ z. IsRising (list_of (set lists n []) z) in subst P (sym e) (subst IsRising (sym (get_or-set_same lists n [] [] lt)) (λ i j d il jl. absurd (omega arith))))
      | inr apart ↦ subst IsRising (sym (get_or-set_other lists n q [] [] apart)) (up q)
    ]
