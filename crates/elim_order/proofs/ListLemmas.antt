-- Rising lists, and lists of lists.
use Rattle.std.proofs.Common.{◌≡◌, ◌≢◌, ℕ, zero, suc, ◌+◌, ◌-◌, ◌<◌, List, [], ◌∷◌, length, get_or, set, Contains, ◌⊎◌, inl, inr, ◌↔◌, ◌∙◌, sym, ap, arith, refl, Bool, true, false, cond, eqb, Vec, Global, vec_len}
use Rattle.std.specs.List.{remove, filter}
use Rattle.std.proofs.lemmas.List.{get_or_default, get_or-map, get_or-set_same, get_or-set_other}
use Rattle.std.proofs.lemmas.List.Edits.{length-remove, get_or-remove_below, get_or-remove_above}
use Rattle.std.proofs.lemmas.Bool.{cases_lt, cases_eq, eqb-true, eqb-false}
use Rattle.lists.specs.Rising.{IsRising}
use Rattle.lists.specs.Lists.{contents, list_of}

-- a number is taken out of a rising list
pub Contains-remove : (xs : List ℕ) (p y k : ℕ) → IsRising xs → p < length xs → get_or xs p 0 ≡ y → Contains (remove xs p) k ↔ (Contains xs k × (k ≢ y))
Contains-remove xs p y k up lt at =
    let len = length-remove xs p lt in (
      λ (i, in', is).
          elim (cases_lt i p) [
            | inl below ↦
                (let same : get_or xs i k ≡ k = sym (get_or-remove_below xs p k i below lt) ∙ is in
                ((i, omega arith, same), λ e. omega (arith, e, up i p 0 below lt, get_or_default xs i 0 k (omega arith), same, at)))
            | inr above ↦
                let same : get_or xs (i + 1) k ≡ k = sym (get_or-remove_above xs p k i above lt) ∙ is in
                ((i + 1, omega arith, same), λ e. omega (arith, e, up p (i + 1) 0 (omega arith) (omega arith), get_or_default xs (i + 1) 0 k (omega arith), same, at))
          ],
      λ (h, ne).
          elim (cases_lt h.0 p) [
            | inl below ↦ (h.0, omega (arith, h.1), get_or-remove_below xs p k h.0 below lt ∙ h.2)
            | inr from ↦
                elim (cases_eq h.0 p) [
                  | inl e ↦ absurd (ne (sym h.2 ∙ get_or_default xs h.0 k 0 h.1 ∙ ap (λ (i : ℕ). get_or xs i 0) e ∙ at))
                  | inr apart ↦ (
                    h.0 - 1,
                    omega (arith, h.1),
                    get_or-remove_above xs p k (h.0 - 1) (omega arith) lt
                        ∙ ap (λ (i : ℕ). get_or xs i k) (let e : h.0 - 1 + 1 ≡ h.0 = omega arith in e) ∙ h.2,
                  )
                ]
          ],
    )

pub contains_first : (x : ℕ) (xs : List ℕ) → Contains (x ∷ xs) x
contains_first x xs = (0, omega arith, refl)

pub contains_rest : (x : ℕ) (xs : List ℕ) (k : ℕ) → Contains xs k → Contains (x ∷ xs) k
contains_rest x xs k (i, in', is) = (suc i, omega (arith, in'), is)

pub contains_cases : (x : ℕ) (xs : List ℕ) (k : ℕ) → Contains (x ∷ xs) k → (x ≡ k) ⊎ Contains xs k
contains_cases x xs k (zero, in', is) = inl is
contains_cases x xs k (suc i, in', is) = inr (i, omega (arith, in'), is)

pub contains_none : {k : ℕ} → Contains [] k → ⊥
contains_none (i, in', is) = omega arith

-- what a filter keeps
pub Contains-filter : (test : ℕ → Bool) (xs : List ℕ) (k : ℕ) → Contains (filter test xs) k ↔ (Contains xs k × (test k ≡ true))
Contains-filter test [] k = (λ h. absurd (contains_none h), λ h. absurd (contains_none h.0))
Contains-filter test (x ∷ xs) k = at (test x) refl (Contains-filter test xs k)
  where
    at : (b : Bool) → test x ≡ b → Contains (filter test xs) k ↔ (Contains xs k × (test k ≡ true)) → Contains (cond b (x ∷ filter test xs) (filter test xs)) k ↔ (Contains (x ∷ xs) k × (test k ≡ true))
    at true is before = (
      λ h.
          elim (contains_cases x (filter test xs) k h) [
            | inl e ↦ ((0, omega arith, e), ap test (sym e) ∙ is)
            | inr later ↦ (let both = before.0 later in (contains_rest x xs k both.0, both.1))
          ],
      λ (h, passes).
          elim (contains_cases x xs k h) [
            | inl e ↦ (0, omega arith, e)
            | inr later ↦ contains_rest x (filter test xs) k (before.1 (later, passes))
          ],
    )
    at false is before = (
      λ h. let both = before.0 h in (contains_rest x xs k both.0, both.1),
      λ (h, passes).
          elim (contains_cases x xs k h) [
            | inl e ↦ absurd (let both : true ≡ false = sym passes ∙ ap test (sym e) ∙ is in cc)
            | inr later ↦ before.1 (later, passes)
          ],
    )

-- one of some lists is written
pub list_of-here : {X : Type 0} (lists : List (List X)) (n : ℕ) (new : List X) → n < length lists → list_of (set lists n new) n ≡ new
list_of-here lists n new lt = get_or-set_same lists n new [] lt

pub list_of-other : {X : Type 0} (lists : List (List X)) (n m : ℕ) (new : List X) → m ≢ n → list_of (set lists n new) m ≡ list_of lists m
list_of-other lists n m new apart = get_or-set_other lists n m new [] apart

-- the list that an element of the vectors holds, as it is read
pub list_at : (vs : List (Vec ℕ Global)) (i : ℕ) (d : Vec ℕ Global) → i < length vs → list_of (contents vs) i ≡ (get_or vs i d).items
list_at vs i d lt = get_or-map (λ (v : Vec ℕ Global). v.items) vs i d [] lt

-- whether a vector that was written is empty
written_len : (vs : List (Vec ℕ Global)) (i : ℕ) (v d : Vec ℕ Global) → i < length vs → vec_len (get_or (set vs i v) i d) ≡ length v.items
written_len vs i v d lt = ap (λ (w : Vec ℕ Global). vec_len w) (get_or-set_same vs i v d lt) ∙ v.ok.0

pub written_some : (vs : List (Vec ℕ Global)) (i : ℕ) (v d : Vec ℕ Global) (empty : Bool) → i < length vs → empty ≡ eqb (vec_len (get_or (set vs i v) i d)) 0 → empty ≡ false → 0 < length v.items
written_some vs i v d empty lt is full =
    let ne = eqb-false (vec_len (get_or (set vs i v) i d)) 0 (sym is ∙ full) in
    elim (cases_lt 0 (length v.items)) [ inl some ↦ some | inr none ↦ absurd (ne (written_len vs i v d lt ∙ (let e : length v.items ≡ 0 = omega arith in e))) ]

pub written_none : (vs : List (Vec ℕ Global)) (i : ℕ) (v d : Vec ℕ Global) (empty : Bool) → i < length vs → empty ≡ eqb (vec_len (get_or (set vs i v) i d)) 0 → empty ≡ true → v.items ≡ []
written_none vs i v d empty lt is bare =
    no_items v.items (sym (written_len vs i v d lt) ∙ eqb-true (vec_len (get_or (set vs i v) i d)) 0 (sym is ∙ bare))
  where
    no_items : (xs : List ℕ) → length xs ≡ 0 → xs ≡ []
    no_items [] e = refl
    no_items (x ∷ xs) e = absurd (omega (arith, e))
