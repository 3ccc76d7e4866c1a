-- Lists of lists.
use Rattle.std.proofs.Common.{◌≡◌, ℕ, ◌<◌, List, [], length, get_or, Contains, ◌⊎◌, inl, inr, ◌∙◌, sym, ap, arith, subst, refl, set, ◌↔◌, Vec, Global, Result, Ok, Err, OnOk}
use Rattle.std.proofs.lemmas.Bool.{cases_lt, cases_eq}
use Rattle.std.proofs.lemmas.List.{get_or_past, get_or-map, length-map, length-set, map-set, get_or-set_same, get_or-set_other}
use Rattle.lists.specs.Lists.{contents, list_of, ListsNumber}
use Rattle.lists.specs.Rising.{IsRising}

-- the list that an element of the vectors holds
pub contents-read : {X : Type 0} (vs : List (Vec X Global)) (i : ℕ) (v : Vec X Global) → i < length vs → v ≡ get_or vs i v → list_of (contents vs) i ≡ v.items
contents-read {X} vs i v lt is =
    get_or-map (λ (w : Vec X Global). w.items) vs i v [] lt ∙ ap (λ (w : Vec X Global). w.items) (sym is)

pub length-contents : {X : Type 0} (vs : List (Vec X Global)) → length (contents vs) ≡ length vs
length-contents {X} vs = length-map vs (λ (w : Vec X Global). w.items)

-- a list that contains something is not past the end
pub listing_in_range : {X : Type 0} (vs : List (Vec X Global)) (n : ℕ) (k : X) → Contains (list_of (contents vs) n) k → n < length vs
listing_in_range {X} vs n k (p, lt, is) =
    elim (cases_lt n (length vs)) [
      | inl in' ↦ in'
      | inr le ↦
          let none : list_of (contents vs) n ≡ [] = get_or_past (contents vs) n [] (omega (arith, length-contents vs)) in
          let P : List X → Type 0 = λ xs. p < length xs in
          let lt' : p < 0 = subst P none lt in
          omega arith
    ]

-- two facts of an Ok
pub on_ok_both : {T E P Q R : Type 0} (r : Result T E) → OnOk r P → OnOk r Q → (P → Q → R) → OnOk r R
on_ok_both (Ok x) p q f = f p q
on_ok_both (Err e) p q f = tt

-- one list is written
pub ListsNumber-set : (vs : List (Vec ℕ Global)) (n k : ℕ) (old new : Vec ℕ Global) → n < length vs → old ≡ get_or vs n old → ((a : ℕ) → IsRising (list_of (contents vs) a)) → IsRising new.items → ((b : ℕ) → Contains new.items b ↔ (Contains old.items b ⊎ (b ≡ k))) → ListsNumber (contents vs) (contents (set vs n new)) n k
ListsNumber-set vs n k old new lt is up new-up members =
    let items = λ (v : Vec ℕ Global). v.items in
    let whole = map-set items vs n new in
    let lists = contents vs in
    let in' : n < length lists = omega (arith, lt, length-map vs items) in
    let here = get_or-set_same lists n new.items [] in' in
    let P : List (List ℕ) → Type 0 = λ ls. ListsNumber lists ls n k in
    subst P (sym whole)
    record {
      count = length-set lists n new.items;
      rising = λ a.
          elim (cases_eq a n) [
            | inl e ↦ (let Q : ℕ → Type 0 = λ x. IsRising (list_of (set lists n new.items) x) in subst Q (sym e) (subst IsRising (sym here) new-up))
            | inr apart ↦ subst IsRising (sym (get_or-set_other lists n a new.items [] apart)) (up a)
          ];
      members = λ a b.
          elim (cases_eq a n) [
            | inl e ↦
                (let Q : ℕ → Type 0 = λ x. Contains (list_of (set lists n new.items) x) b ↔ (Contains (list_of lists x) b ⊎ ((x ≡ n) × (b ≡ k))) in
                subst Q (sym e)
                (let R : List ℕ → Type 0 = λ xs. Contains xs b ↔ (Contains (list_of lists n) b ⊎ ((n ≡ n) × (b ≡ k))) in
                subst R (sym here)
                (let S : List ℕ → Type 0 = λ xs. Contains new.items b ↔ (Contains xs b ⊎ ((n ≡ n) × (b ≡ k))) in
                subst S (sym (contents-read vs n old lt is)) (
                  λ h. elim ((members b).0 h) [ inl g ↦ inl g | inr g ↦ inr (refl, g) ],
                  λ h. (members b).1 (elim h [ inl g ↦ inl g | inr (_, g) ↦ inr g ]),
                ))))
            | inr apart ↦
                (let R : List ℕ → Type 0 = λ xs. Contains xs b ↔ (Contains (list_of lists a) b ⊎ ((a ≡ n) × (b ≡ k))) in
                subst R (sym (get_or-set_other lists n a new.items [] apart))
                (λ h. inl h, λ h. elim h [ inl g ↦ g | inr (e, _) ↦ absurd (apart e) ]))
          ];
    }
