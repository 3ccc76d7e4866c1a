-- Lemmas on the names of a space.
use Rattle.std.proofs.Common.{◌≡◌, ◌≢◌, ℕ, ◌<◌, ◌≤◌, Bool, false, List, [], ◌∷◌, ◌++◌, map, length, get_or, Option, Some, None, is_some, position, AllPairs, Contains, IsNone, IfSome, ◌↔◌, slice_get, nat_eq, refl, sym, ap, subst, ◌∙◌, true≢false, arith}
use Rattle.std.proofs.lemmas.Grind.{common_steps}
use Rattle.std.proofs.lemmas.List.{map-append}
use Rattle.std.proofs.lemmas.List.Quantifiers.{all_pairs_push, position-Some}
use Rattle.std.proofs.lemmas.Option.{slice_get-get_or}
use Rattle.std.proofs.lemmas.List.Sums.{fails_before_first}
use Rattle.std.proofs.lemmas.Slice.Eq.{bytes_eq-Decides}
use Rattle.std.specs.Cmp.Lexicographic.{pointwise}
use Rattle.std.specs.List.{position_or_len}

-- where no element is found, each fails
pub fails_from_position : {X : Type 0} (p : X → Bool) (xs : List X) → is_some (position p xs) ≡ false → (k : ℕ) (d : X) → k < length xs → p (get_or xs k d) ≡ false
fails_from_position p xs none k d k_in =
    let all : length xs ≤ position_or_len p xs = grind (arith, common_steps) in
    fails_before_first p xs k d (omega arith)

-- a name that isn't there is added to distinct names
pub distinct_push : (names : List (List ℕ)) (name : List ℕ) → AllPairs (λ a b. a ≢ b) names → is_some (position (pointwise nat_eq name) names) ≡ false → AllPairs (λ a b. a ≢ b) (names ++ name ∷ [])
distinct_push names name distinct absent =
    all_pairs_push (λ a b. a ≢ b) names name distinct (λ k d k_in same.
    true≢false (sym ((bytes_eq-Decides name (get_or names k d)).1 (sym same)) ∙ fails_from_position (pointwise nat_eq name) names absent k d k_in))

module _ {X : Type 0} (name_of : X → List ℕ) (xs : List X) (x : X) where
  -- the same for the names of records
  pub distinct_names_push : AllPairs (λ a b. a ≢ b) (map name_of xs) → is_some (position (pointwise nat_eq (name_of x)) (map name_of xs)) ≡ false → AllPairs (λ a b. a ≢ b) (map name_of (xs ++ x ∷ []))
  distinct_names_push distinct absent =
      subst (AllPairs (λ a b. a ≢ b)) (sym (map-append name_of xs (x ∷ []))) (distinct_push (map name_of xs) (name_of x) distinct absent)

-- what the place of a name says: it is there, and without a place it is nowhere
pub position-Contains : (names : List (List ℕ)) (name : List ℕ) (o : Option ℕ) → o ≡ position (pointwise nat_eq name) names → IsNone o ↔ ¬ (Contains names name)
position-Contains names name None e =
    let nowhere : Contains names name → ⊥ = λ found.
    let at : get_or names found.0 name ≡ name = found.2 in
    true≢false (sym ((bytes_eq-Decides name (get_or names found.0 name)).1 (sym at)) ∙ fails_from_position (pointwise nat_eq name) names (ap is_some (sym e)) found.0 name found.1) in
    ((λ none. nowhere), (λ absent. refl))
position-Contains names name (Some i) e =
    let found = position-Some (pointwise nat_eq name) names i name (sym e) in
    let there : Contains names name = (i, found.0, sym ((bytes_eq-Decides name (get_or names i name)).0 found.1)) in
    ((λ none. absurd (true≢false none)), (λ absent. absurd (absent there)))

pub position-slice_get : (names : List (List ℕ)) (name : List ℕ) (o : Option ℕ) → o ≡ position (pointwise nat_eq name) names → IfSome o (λ i. slice_get names i ≡ Some name)
position-slice_get names name None e = tt
position-slice_get names name (Some i) e =
    let found = position-Some (pointwise nat_eq name) names i name (sym e) in
    slice_get-get_or names i name found.0 ∙ ap Some (sym ((bytes_eq-Decides name (get_or names i name)).0 found.1))
