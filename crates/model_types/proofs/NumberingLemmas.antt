-- Lemmas on the look-up of a table.
use Rattle.std.proofs.Common.{◌≡◌, ℕ, Bool, not, true, false, cond, List, [], ◌∷◌, ◌++◌, length, Some, None, position, nat_eq, refl, map, sym, ap, subst, true≢false, ◌∙◌, arith}
use Rattle.std.proofs.lemmas.List.{map-append, length-map}
use Rattle.std.proofs.lemmas.List.Folds.{position_or_len_push}
use Rattle.std.proofs.lemmas.Grind.{common_steps}
use Rattle.std.proofs.lemmas.List.Sums.{prefix_len-le-length}
use Rattle.std.proofs.lemmas.Map.Text.{is_eq-slice_cmp}
use Rattle.std.proofs.lemmas.Slice.Eq.{bytes_eq-Decides}
use Rattle.std.specs.Cmp.Lexicographic.{pointwise, slice_cmp}
use Rattle.std.specs.Ordering.{nat_cmp}
use Rattle.std.specs.BTreeMap.{BTreeMap, get, Updates}
use Rattle.std.specs.Str.{bytes_eq}
use Rattle.model_types.specs.Numbering.{IsNumbering}

module _ {X : Type 0} (p : X → Bool) (xs : List X) (y : X) where
  -- a last element that fails changes no place
  pub position-push_fails : p y ≡ false → position p (xs ++ y ∷ []) ≡ position p xs
  position-push_fails fails = grind (arith, common_steps, position_or_len_push)

  -- and one that passes has the last place where no earlier one passes
  pub position-push_passes : p y ≡ true → position p xs ≡ None → position p (xs ++ y ∷ []) ≡ Some (length xs)
  position-push_passes passes none = grind (arith, common_steps, position_or_len_push, prefix_len-le-length (λ x. not (p x)) xs)

-- names that differ one way differ the other way
bytes_eq-false_comm : (a b : List ℕ) → bytes_eq a b ≡ false → bytes_eq b a ≡ false
bytes_eq-false_comm a b apart = by (bytes_eq b a) refl
  where
    by : (r : Bool) → bytes_eq b a ≡ r → bytes_eq b a ≡ false
    by true e = absurd (true≢false (sym ((bytes_eq-Decides a b).1 (sym ((bytes_eq-Decides b a).0 e))) ∙ apart))
    by false e = e

-- the name of a new last record is added with its number
pub IsNumbering-push : (old new : BTreeMap (List ℕ) ℕ) (names : List (List ℕ)) (name : List ℕ) → Updates (slice_cmp nat_cmp) old new name (Some (length names))
    → position (pointwise nat_eq name) names ≡ None → IsNumbering old names → IsNumbering new (names ++ name ∷ [])
IsNumbering-push old new names name updates absent numbering other = by (bytes_eq name other) refl
  where
    by : (b : Bool) → bytes_eq name other ≡ b → get (slice_cmp nat_cmp) new other ≡ position (pointwise nat_eq other) (names ++ name ∷ [])
    by true e =
        let same : name ≡ other = (bytes_eq-Decides name other).0 e in
        let found : get (slice_cmp nat_cmp) new other ≡ Some (length names) = updates.0 other ∙ ap (λ b. cond b (Some (length names)) (get (slice_cmp nat_cmp) old other)) (is_eq-slice_cmp name other ∙ e) in
        found ∙ sym (position-push_passes (pointwise nat_eq other) names name ((bytes_eq-Decides other name).1 (sym same)) (ap (λ n. position (pointwise nat_eq n) names) (sym same) ∙ absent))
    by false e =
        let kept : get (slice_cmp nat_cmp) new other ≡ get (slice_cmp nat_cmp) old other = updates.0 other ∙ ap (λ b. cond b (Some (length names)) (get (slice_cmp nat_cmp) old other)) (is_eq-slice_cmp name other ∙ e) in
        kept ∙ numbering other ∙ sym (position-push_fails (pointwise nat_eq other) names name (bytes_eq-false_comm name other e))

-- the same for the names of records
pub IsNumbering-records : {X : Type 0} (name_of : X → List ℕ) (before after : BTreeMap (List ℕ) ℕ) (old all : List X) (x : X) → all ≡ old ++ x ∷ []
    → position (pointwise nat_eq (name_of x)) (map name_of old) ≡ None → Updates (slice_cmp nat_cmp) before after (name_of x) (Some (length old))
    → IsNumbering before (map name_of old) → IsNumbering after (map name_of all)
IsNumbering-records name_of before after old all x is absent updates numbering =
    subst (IsNumbering after) (sym (ap (map name_of) is ∙ map-append name_of old (x ∷ [])))
    (IsNumbering-push before after (map name_of old) (name_of x)
    (subst (λ n. Updates (slice_cmp nat_cmp) before after (name_of x) (Some n)) (sym (length-map old name_of)) updates) absent numbering)
