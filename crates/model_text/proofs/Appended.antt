-- What is written grows by the line of one more record.
use Rattle.std.proofs.Common.{◌≡◌, ℕ, ◌+◌, ◌<◌, List, [], ◌∷◌, ◌++◌, map, take, length, get_or, sym, ap, ◌∙◌, append_assoc, append-nil}
use Rattle.std.proofs.lemmas.List.{take_more, map-append}
use Rattle.std.proofs.lemmas.List.Concat.{flat_map-append}
use Rattle.text_words.specs.Fields.{line}
use Rattle.model_types.specs.declared.records.Record.{Record}
use Rattle.model_types.specs.Lists.{Lists}
use Rattle.model_text.specs.Canonical.{lines_of, record_lines}

module _ {X : Type 0} (words_of : X → List (List ℕ)) (xs : List X) (k : ℕ) (inside : k < length xs) (x d : X) (is : x ≡ get_or xs k d) where
  lines_of-more : lines_of (map words_of (take (k + 1) xs)) ≡ lines_of (map words_of (take k xs)) ++ line (words_of x)
  lines_of-more =
      ap (λ l. lines_of (map words_of l)) (take_more xs k d inside)
      ∙ ap lines_of (map-append words_of (take k xs) (get_or xs k d ∷ []))
      ∙ flat_map-append line (map words_of (take k xs)) (words_of (get_or xs k d) ∷ [])
      ∙ ap (λ l. lines_of (map words_of (take k xs)) ++ l) (append-nil (line (words_of (get_or xs k d))))
      ∙ ap (λ y. lines_of (map words_of (take k xs)) ++ line (words_of y)) (sym is)

  pub append_record : (old out new : List ℕ) → out ≡ old ++ lines_of (map words_of (take k xs)) → new ≡ out ++ line (words_of x) → new ≡ old ++ lines_of (map words_of (take (k + 1) xs))
  append_record old out new before grown =
      grown ∙ ap (λ l. l ++ line (words_of x)) before ∙ append_assoc old (lines_of (map words_of (take k xs))) (line (words_of x)) ∙ ap (λ l. old ++ l) (sym lines_of-more)

-- and by the lines of a kind
pub append_kind : {X : Type 0} (m : Lists) (as_record : X → Record) (xs : List X) {ys : List X} {old out new : List ℕ} → ys ≡ xs → out ≡ old → new ≡ out ++ record_lines m as_record ys → new ≡ old ++ record_lines m as_record xs
append_kind m as_record xs {ys} {old} same before grown = grown ∙ ap (λ l. l ++ record_lines m as_record ys) before ∙ ap (λ zs. old ++ record_lines m as_record zs) same
