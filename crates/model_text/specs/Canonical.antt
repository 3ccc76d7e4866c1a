-- The canonical text of a model.
use Rattle.std.specs.Prelude.{ℕ, List, [], ◌∷◌, ◌++◌, map, flat_map, codes}
use Rattle.model_types.specs.declared.records.Record.{Record}
use Rattle.model_types.specs.Kinds.{Kind, kinds, list, as_record}
use Rattle.model_types.specs.Lists.{Lists}
use Rattle.text_words.specs.Fields.{line}
use Rattle.model_text.specs.Rows.{words_of}

-- the lines of these words
abbrev pub lines_of : List (List (List ℕ)) → List ℕ
lines_of all = flat_map line all

-- the lines of records of a kind
abbrev pub record_lines : {X : Type 0} → Lists → (X → Record) → List X → List ℕ
record_lines m to_record xs = lines_of (map (λ x. words_of m (to_record x)) xs)

abbrev pub kind_lines : Lists → Kind → List ℕ
kind_lines m k = record_lines m (as_record k) (list m k)

-- the header, then the records by kind, each kind in text order
unfoldable pub canonical : Lists → List ℕ
canonical m = line (codes "pipeflex" ∷ codes "1" ∷ []) ++ flat_map (kind_lines m) kinds
