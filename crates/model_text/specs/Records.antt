-- The records: what a line's words give, or the number that refuses them.
use Rattle.std.specs.Prelude.{ℕ, List, Result}
use Rattle.model_types.specs.declared.records.Record.{Record}
use Rattle.model_types.specs.Lists.{Lists}
use Rattle.model_text.specs.Fields.{◌>>=◌}
use Rattle.model_text.specs.Rows.{form_of, record_in}

-- the record of a line's words, or the number that refuses them
abbrev pub record_of_words : Lists → List (List ℕ) → Result Record ℕ
record_of_words m ws = form_of ws >>= λ f. record_in m f ws
