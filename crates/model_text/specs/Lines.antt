-- What a line of the text makes of the lines before it.
use Rattle.std.specs.Prelude.{ℕ, ◌+◌, [], ◌∷◌, ◌==◌, ◌&&◌, Bool, true, false, List, length, Option, Some, None, Result, Ok, Err, if◌then◌else◌, codes}
use Rattle.std.specs.List.{list_all, slice_index_or}
use Rattle.std.specs.Str.{bytes_eq}
use Rattle.model_types.specs.declared.records.Record.{Record}
use Rattle.model_types.specs.declared.faults.AddFault.{AddFault}
use Rattle.model_types.specs.declared.faults.AddFault.TheVariants as line_fault
use Rattle.model_types.specs.Kinds.{Kind, place}
use Rattle.model_types.specs.Lists.{Lists, no_records, added}
use Rattle.model_types.specs.Refusals.{refusal}
use Rattle.model_text.specs.Fields.{◌>>=◌}
use Rattle.model_text.specs.Records.{record_of_words}
use Rattle.model_text.specs.Rows.{form_of, kind_made}
use Rattle.model_text.specs.declared.records.Form.{Form}
use Rattle.model_text.specs.Words.{words, word, is_allowed}
use Rattle.model_text.specs.declared.reader.TextFault.{TextFault}
use Rattle.model_text.specs.declared.reader.TextFault.TheVariants as text_fault

-- what has been read of a text: whether the header, and which records
pub record State : Type 0 where
  pub header : Bool
  pub draft : Lists

-- nothing has been read
abbrev pub start : State
start = record { header = false; draft = no_records }

-- the lists with a record, or the number that refuses it
abbrev pub judged : Record → Option ℕ → Lists → Result Lists ℕ
judged r (Some number) m = Err number
judged r None m = Ok (added m r)

abbrev pub taken : Lists → Record → Result Lists ℕ
taken m r = judged r (refusal m r) m

-- the header: `pipeflex 1`
abbrev pub is_header : List (List ℕ) → Bool
is_header ws = length ws == 2 && bytes_eq (word ws 0) (codes "pipeflex") && bytes_eq (word ws 1) (codes "1")

-- the lists with the record of these words, or the number that refuses it
abbrev pub record_taken : Lists → List (List ℕ) → Result Lists ℕ
record_taken m ws = record_of_words m ws >>= taken m

-- a line of these words: nothing, the header, or a record below it
abbrev pub after_words : State → List (List ℕ) → Result State ℕ
after_words s ws =
    if length ws == 0 then Ok s else
    if s.header then (record_taken s.draft ws >>= λ m. Ok (record s { draft = m })) else
    if is_header ws then Ok (record s { header = true }) else
    Err 3

-- what has been read after a line, or the number that refuses the line
abbrev pub after_line : State → List ℕ → Result State ℕ
after_line s line = if list_all is_allowed line then after_words s (words line) else Err 2

-- whether a line of these words makes a record of a kind
abbrev pub is_of_kind : Kind → Result Form ℕ → Bool
is_of_kind k (Err n) = false
is_of_kind k (Ok f) = place (kind_made f) == place k

abbrev pub makes : Kind → List (List ℕ) → Bool
makes k ws = is_of_kind k (form_of ws)

-- the numbers, from n on, of the lines that make records of a kind
abbrev pub making : Kind → ℕ → List (List ℕ) → List ℕ
making k n [] = []
making k n (line ∷ rest) = if makes k (words line) then n ∷ making k (n + 1) rest else making k (n + 1) rest

-- the line of the record of that number of a kind
abbrev pub making_line : Kind → ℕ → List (List ℕ) → ℕ
making_line k number all = slice_index_or (making k 1 all) number 1

-- a line's fault, as the text's
abbrev pub at_line : AddFault → ℕ → TextFault
at_line (line_fault.Refused number) line = text_fault.Refused number line
at_line line_fault.NoMemory line = text_fault.NoMemory
