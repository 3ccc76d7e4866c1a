-- The model text: the lists that it stands for, or the number and line of its refusal.
use Rattle.std.specs.Prelude.{◌≡◌, ◌≢◌, ◌↔◌, ℕ, ◌+◌, ◌<◌, ◌≤◌, ◌==◌, true, false, nat_lt, List, [], ◌∷◌, ◌++◌, length, Option, Some, None, Result, Ok, Err, if◌then◌else◌}
use Rattle.model_types.specs.Kinds.{Kind, tee_kind, count}
use Rattle.model_types.specs.Lists.{Lists}
use Rattle.model_types.specs.Tees.{broken_tee}
use Rattle.text_words.specs.Fields.{lines}
use Rattle.model_text.specs.declared.reader.TheConstants.{LONGEST_TEXT}
use Rattle.model_text.specs.Lines.{State, start, after_line, making_line}

-- a number that refuses the text, and the line to which it points
pub record Refusal : Type 0 where
  pub number : ℕ
  pub line : ℕ

-- the lines after line n, unless that line is refused
abbrev pub go_on : ℕ → Result State ℕ → (State → Result State Refusal) → Result State Refusal
go_on n (Ok s) next = next s
go_on n (Err number) next = Err (record { number = number; line = n })

-- what has been read after the lines from line n on, or the first refusal
unfoldable pub after_lines : State → ℕ → List (List ℕ) → Result State Refusal
after_lines s n [] = Ok s
after_lines s n (line ∷ rest) = go_on n (after_line s line) (λ t. after_lines t (n + 1) rest)

-- the lists, unless a tee is broken, which is refused at its own line
abbrev pub without_broken : List (List ℕ) → Option ℕ → Lists → Result Lists Refusal
without_broken all None m = Ok m
without_broken all (Some tee) m = Err (record { number = 12; line = making_line tee_kind tee all })

-- what is missing after the last line: the header, or a node; or a tee that is broken
abbrev pub whole : List (List ℕ) → Result State Refusal → Result Lists Refusal
whole all (Err refusal) = Err refusal
whole all (Ok s) =
    if s.header then (if length s.draft.nodes == 0 then Err (record { number = 15; line = 1 }) else without_broken all (broken_tee s.draft) s.draft)
    else Err (record { number = 3; line = 1 })

-- the lists that a text stands for, or its first refusal
unfoldable pub parsed : List ℕ → Result Lists Refusal
parsed text = if nat_lt LONGEST_TEXT (length text) then Err (record { number = 1; line = 1 }) else whole (lines text) (after_lines start 1 (lines text))

-- a line of a text: the lines before it are accepted, and what they made
pub record IsLine (text : List ℕ) (line : ℕ) (at : List ℕ) (read : State) : Type 0 where
  pub before : List (List ℕ)
  pub behind : List (List ℕ)
  pub lines_are : lines text ≡ before ++ at ∷ behind
  pub line_is : line ≡ length before + 1
  pub accepted : after_lines start 1 before ≡ Ok read

-- a line is the first at fault: the lines before it are accepted, and this one is refused by the number against what they made
pub record IsFault (text : List ℕ) (number line : ℕ) : Type 0 where
  pub at : List ℕ
  pub read : State
  pub is_line : IsLine text line at read
  pub fault : after_line read at ≡ Err number

-- all lines of a text are accepted, and made this
pub record AreAccepted (text : List ℕ) (made : State) : Type 0 where
  pub short : length text ≤ LONGEST_TEXT
  pub accepted : after_lines start 1 (lines text) ≡ Ok made

-- why a text is refused by a number at a line: it is too long; or a line is the first at fault; or there is no header, or no node
-- below it, or the elements at the node of some tee don't make it. No text meets two of these
pub data IsRefusedAt (text : List ℕ) : ℕ → ℕ → Type 0 where
  too_long : LONGEST_TEXT < length text → IsRefusedAt text 1 1
  by_line : (number line : ℕ) → length text ≤ LONGEST_TEXT → IsFault text number line → IsRefusedAt text number line
  no_header : (made : State) → AreAccepted text made → made.header ≡ false → IsRefusedAt text 3 1
  no_node : (made : State) → AreAccepted text made → made.header ≡ true → made.draft.nodes ≡ [] → IsRefusedAt text 15 1
  bad_tee : (made : State) (tee : ℕ) → AreAccepted text made → made.header ≡ true → made.draft.nodes ≢ [] → broken_tee made.draft ≡ Some tee → IsRefusedAt text 12 (making_line tee_kind tee (lines text))

-- a text stands for these lists: it is short enough, it has the header, no line is at fault, the lists are what the lines made,
-- there is a node, and no tee is broken
pub record StandsFor (text : List ℕ) (m : Lists) : Type 0 where
  pub accepted : AreAccepted text (record { header = true; draft = m })
  pub some_node : m.nodes ≢ []
  pub tees_made : broken_tee m ≡ None

-- the grammar in these words: which texts are refused, by which number and at which line, and which stand for lists
abbrev pub RefusalsAreReasons : Type 0
RefusalsAreReasons = (text : List ℕ) (number line : ℕ) → (parsed text ≡ Err (record { number = number; line = line })) ↔ IsRefusedAt text number line

abbrev pub ModelsAreAccepted : Type 0
ModelsAreAccepted = (text : List ℕ) (m : Lists) → (parsed text ≡ Ok m) ↔ StandsFor text m

-- the line that makes the record of that number of a kind
pub record IsLineOf (text : List ℕ) (k : Kind) (number line : ℕ) : Type 0 where
  pub at : List ℕ
  pub read : State
  pub read_next : State
  pub is_line : IsLine text line at read
  pub next : after_line read at ≡ Ok read_next
  pub not_before : count read.draft k ≤ number
  pub there : number < count read_next.draft k

-- a record is made by one line
abbrev pub LinesAreDetermined : Type 0
LinesAreDetermined = (text : List ℕ) (k : Kind) (number line other : ℕ) → IsLineOf text k number line → IsLineOf text k number other → line ≡ other

-- the line that the grammar tells makes the record
abbrev pub LinesAreTold : Type 0
LinesAreTold = (text : List ℕ) (made : State) (k : Kind) (number : ℕ) → AreAccepted text made → number < count made.draft k → IsLineOf text k number (making_line k number (lines text))
