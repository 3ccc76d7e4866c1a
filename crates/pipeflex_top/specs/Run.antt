-- What a run of the program does, by its words and the text that its source has left.
use Rattle.std.specs.Prelude.{◌≡◌, ℕ, ◌≤◌, ◌⊎◌, ⊤, List, [], ◌∷◌, ◌++◌, Option, Some, IfSome, String, string_bytes, map, drop, codes}
use Rattle.std.specs.Fmt.{decimal}
use Rattle.std.specs.Global.{Global}
use Rattle.accepted_text.specs.Accepted.{IsAcceptedAs, IsRefusedBy}
use Rattle.elim_tree.specs.Fronts.{Fronts}
use Rattle.flex_io.specs.declared.Status.{Status}
use Rattle.flex_io.specs.declared.Status.TheVariants.{Done, Uncertified, Refused, Usage, ReadFault, WriteFault, NoMemory}
use Rattle.flex_io.specs.Source.{ConsumesAtMost}
use Rattle.model_gen.specs.Text.{generated}
use Rattle.model_text.specs.Canonical.{canonical}
use Rattle.model_text.specs.Grammar.{Refusal}
use Rattle.model_types.specs.Lists.{Lists}
use Rattle.pipeflex_top.specs.declared.commands.Command.{Command}
use Rattle.pipeflex_top.specs.declared.commands.Command.TheVariants.{Read, Generate, Summary}
use Rattle.pipeflex_top.specs.declared.commands.Reading.{Reading}
use Rattle.pipeflex_top.specs.declared.commands.Reading.TheVariants.{Members, Echo, Analyse}
use Rattle.pipeflex_top.specs.declared.reply.Message.{Message}
use Rattle.pipeflex_top.specs.declared.reply.Message.TheVariants.{Fixed, Built}
use Rattle.pipeflex_top.specs.Analysis.{IsReport}
use Rattle.pipeflex_top.specs.Told.{IsReportText}
use Rattle.pipeflex_top.specs.Enclosure.{PrintsEnclosures}
use Rattle.pipeflex_top.specs.MemberTable.{table_of}
use Rattle.pipeflex_top.specs.Refusal.{refusal_line}
use Rattle.pipeflex_top.specs.Summary.{IsSummary}

-- ---- the words

-- the words are the first ones alone, which ask for 4 workers, or they state behind these how many, from 1 to 64
pub data AskBy (first words : List (List ℕ)) (workers : ℕ) : Type 0 where
  plain : words ≡ first → workers ≡ 4 → AskBy first words workers
  stated : words ≡ first ++ codes "--workers" ∷ decimal workers ∷ [] → 1 ≤ workers → workers ≤ 64 → AskBy first words workers

-- a generated model may have so many loops
pub record AreLoops (loops : ℕ) : Type 0 where
  pub some : 1 ≤ loops
  pub few : loops ≤ 400

-- these words ask for the command
abbrev pub Ask : List (List ℕ) → Command → Type 0
Ask words (Read Members) = words ≡ codes "members" ∷ []
Ask words (Read Echo) = words ≡ codes "echo" ∷ []
Ask words (Read (Analyse workers)) = AskBy (codes "analyse" ∷ []) words workers
Ask words (Generate loops) = (words ≡ codes "generate" ∷ decimal loops ∷ []) × AreLoops loops
Ask words (Summary loops workers) = AskBy (codes "summary" ∷ decimal loops ∷ []) words workers × AreLoops loops

-- what is made by workers has from 1 to 64 of them
abbrev pub HaveWorkers : Reading → Type 0
HaveWorkers (Analyse workers) = (1 ≤ workers) × (workers ≤ 64)
HaveWorkers _ = ⊤

-- the words of the command line ask for the command
abbrev pub Asks : List (String Global) → Command → Type 0
Asks words command = Ask (map string_bytes words) command

-- the words have the form of some command
abbrev pub HasForm : List (String Global) → Type 0
HasForm words = (command : Command) × Asks words command

-- the words ask for a text to be read
abbrev pub AsksToRead : List (String Global) → Type 0
AsksToRead words = (reading : Reading) × Asks words (Read reading)

-- ---- what is written

-- the line that tells the forms of words
abbrev pub usage_line : List ℕ
usage_line =
    codes "usage: pipeflex analyse [--workers N] | members | echo | generate M | summary M [--workers N]" ++ 10 ∷ []

-- the line that tells a read fault
abbrev pub read_fault_line : List ℕ
read_fault_line = codes "read fault" ++ 10 ∷ []

-- the bytes of a message
abbrev pub message_bytes : Message → List ℕ
message_bytes (Fixed bytes) = bytes.now
message_bytes (Built bytes) = bytes.items

-- ---- the answer to a text

-- what is made of a model that is read, and how a run ends that has written it: the member table, the canonical text, or the
-- report, in which each case that the text calls certified has every equilibrium between the numbers that stand there, and each end
-- that a check judges has every stress of these equilibria, and its allowable
abbrev pub IsOutput : Reading → Lists → List ℕ → Status → Type 0
IsOutput Members m output status = (output ≡ table_of m) × PrintsEnclosures m × (status ≡ Done)
IsOutput Echo m output status = (output ≡ canonical m) × (status ≡ Done)
IsOutput (Analyse workers) m output status = IsReport m output status × IsReportText m output

-- the text is accepted with a model, and the output is what is made of it
pub record IsAccepted (reading : Reading) (text output message : List ℕ) (status : Status) : Type 0 where
  pub model : Lists
  pub tree : Fronts
  pub text_is : IsAcceptedAs text model tree
  pub written : IsOutput reading model output status
  pub silent : message ≡ []

-- the text is refused, and the message is the line that tells so
pub record IsRefused (text output message : List ℕ) : Type 0 where
  pub refusal : Refusal
  pub refused : IsRefusedBy text refusal.number refusal.line
  pub empty : output ≡ []
  pub line : message ≡ refusal_line refusal

-- what is to be written for a text, by how the run ends
abbrev pub IsAnswer : Reading → List ℕ → List ℕ → List ℕ → Status → Type 0
IsAnswer reading text output message Done = IsAccepted reading text output message Done
IsAnswer reading text output message Uncertified = IsAccepted reading text output message Uncertified
IsAnswer reading text output message Refused = IsRefused text output message
IsAnswer reading text output message NoMemory = (output ≡ []) × (message ≡ [])
IsAnswer reading text output message _ = ⊥

-- ---- the answer to a number of loops

-- what is made of a number of loops, and how a run ends that has written it: the generated text, or the summary of its report
abbrev pub IsMade : Command → List ℕ → Status → Type 0
IsMade (Read reading) output status = ⊥
IsMade (Generate loops) output status = (output ≡ generated loops) × (status ≡ Done)
IsMade (Summary loops workers) output status = IsSummary loops output status

-- what is to be written for a number of loops, by how the run ends
abbrev pub IsMadeAnswer : Command → List ℕ → List ℕ → Status → Type 0
IsMadeAnswer command output message Done = IsMade command output Done × (message ≡ [])
IsMadeAnswer command output message Uncertified = IsMade command output Uncertified × (message ≡ [])
IsMadeAnswer command output message NoMemory = (output ≡ []) × (message ≡ [])
IsMadeAnswer command output message _ = ⊥

-- ---- the answer to words and a source

-- a told text was read to its end, or to the byte past the limit where that comes first
abbrev pub ReadsText : Option (List ℕ) → Option (List ℕ) → Type 0
ReadsText left after = IfSome left (λ text. after ≡ Some (drop 4194305 text))

-- the answer is what the words ask for, of the model whose text was read
pub record AnswersModel (words : List (String Global)) (left after : Option (List ℕ)) (output message : List ℕ) (status : Status) : Type 0 where
  pub reading : Reading
  pub asked : Asks words (Read reading)
  pub read : ReadsText left after
  pub model : Lists
  pub tree : Fronts
  pub text : IfSome left (λ text. IsAcceptedAs text model tree)
  pub written : IsOutput reading model output status
  pub silent : message ≡ []

-- the answer is what the words ask for, of a generated model, and nothing was read
pub record AnswersMade (words : List (String Global)) (left after : Option (List ℕ)) (output message : List ℕ) (status : Status) : Type 0 where
  pub command : Command
  pub asked : Asks words command
  pub unread : after ≡ left
  pub written : IsMade command output status
  pub silent : message ≡ []

-- the answer is the line that refuses the text that was read
pub record AnswersRefusal (words : List (String Global)) (left after : Option (List ℕ)) (output message : List ℕ) : Type 0 where
  pub asked : AsksToRead words
  pub read : ReadsText left after
  pub refusal : Refusal
  pub text : IfSome left (λ text. IsRefusedBy text refusal.number refusal.line)
  pub empty : output ≡ []
  pub line : message ≡ refusal_line refusal

-- reading or memory gave out, and the answer is this line
pub record AnswersWithoutText (left after : Option (List ℕ)) (output message line : List ℕ) : Type 0 where
  pub part : ConsumesAtMost left after 4194305
  pub empty : output ≡ []
  pub told : message ≡ line

-- what is to be written to `out` and to `err` by a run that ends so: `left` is what the source had left, and `after` what it has
abbrev pub Answers : List (String Global) → Option (List ℕ) → Option (List ℕ) → List ℕ → List ℕ → Status → Type 0
Answers words left after output message Done = AnswersModel words left after output message Done ⊎ AnswersMade words left after output message Done
Answers words left after output message Uncertified = AnswersModel words left after output message Uncertified ⊎ AnswersMade words left after output message Uncertified
Answers words left after output message Refused = AnswersRefusal words left after output message
Answers words left after output message Usage = ¬ (HasForm words) × (output ≡ []) × (message ≡ usage_line)
Answers words left after output message ReadFault = AsksToRead words × AnswersWithoutText left after output message read_fault_line
Answers words left after output message WriteFault = ⊥
Answers words left after output message NoMemory = HasForm words × AnswersWithoutText left after output message []

-- how a run may end that has written the command's output
abbrev pub IsEnding : Command → Status → Type 0
IsEnding (Read Members) status = status ≡ Done
IsEnding (Read Echo) status = status ≡ Done
IsEnding (Read (Analyse workers)) status = (status ≡ Done) ⊎ (status ≡ Uncertified)
IsEnding (Generate loops) status = status ≡ Done
IsEnding (Summary loops workers) status = (status ≡ Done) ⊎ (status ≡ Uncertified)

-- where nothing fails: for a text that is accepted, an ending of what the words ask for; Refused for a text that is refused; or
-- memory ran out
pub record Decides (words : List (String Global)) (status : Status) (text : List ℕ) : Type 0 where
  pub accepted : (reading : Reading) (m : Lists) (t : Fronts) → Asks words (Read reading) → IsAcceptedAs text m t → IsEnding (Read reading) status ⊎ (status ≡ NoMemory)
  pub refused : (reading : Reading) (number line : ℕ) → Asks words (Read reading) → IsRefusedBy text number line → (status ≡ Refused) ⊎ (status ≡ NoMemory)
