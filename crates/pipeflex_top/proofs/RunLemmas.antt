-- What a text is, of which only the bytes up to the one past the limit were read.
use Rattle.std.proofs.Common.{◌≡◌, ◌≢◌, ℕ, ◌<◌, ◌≤◌, codes, List, [], ◌∷◌, ◌++◌, Option, None, Some, IfSome, IfOk, Result, Ok, Err, ◌⊎◌, String, Global, arith, refl, sym, ap, subst, ◌∙◌, inl, inr, length, get_or, take, drop, take-append-drop, length-take, take_all, lt-ltb}
use Rattle.std.proofs.lemmas.Bool.{cases_lt}
use Rattle.std.proofs.lemmas.List.{append_cancel_left}
use Rattle.std.proofs.lemmas.Fmt.{decimal_injective}
use Rattle.std.specs.Fmt.{decimal}
use Rattle.std.specs.Prelude.{slice_index, ⊤}
use Rattle.std.specs.Io.KnownBytes.{Consumes}
use Rattle.std.proofs.KnownBytes.{Consumes-nil}
use Rattle.accepted_text.specs.Accepted.{IsAcceptedAs, IsRefusedBy, by_grammar, too_broad, too_many, NeverAcceptedAndRefused}
use Rattle.elim_tree.specs.Fronts.{Fronts}
use Rattle.flex_io.specs.declared.outcome.Status.{Status}
use Rattle.flex_io.specs.declared.outcome.Status.TheVariants.{Done, Uncertified, Refused, Usage, ReadFault, WriteFault, NoMemory}
use Rattle.model_text.specs.Grammar.{Refusal, parsed}
use Rattle.pipeflex_top.specs.declared.requests.TheConstants.{LIMIT}
use Rattle.model_types.specs.declared.answers.CaseAnswer.{CaseAnswer}
use Rattle.model_types.specs.Lists.{Lists}
use Rattle.pipeflex_top.specs.declared.commands.Command.{Command}
use Rattle.pipeflex_top.specs.declared.commands.Command.TheVariants.{Read, Generate, Summary}
use Rattle.pipeflex_top.specs.declared.commands.Reading.{Reading}
use Rattle.pipeflex_top.specs.declared.commands.Reading.TheVariants.{Members, Echo, Analyse}
use Rattle.pipeflex_top.specs.Analysis.{EndsWith, analysis_of}
use Rattle.pipeflex_top.specs.Run.{Answers, AnswersModel, AreLoops, Ask, AskBy, plain, stated, Asks, AsksToRead, Decides, HasForm, IsAccepted, IsAnswer, IsMade, IsMadeAnswer, IsOutput, ReadsText, IsEnding, HaveWorkers}

-- the bytes that were taken are the text up to the byte past the limit, so what is left follows them
pub ReadsText-taken : (left after : Option (List ℕ)) (bytes : List ℕ) → Consumes left after bytes → IfSome left (λ text. bytes ≡ take 4194305 text) → ReadsText left after
ReadsText-taken None after bytes taken whole = tt
ReadsText-taken (Some text) None bytes taken whole = absurd taken
ReadsText-taken (Some text) (Some rest) bytes taken whole =
    ap Some (append_cancel_left (take 4194305 text) rest (drop 4194305 text) (ap (λ front. front ++ rest) (sym whole) ∙ sym taken ∙ sym (take-append-drop 4194305 text)))

-- a text over the limit is refused
parsed_long : (text : List ℕ) → LIMIT < length text → parsed text ≡ Err (record { number = 1; line = 1 })
unfolding parsed
parsed_long text long = rw (lt-ltb LIMIT (length text) long) refl

-- a text is judged as its bytes up to the one past the limit are
parsed-taken : (text : List ℕ) → parsed (take 4194305 text) ≡ parsed text
parsed-taken text = elim (cases_lt LIMIT (length text)) [
  | inl long ↦ parsed_long (take 4194305 text) (omega (arith, length-take 4194305 text)) ∙ sym (parsed_long text long)
  | inr short ↦ ap parsed (take_all 4194305 text (omega arith))
]

-- the bytes that were taken are the text, or refused as it is
taken_cases : (text : List ℕ) → (take 4194305 text ≡ text) ⊎ (parsed (take 4194305 text) ≡ Err (record { number = 1; line = 1 }))
taken_cases text = elim (cases_lt LIMIT (length text)) [
  | inl long ↦ inr (parsed_long (take 4194305 text) (omega (arith, length-take 4194305 text)))
  | inr short ↦ inl (take_all 4194305 text (omega arith))
]

-- a text is accepted as its bytes up to the one past the limit are
accepted_as : (text : List ℕ) (m : Lists) (t : Fronts) → IsAcceptedAs (take 4194305 text) m t → IsAcceptedAs text m t
accepted_as text m t accepted = record { text_is = sym (parsed-taken text) ∙ accepted.text_is; tree = accepted.tree }

pub accepted_whole : (left : Option (List ℕ)) (bytes : List ℕ) (m : Lists) (t : Fronts) → IfSome left (λ text. bytes ≡ take 4194305 text) → IsAcceptedAs bytes m t → IfSome left (λ text. IsAcceptedAs text m t)
accepted_whole None bytes m t whole accepted = tt
accepted_whole (Some text) bytes m t whole accepted = accepted_as text m t (subst (λ bs. IsAcceptedAs bs m t) whole accepted)

-- what is refused as too long is that of no model
long_no_model : (bytes : List ℕ) (m : Lists) (refusal : Refusal) → parsed bytes ≡ Err refusal → parsed bytes ≡ Ok m → ⊥
long_no_model bytes m refusal err ok = cc (err, ok)

-- and it is refused as they are
refused_long : (text bytes : List ℕ) (number line : ℕ) (refusal : Refusal) → parsed text ≡ parsed bytes → parsed bytes ≡ Err refusal → IsRefusedBy bytes number line → IsRefusedBy text number line
refused_long text bytes _ _ refusal same long (by_grammar number line e) = by_grammar number line (same ∙ e)
refused_long text bytes _ _ refusal same long (too_broad m node line ok broad here) = absurd (long_no_model bytes m refusal long ok)
refused_long text bytes _ _ refusal same long (too_many m order ok is many) = absurd (long_no_model bytes m refusal long ok)

refused_as : (text : List ℕ) (number line : ℕ) → IsRefusedBy (take 4194305 text) number line → IsRefusedBy text number line
refused_as text number line refused = elim (taken_cases text) [
  | inl same ↦ subst (λ bs. IsRefusedBy bs number line) same refused
  | inr long ↦ refused_long text (take 4194305 text) number line _ (sym (parsed-taken text)) long refused
]

refused_whole : (left : Option (List ℕ)) (bytes : List ℕ) (number line : ℕ) → IfSome left (λ text. bytes ≡ take 4194305 text) → IsRefusedBy bytes number line → IfSome left (λ text. IsRefusedBy text number line)
refused_whole None bytes number line whole refused = tt
refused_whole (Some text) bytes number line whole refused = refused_as text number line (subst (λ bs. IsRefusedBy bs number line) whole refused)

-- the answer to the bytes that were taken is the answer to the words and the source
pub Answers-taken : (words : List (String Global)) (reading : Reading) (left after : Option (List ℕ)) (bytes output message : List ℕ) (status : Status)
    → Asks words (Read reading) → Consumes left after bytes → IfSome left (λ text. bytes ≡ take 4194305 text) → length bytes ≤ 4194305
    → IsAnswer reading bytes output message status → Answers words left after output message status
Answers-taken words reading left after bytes output message status asked taken whole short answer = by_status status answer
  where
    model : (status : Status) → IsAccepted reading bytes output message status → AnswersModel words left after output message status
    model status answer = record {
      reading = reading;
      asked = asked;
      read = ReadsText-taken left after bytes taken whole;
      model = answer.model;
      tree = answer.tree;
      text = accepted_whole left bytes answer.model answer.tree whole answer.text_is;
      written = answer.written;
      silent = answer.silent;
    }

    by_status : (status : Status) → IsAnswer reading bytes output message status → Answers words left after output message status
    by_status Done answer = inl (model Done answer)
    by_status Uncertified answer = inl (model Uncertified answer)
    by_status Refused answer = record {
      asked = (reading, asked);
      read = ReadsText-taken left after bytes taken whole;
      refusal = answer.refusal;
      text = refused_whole left bytes answer.refusal.number answer.refusal.line whole answer.refused;
      empty = answer.empty;
      line = answer.line;
    }
    by_status Usage answer = absurd answer
    by_status ReadFault answer = absurd answer
    by_status WriteFault answer = absurd answer
    by_status NoMemory answer = ((Read reading, asked), record { part = (bytes, taken, short); empty = answer.0; told = answer.1 })

-- the answer to a number of loops is the answer to the words that ask for it, where nothing was read
pub Answers-made : (words : List (String Global)) (command : Command) (left : Option (List ℕ)) (output message : List ℕ) (status : Status)
    → Asks words command → IsMadeAnswer command output message status → Answers words left left output message status
Answers-made words command left output message Done asked answer = inr (record { command = command; asked = asked; unread = refl; written = answer.0; silent = answer.1 })
Answers-made words command left output message Uncertified asked answer = inr (record { command = command; asked = asked; unread = refl; written = answer.0; silent = answer.1 })
Answers-made words command left output message Refused asked answer = absurd answer
Answers-made words command left output message Usage asked answer = absurd answer
Answers-made words command left output message ReadFault asked answer = absurd answer
Answers-made words command left output message WriteFault asked answer = absurd answer
Answers-made words command left output message NoMemory asked answer = ((command, asked), record { part = ([], Consumes-nil left, omega arith); empty = answer.0; told = answer.1 })

-- ---- how a run ends

-- answers end a run as done or as uncertified
answers_end : (answers : List CaseAnswer) (status : Status) → EndsWith answers status → (status ≡ Done) ⊎ (status ≡ Uncertified)
answers_end answers Done ends = inl refl
answers_end answers Uncertified ends = inr refl
answers_end answers Refused ends = absurd ends
answers_end answers Usage ends = absurd ends
answers_end answers ReadFault ends = absurd ends
answers_end answers WriteFault ends = absurd ends
answers_end answers NoMemory ends = absurd ends

-- an output ends a run so
output_ends : (reading : Reading) (m : Lists) (output : List ℕ) (status : Status) → IsOutput reading m output status → IsEnding (Read reading) status
output_ends Members m output status written = written.2
output_ends Echo m output status written = written.1
output_ends (Analyse workers) m output status written = answers_end (analysis_of m written.0.tree) status written.0.ends

made_ends : (command : Command) (output : List ℕ) (status : Status) → IsMade command output status → IsEnding command status
made_ends (Read reading) output status made = absurd made
made_ends (Generate loops) output status made = made.1
made_ends (Summary loops workers) output status made = answers_end (analysis_of made.report.model made.report.tree) status made.ends

-- ---- the words ask for one command

-- the letter with which the words of a command begin
abbrev letter_of : Command → ℕ
letter_of (Read Members) = 109
letter_of (Read Echo) = 101
letter_of (Read (Analyse workers)) = 97
letter_of (Generate loops) = 103
letter_of (Summary loops workers) = 115

abbrev letter : List (List ℕ) → ℕ
letter words = slice_index (get_or words 0 []) 0

-- words that are by workers begin as the first of them do
by_letter : (word : List ℕ) (more words : List (List ℕ)) (workers : ℕ) → AskBy (word ∷ more) words workers → letter words ≡ slice_index word 0
by_letter word more words workers (plain same four) = ap letter same
by_letter word more words workers (stated same least most) = ap letter same

begins : (words : List (List ℕ)) (command : Command) → Ask words command → letter words ≡ letter_of command
begins words (Read Members) asked = ap letter asked
begins words (Read Echo) asked = ap letter asked
begins words (Read (Analyse workers)) asked = by_letter (codes "analyse") [] words workers asked
begins words (Generate loops) asked = ap letter asked.0
begins words (Summary loops workers) asked = by_letter (codes "summary") (decimal loops ∷ []) words workers asked.0

-- the workers that words ask for are from 1 to 64
pub by_workers : (first words : List (List ℕ)) (workers : ℕ) → AskBy first words workers → (1 ≤ workers) × (workers ≤ 64)
by_workers first words workers (plain same four) = (omega (arith, four), omega (arith, four))
by_workers first words workers (stated same least most) = (least, most)

pub have_workers : (words : List (List ℕ)) (reading : Reading) → Ask words (Read reading) → HaveWorkers reading
have_workers words Members asked = tt
have_workers words Echo asked = tt
have_workers words (Analyse workers) asked = by_workers (codes "analyse" ∷ []) words workers asked

-- the numbers of workers that the words ask for are the same
one_count : (words : List (List ℕ)) (first second : ℕ) → AskBy (codes "analyse" ∷ []) words first → AskBy (codes "analyse" ∷ []) words second → first ≡ second
one_count words first second (plain a four) (plain b also) = four ∙ sym also
one_count words first second (plain a four) (stated b least most) = absurd (cc (a, b))
one_count words first second (stated a least most) (plain b four) = absurd (cc (a, b))
one_count words first second (stated a least most) (stated b low high) =
    let same : decimal first ≡ decimal second = cc (a, b) in
    decimal_injective first second (omega (arith, most)) (omega (arith, high)) same

one_loops : (first second : ℕ) → AreLoops first → AreLoops second → decimal first ≡ decimal second → first ≡ second
one_loops first second a b same = decimal_injective first second (omega (arith, a.few)) (omega (arith, b.few)) same

one_summary : (words : List (List ℕ)) (loops others first second : ℕ) → AreLoops loops → AreLoops others
    → AskBy (codes "summary" ∷ decimal loops ∷ []) words first → AskBy (codes "summary" ∷ decimal others ∷ []) words second → (loops ≡ others) × (first ≡ second)
one_summary words loops others first second few also (plain a four) (plain b too) =
    let same : decimal loops ≡ decimal others = cc (a, b) in (one_loops loops others few also same, four ∙ sym too)
one_summary words loops others first second few also (plain a four) (stated b least most) = absurd (cc (a, b))
one_summary words loops others first second few also (stated a least most) (plain b four) = absurd (cc (a, b))
one_summary words loops others first second few also (stated a least most) (stated b low high) =
    let same : decimal loops ≡ decimal others = cc (a, b) in
    let count : decimal first ≡ decimal second = cc (a, b) in
    (one_loops loops others few also same, decimal_injective first second (omega (arith, most)) (omega (arith, high)) count)

-- commands whose words begin with two letters are not asked for at once
module _ (words : List (List ℕ)) where
  two_letters : (first second : Command) → Ask words first → Ask words second → letter_of first ≢ letter_of second → ⊥
  two_letters first second a b differ = differ (sym (begins words first a) ∙ begins words second b)

  pub one_command : (first second : Command) → Ask words first → Ask words second → first ≡ second
  one_command (Read Members) (Read Members) a b = refl
  one_command (Read Echo) (Read Echo) a b = refl
  one_command (Read (Analyse n)) (Read (Analyse k)) a b = ap (λ w. Read (Analyse w)) (one_count words n k a b)
  one_command (Generate n) (Generate k) a b =
      let same : decimal n ≡ decimal k = cc (a.0, b.0) in ap Generate (one_loops n k a.1 b.1 same)
  one_command (Summary n v) (Summary k w) a b =
      let same = one_summary words n k v w a.1 b.1 a.0 b.0 in ap (λ l. Summary l v) same.0 ∙ ap (Summary k) same.1
  one_command (Read Members) (Read Echo) a b = absurd (two_letters (Read Members) (Read Echo) a b (λ same. omega (arith, same)))
  one_command (Read Members) (Read (Analyse k)) a b = absurd (two_letters (Read Members) (Read (Analyse k)) a b (λ same. omega (arith, same)))
  one_command (Read Members) (Generate k) a b = absurd (two_letters (Read Members) (Generate k) a b (λ same. omega (arith, same)))
  one_command (Read Members) (Summary k w) a b = absurd (two_letters (Read Members) (Summary k w) a b (λ same. omega (arith, same)))
  one_command (Read Echo) (Read Members) a b = absurd (two_letters (Read Echo) (Read Members) a b (λ same. omega (arith, same)))
  one_command (Read Echo) (Read (Analyse k)) a b = absurd (two_letters (Read Echo) (Read (Analyse k)) a b (λ same. omega (arith, same)))
  one_command (Read Echo) (Generate k) a b = absurd (two_letters (Read Echo) (Generate k) a b (λ same. omega (arith, same)))
  one_command (Read Echo) (Summary k w) a b = absurd (two_letters (Read Echo) (Summary k w) a b (λ same. omega (arith, same)))
  one_command (Read (Analyse n)) (Read Members) a b = absurd (two_letters (Read (Analyse n)) (Read Members) a b (λ same. omega (arith, same)))
  one_command (Read (Analyse n)) (Read Echo) a b = absurd (two_letters (Read (Analyse n)) (Read Echo) a b (λ same. omega (arith, same)))
  one_command (Read (Analyse n)) (Generate k) a b = absurd (two_letters (Read (Analyse n)) (Generate k) a b (λ same. omega (arith, same)))
  one_command (Read (Analyse n)) (Summary k w) a b = absurd (two_letters (Read (Analyse n)) (Summary k w) a b (λ same. omega (arith, same)))
  one_command (Generate n) (Read Members) a b = absurd (two_letters (Generate n) (Read Members) a b (λ same. omega (arith, same)))
  one_command (Generate n) (Read Echo) a b = absurd (two_letters (Generate n) (Read Echo) a b (λ same. omega (arith, same)))
  one_command (Generate n) (Read (Analyse k)) a b = absurd (two_letters (Generate n) (Read (Analyse k)) a b (λ same. omega (arith, same)))
  one_command (Generate n) (Summary k w) a b = absurd (two_letters (Generate n) (Summary k w) a b (λ same. omega (arith, same)))
  one_command (Summary n v) (Read Members) a b = absurd (two_letters (Summary n v) (Read Members) a b (λ same. omega (arith, same)))
  one_command (Summary n v) (Read Echo) a b = absurd (two_letters (Summary n v) (Read Echo) a b (λ same. omega (arith, same)))
  one_command (Summary n v) (Read (Analyse k)) a b = absurd (two_letters (Summary n v) (Read (Analyse k)) a b (λ same. omega (arith, same)))
  one_command (Summary n v) (Generate k) a b = absurd (two_letters (Summary n v) (Generate k) a b (λ same. omega (arith, same)))

-- what is made of a number of loops is not asked for by words that ask for a text
made_unread : (words : List (List ℕ)) (command : Command) (reading : Reading) (output : List ℕ) (status : Status) → Ask words command → IsMade command output status → Ask words (Read reading) → ⊥
made_unread words command reading output status asked made reads = subst (λ c. IsMade c output status) (one_command words command (Read reading) asked reads) made

-- ---- the words and the text decide

-- an output is written for a text that is accepted, and for no other
module _ (never : NeverAcceptedAndRefused) where
  Decides-output : (words : List (String Global)) (reading : Reading) (m : Lists) (t : Fronts) (text output : List ℕ) (status : Status)
      → Asks words (Read reading) → IsAcceptedAs text m t → IsOutput reading m output status → Decides words status text
  Decides-output words reading m t text output status asked accepted written = record {
    accepted = λ other n u asks is. inl (subst (λ c. IsEnding c status) (one_command _ (Read reading) (Read other) asked asks) (output_ends reading m output status written));
    refused = λ other number line asks refused. absurd (never text m t number line accepted refused);
  }

  Decides-made : (words : List (String Global)) (command : Command) (text output : List ℕ) (status : Status) → Asks words command → IsMade command output status → Decides words status text
  Decides-made words command text output status asked made = record {
    accepted = λ other n u asks is. absurd (made_unread _ command other output status asked made asks);
    refused = λ other number line asks refused. absurd (made_unread _ command other output status asked made asks);
  }

  -- where the words have a form and no fault comes, the words and the text decide
  pub Decides-answer : (words : List (String Global)) (left after : Option (List ℕ)) (output message : List ℕ) (status : Status)
      → Answers words left after output message status → HasForm words → status ≢ ReadFault → IfSome left (Decides words status)
  Decides-answer words None after output message status answers form sound = tt
  Decides-answer words (Some text) after output message Done (inl of_text) form sound = Decides-output words of_text.reading of_text.model of_text.tree text output Done of_text.asked of_text.text of_text.written
  Decides-answer words (Some text) after output message Done (inr made) form sound = Decides-made words made.command text output Done made.asked made.written
  Decides-answer words (Some text) after output message Uncertified (inl of_text) form sound = Decides-output words of_text.reading of_text.model of_text.tree text output Uncertified of_text.asked of_text.text of_text.written
  Decides-answer words (Some text) after output message Uncertified (inr made) form sound = Decides-made words made.command text output Uncertified made.asked made.written
  Decides-answer words (Some text) after output message Refused answers form sound = record {
    accepted = λ reading m t asks accepted. absurd (never text m t answers.refusal.number answers.refusal.line accepted answers.text);
    refused = λ reading number line asks refused. inl refl;
  }
  Decides-answer words (Some text) after output message Usage answers form sound = absurd (answers.0 form)
  Decides-answer words (Some text) after output message ReadFault answers form sound = absurd (sound refl)
  Decides-answer words (Some text) after output message WriteFault answers form sound = absurd answers
  Decides-answer words (Some text) after output message NoMemory answers form sound = record {
    accepted = λ reading m t asks accepted. inr refl;
    refused = λ reading number line asks refused. inr refl;
  }

-- the answer to words of no form is their usage
pub usage-answer : (words : List (String Global)) (left after : Option (List ℕ)) (output message : List ℕ) (status : Status)
    → Answers words left after output message status → ¬ HasForm words → status ≡ Usage
usage-answer words left after output message Done (inl of_text) wrong = absurd (wrong (Read of_text.reading, of_text.asked))
usage-answer words left after output message Done (inr made) wrong = absurd (wrong (made.command, made.asked))
usage-answer words left after output message Uncertified (inl of_text) wrong = absurd (wrong (Read of_text.reading, of_text.asked))
usage-answer words left after output message Uncertified (inr made) wrong = absurd (wrong (made.command, made.asked))
usage-answer words left after output message Refused answers wrong = absurd (wrong (Read answers.asked.0, answers.asked.1))
usage-answer words left after output message Usage answers wrong = refl
usage-answer words left after output message ReadFault answers wrong = absurd (wrong (Read answers.0.0, answers.0.1))
usage-answer words left after output message WriteFault answers wrong = absurd answers
usage-answer words left after output message NoMemory answers wrong = absurd (wrong answers.0)

-- the answer to words that ask for no text ends as the command may
pub made-answer : (words : List (String Global)) (left after : Option (List ℕ)) (output message : List ℕ) (status : Status) (command : Command)
    → Answers words left after output message status → Asks words command → ¬ AsksToRead words → IsEnding command status ⊎ (status ≡ NoMemory)
made-answer words left after output message Done command (inl of_text) asks none = absurd (none (of_text.reading, of_text.asked))
made-answer words left after output message Done command (inr made) asks none = inl (subst (λ c. IsEnding c Done) (one_command _ made.command command made.asked asks) (made_ends made.command output Done made.written))
made-answer words left after output message Uncertified command (inl of_text) asks none = absurd (none (of_text.reading, of_text.asked))
made-answer words left after output message Uncertified command (inr made) asks none = inl (subst (λ c. IsEnding c Uncertified) (one_command _ made.command command made.asked asks) (made_ends made.command output Uncertified made.written))
made-answer words left after output message Refused command answers asks none = absurd (none answers.asked)
made-answer words left after output message Usage command answers asks none = absurd (answers.0 (command, asks))
made-answer words left after output message ReadFault command answers asks none = absurd (none answers.0)
made-answer words left after output message WriteFault command answers asks none = absurd answers
made-answer words left after output message NoMemory command answers asks none = inr refl

-- ---- what is written

-- what a command that reads a text makes of its model
abbrev IsRead : Command → Lists → List ℕ → Status → Type 0
IsRead (Read reading) m output status = IsOutput reading m output status
IsRead _ m output status = ⊤

-- what the answer to words that ask for a text has written of it
of_model : (words : List (String Global)) (text output message : List ℕ) (after : Option (List ℕ)) (status : Status) (reading : Reading)
    → AnswersModel words (Some text) after output message status → Asks words (Read reading) → IfOk (parsed text) (λ m. IsOutput reading m output status)
of_model words text output message after status reading model asks =
    let same : Read model.reading ≡ Read reading = one_command _ (Read model.reading) (Read reading) model.asked asks in
    let made = subst (λ c. IsRead c model.model output status) same model.written in
    subst (λ judged. IfOk judged (λ m. IsOutput reading m output status)) (sym model.text.text_is) made

pub written-answer : (words : List (String Global)) (left after : Option (List ℕ)) (output message : List ℕ) (status : Status) (reading : Reading)
    → Answers words left after output message status → Asks words (Read reading) → (status ≡ Done) ⊎ (status ≡ Uncertified)
    → IfSome left (λ text. IfOk (parsed text) (λ m. IsOutput reading m output status))
written-answer words None after output message status reading answers asks written = tt
written-answer words (Some text) after output message Done reading (inl model) asks written = of_model words text output message after Done reading model asks
written-answer words (Some text) after output message Done reading (inr made) asks written = absurd (made_unread _ made.command reading output Done made.asked made.written asks)
written-answer words (Some text) after output message Uncertified reading (inl model) asks written = of_model words text output message after Uncertified reading model asks
written-answer words (Some text) after output message Uncertified reading (inr made) asks written = absurd (made_unread _ made.command reading output Uncertified made.asked made.written asks)
written-answer words (Some text) after output message Refused reading answers asks written = elim written [ inl same ↦ absurd (cc same) | inr same ↦ absurd (cc same) ]
written-answer words (Some text) after output message Usage reading answers asks written = elim written [ inl same ↦ absurd (cc same) | inr same ↦ absurd (cc same) ]
written-answer words (Some text) after output message ReadFault reading answers asks written = elim written [ inl same ↦ absurd (cc same) | inr same ↦ absurd (cc same) ]
written-answer words (Some text) after output message WriteFault reading answers asks written = absurd answers
written-answer words (Some text) after output message NoMemory reading answers asks written = elim written [ inl same ↦ absurd (cc same) | inr same ↦ absurd (cc same) ]

-- what holds of each model that the text may be, read in another way
pub told_of : (P Q : Lists → Type 0) → ((m : Lists) → P m → Q m) → (left : Option (List ℕ)) → IfSome left (λ text. IfOk (parsed text) P) → IfSome left (λ text. IfOk (parsed text) Q)
told_of P Q turn None told = tt
told_of P Q turn (Some text) told = judged (parsed text) told
  where
    judged : (r : Result Lists Refusal) → IfOk r P → IfOk r Q
    judged (Ok m) p = turn m p
    judged (Err refusal) p = tt
