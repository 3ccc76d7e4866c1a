use Rattle.std.proofs.Common.{◌≡◌, ℕ, ◌<◌, Bool, true, List, [], ◌∷◌, length, position, not, Some, Err, sym, ap, ◌∙◌}
use Rattle.std.proofs.lemmas.Bool.{not-false}
use Rattle.std.proofs.lemmas.List.Quantifiers.{position-Some}
use Rattle.std.proofs.lemmas.Option.{none-some}
use Rattle.text_words.specs.Fields.{lines}
use Rattle.model_types.specs.Kinds.{tee_kind}
use Rattle.model_types.specs.Lists.{Lists}
use Rattle.model_types.specs.Tees.{is_tee, broken_tee}
use Rattle.model_text.specs.Lines.{making_line}
use Rattle.model_text.proofs.LineLemmas.{ok_and, some_there, whole_with}
use Rattle.model_text.proofs.LineLaws.{lines_are_determined, lines_are_told}
use Rattle.model_text.proofs.reader.whole.Goals as goal

-- what a test finds is there
found_there : {X : Type 0} (p : X → Bool) (xs : List X) (i : ℕ) → position p xs ≡ Some i → i < length xs
found_there p [] i e = absurd (none-some i e)
found_there p (x ∷ xs) i e = (position-Some p (x ∷ xs) i x e).0

tee_there : (m : Lists) (tee : ℕ) → broken_tee m ≡ Some tee → tee < length m.tees
tee_there m tee broken = found_there (λ t. not (is_tee m.nodes m.elements t)) m.tees tee broken

pub record_line-requires-clause-there : goal.record_line-requires-clause-there
record_line-requires-clause-there c =
    let tee = c.in-Err-Tee.number in
    let told = (c.in-Err-Tee.ensures.tee tee).0 (ap Err c.in-Err-Tee.field-0-is) in
    let broken : broken_tee c.args.reading.draft ≡ Some tee = ap (λ s. broken_tee s.draft) (sym c.reading.view_is) ∙ told.1 in
    ok_and (λ read. tee < length read.draft.tees) _ c.args.reading c.requires.read (tee_there c.args.reading.draft tee broken)

pub returns-in-Err-Tee-clause-refused : goal.returns-in-Err-Tee-clause-refused
returns-in-Err-Tee-clause-refused c = λ number line e.
    let text = c.args.text.now in
    let made = c.args.reading in
    let tee = c.in-Err-Tee.number in
    let told = (c.in-Err-Tee.ensures.tee tee).0 (ap Err c.in-Err-Tee.field-0-is) in
    let broken : broken_tee made.draft ≡ Some tee = ap (λ s. broken_tee s.draft) (sym c.reading.view_is) ∙ told.1 in
    let header : made.header ≡ true = ap (λ s. s.header) (sym c.reading.view_is) ∙ not-false _ c.if-not-reading.false in
    let some = some_there made.draft.nodes (λ none. told.0 (ap (λ s. s.draft.nodes) c.reading.view_is ∙ none)) in
    let its_line = lines_are_told text made tee_kind tee (record { short = c.requires.short; accepted = c.requires.read }) (tee_there made.draft tee broken) in
    let line_is : c.record_line.result ≡ making_line tee_kind tee (lines text) = lines_are_determined text tee_kind tee c.record_line.result (making_line tee_kind tee (lines text)) c.record_line.ensures its_line in
    let number_same : 12 ≡ number = cc in
    let line_same : c.record_line.result ≡ line = cc in
    whole_with text c.requires.short made (Some tee) header some broken ∙ ap (λ l. Err (record { number = 12; line = l })) (sym line_is ∙ line_same) ∙ ap (λ n. Err (record { number = n; line = line })) number_same
