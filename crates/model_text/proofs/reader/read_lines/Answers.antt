use Rattle.std.proofs.Common.{◌≡◌, false, Ok, Err, IfOk, sym, ap, subst, ◌∙◌}
use Rattle.text_words.specs.Fields.{lines}
use Rattle.model_text.specs.Grammar.{after_lines, whole, parsed}
use Rattle.model_text.specs.Lines.{State, start}
use Rattle.model_text.specs.declared.reader.TextFault.TheVariants as text_fault
use Rattle.model_text.proofs.LineLemmas.{parsed-lines, parsed-long}
use Rattle.model_text.proofs.reader.read_lines.Goals as goal

pub returns-then-text-gt-LONGEST_TEXT-clause-refused : goal.returns-then-text-gt-LONGEST_TEXT-clause-refused
returns-then-text-gt-LONGEST_TEXT-clause-refused c = λ number line e.
    let number_is : 1 ≡ number = cc in
    let line_is : 1 ≡ line = cc in
    parsed-long c.args.text.now c.if-text-gt-LONGEST_TEXT.true ∙ ap (λ n. Err (record { number = n; line = 1 })) number_is ∙ ap (λ l. Err (record { number = number; line = l })) line_is

pub returns-in-Ok-clause-model : goal.returns-in-Ok-clause-model
returns-in-Ok-clause-model c =
    let from : State = record { header = false; draft = c.in_ok-draft.draft } in
    let begins : from ≡ start = ap (λ d. record { header = false; draft = d }) c.in_ok-draft.ensures in
    let all : parsed c.args.text.now ≡ whole (lines c.args.text.now) (Ok c.take_lines.new.reading) =
    parsed-lines c.args.text.now c.if-text-gt-LONGEST_TEXT.false ∙ ap (λ s. whole (lines c.args.text.now) (after_lines s 1 (lines c.args.text.now))) (sym begins) ∙ ap (whole (lines c.args.text.now)) c.in-Ok.ensures.ok in
    subst (λ p. IfOk c.whole.result (λ model. p ≡ Ok model)) (sym all) c.whole.ensures.model

pub returns-in-Ok-clause-refused : goal.returns-in-Ok-clause-refused
returns-in-Ok-clause-refused c = λ number line e.
    let from : State = record { header = false; draft = c.in_ok-draft.draft } in
    let begins : from ≡ start = ap (λ d. record { header = false; draft = d }) c.in_ok-draft.ensures in
    parsed-lines c.args.text.now c.if-text-gt-LONGEST_TEXT.false ∙ ap (λ s. whole (lines c.args.text.now) (after_lines s 1 (lines c.args.text.now))) (sym begins) ∙ ap (whole (lines c.args.text.now)) c.in-Ok.ensures.ok
    ∙ c.whole.ensures.refused number line e

pub returns-in-Err-clause-refused : goal.returns-in-Err-clause-refused
returns-in-Err-clause-refused c = λ number line e.
    let from : State = record { header = false; draft = c.in_ok-draft.draft } in
    let begins : from ≡ start = ap (λ d. record { header = false; draft = d }) c.in_ok-draft.ensures in
    let fault : c.in-Err.fault ≡ text_fault.Refused number line = cc in
    parsed-lines c.args.text.now c.if-text-gt-LONGEST_TEXT.false ∙ ap (λ s. whole (lines c.args.text.now) (after_lines s 1 (lines c.args.text.now))) (sym begins)
    ∙ ap (whole (lines c.args.text.now)) (c.in-Err.ensures.refused number line (ap Err fault))

pub whole-requires-clause-read : goal.whole-requires-clause-read
whole-requires-clause-read c =
    let from : State = record { header = false; draft = c.in_ok-draft.draft } in
    let begins : from ≡ start = ap (λ d. record { header = false; draft = d }) c.in_ok-draft.ensures in
    ap (λ s. after_lines s 1 (lines c.args.text.now)) (sym begins) ∙ c.in-Ok.ensures.ok
