use Rattle.std.proofs.Common.{arith, ◌≡◌, ◌∷◌, length, Err, option_copied, sym, ap, ◌∙◌}
use Rattle.text_words.specs.Fields.{lines_left}
use Rattle.model_text.specs.Grammar.{after_lines}
use Rattle.model_text.specs.declared.reader.TextFault.TheVariants as text_fault
use Rattle.model_text.proofs.LineLemmas.{after_lines-nil, after_lines-Ok, after_lines-Err, at_line-Refused, length-lines}
use Rattle.model_text.proofs.reader.take_lines.Goals as goal

pub overflow_add-line : goal.overflow_add-line
overflow_add-line c = omega (arith, c.loop-rest.invariant.counted, length-lines c.args.text.now, c.requires)

pub loop-rest-preserved : goal.loop-rest-preserved
loop-rest-preserved c =
    let front = c.cut_line.result.0.now in
    let behind = lines_left (option_copied c.cut_line.result.1) in
    let next : lines_left (option_copied c.loop-rest.rest) ≡ front ∷ behind = ap (λ o. lines_left (option_copied o)) c.in-Some.is ∙ c.cut_line.ensures.lines in
    record {
      same = c.loop-rest.invariant.same ∙ ap (after_lines c.loop-rest.reading c.loop-rest.line) next ∙ after_lines-Ok c.loop-rest.reading c.loop-rest.line front behind c.take_line.new.reading c.in_default-take_line.ensures.ok;
      counted = omega (arith, c.loop-rest.invariant.counted, ap length next);
    }

pub returns-in-Err-clause-refused : goal.returns-in-Err-clause-refused
returns-in-Err-clause-refused c = λ number line e.
    let front = c.cut_line.result.0.now in
    let behind = lines_left (option_copied c.cut_line.result.1) in
    let next : lines_left (option_copied c.loop-rest.rest) ≡ front ∷ behind = ap (λ o. lines_left (option_copied o)) c.in-Some.is ∙ c.cut_line.ensures.lines in
    let fault : c.at_line.result ≡ text_fault.Refused number line = cc in
    let is = at_line-Refused c.in-Err.fault c.loop-rest.line number line (sym c.at_line.ensures ∙ fault) in
    c.loop-rest.invariant.same ∙ ap (after_lines c.loop-rest.reading c.loop-rest.line) next
    ∙ after_lines-Err c.loop-rest.reading c.loop-rest.line front behind number (c.in-Err.ensures.refused number (ap Err is.0))
    ∙ ap (λ n. Err (record { number = number; line = n })) is.1

pub returns-clause-ok : goal.returns-clause-ok
returns-clause-ok c = c.loop-rest.invariant.same ∙ ap (λ o. after_lines c.loop-rest.reading c.loop-rest.line (lines_left (option_copied o))) c.in_default.is ∙ after_lines-nil c.loop-rest.reading c.loop-rest.line
