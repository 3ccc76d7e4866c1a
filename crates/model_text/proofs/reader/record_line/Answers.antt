use Rattle.std.proofs.Common.{arith, option_copied, sym, ap, ◌∙◌}
use Rattle.text_words.specs.Fields.{lines_left}
use Rattle.model_text.specs.Rows.{kind_made}
use Rattle.model_text.proofs.KindLines.{one_if, IsReadUpTo-none, IsReadUpTo-more, IsLineOf-next, some_left, line_small}
use Rattle.model_text.proofs.reader.record_line.Goals as goal
use Rattle.model_text.proofs.reader.record_line.Goals.{then-makes+else-made-number, else-makes}

pub loop-rest-init : goal.loop-rest-init
loop-rest-init c = IsReadUpTo-none c.args.text.now (kind_made c.args.form) c.args.number

pub returns-then-made-number : goal.returns-then-made-number
returns-then-made-number c =
    let behind = lines_left (option_copied c.cut_line.result.1) in
    let next = ap (λ o. lines_left (option_copied o)) c.in-Some.is ∙ c.cut_line.ensures.lines in
    IsLineOf-next c.args.text.now _ (kind_made c.args.form) c.loop-rest.line c.loop-rest.made c.args.number c.loop-rest.invariant c.requires.short c.requires.there c.cut_line.result.0.now behind next c.if-made-number.true
    (sym (ap one_if c.makes.ensures) ∙ ap one_if c.if-makes.true)

pub overflow_add-line : goal.overflow_add-line
overflow_add-line c = omega (arith, line_small c.args.text.now _ (kind_made c.args.form) c.loop-rest.line c.loop-rest.made c.args.number c.loop-rest.invariant c.requires.short c.requires.there)

pub loop-rest-preserved : goal.loop-rest-preserved
loop-rest-preserved c =
    let behind = lines_left (option_copied c.cut_line.result.1) in
    let next = ap (λ o. lines_left (option_copied o)) c.in-Some.is ∙ c.cut_line.ensures.lines in
    let more = IsReadUpTo-more c.args.text.now _ (kind_made c.args.form) c.loop-rest.line c.loop-rest.made c.args.number c.loop-rest.invariant c.requires.short c.requires.there c.cut_line.result.0.now behind next c.if-makes.made in
    elim c.if-makes.branch [
      | then-makes+else-made-number w ↦ (let makes = sym (ap one_if c.makes.ensures) ∙ ap one_if w.if-makes.true in more (omega (arith, w.made-is, makes)) (omega (arith, w.made-is, c.loop-rest.invariant.not_before, w.if-made-number.false)))
      | else-makes w ↦ (let makes = sym (ap one_if c.makes.ensures) ∙ ap one_if w.if-makes.false in more (omega (arith, w.made-is, makes)) (omega (arith, w.made-is, c.loop-rest.invariant.not_before)))
    ]

pub unreachable-requires : goal.unreachable-requires
unreachable-requires c =
    some_left c.args.text.now _ (kind_made c.args.form) c.loop-rest.line c.loop-rest.made c.args.number c.loop-rest.invariant c.requires.short c.requires.there (ap (λ o. lines_left (option_copied o)) c.in_default.is)
