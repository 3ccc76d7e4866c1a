use Rattle.std.proofs.Common.{◌||◌, ap, ◌∙◌}
use Rattle.std.specs.Str.{bytes_eq}
use Rattle.text_words.specs.Numbers.{digits_part, is_plain_digits}
use Rattle.text_words.proofs.numbers.has_number_form.Goals as goal

pub returns-then-eq : goal.returns-then-eq
returns-then-eq c =
    let word = c.args.word.now in
    c.if-eq.true ∙ ap (λ b. b || is_plain_digits (digits_part word)) (c.if-eq.ensures ∙ ap (bytes_eq word) c.as_slice.ensures)

pub returns-else-eq : goal.returns-else-eq
returns-else-eq c =
    let word = c.args.word.now in
    c.is_plain_digits.ensures ∙ ap is_plain_digits c.digits_part.ensures ∙ ap (λ b. b || is_plain_digits (digits_part word)) (c.if-eq.ensures ∙ ap (bytes_eq word) c.as_slice.ensures)
