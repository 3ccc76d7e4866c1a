use Rattle.std.proofs.Common.{◌≡◌, ◌==◌, ◌&&◌, nat_lt, not, true, length, slice_index, sym, ap, ◌∙◌, arith}
use Rattle.std.proofs.lemmas.Bool.{and_from}
use Rattle.std.proofs.lemmas.Bool.Decides.{nat_tests}
use Rattle.std.specs.Char.{is_ascii_digit}
use Rattle.std.specs.List.{list_all}
use Rattle.text_words.proofs.numbers.is_plain_digits.Goals as goal
use Rattle.text_words.proofs.numbers.is_plain_digits.Goals.{then-not-is_empty, else-not-is_empty}

pub returns-then-are_digits : goal.returns-then-are_digits
returns-then-are_digits c =
    let digits = c.args.digits.now in
    elim c.if-not-is_empty.branch [
      | then-not-is_empty w ↦
          let some : nat_lt 0 (length digits) ≡ true = grind (arith, nat_tests) in
          let each : list_all is_ascii_digit digits ≡ true = sym w.are_digits.ensures ∙ sym w.value-is ∙ c.if-are_digits.true in
          ap (λ b. b && not (slice_index digits 0 == 48)) (sym (and_from _ _ some each))
      | else-not-is_empty w ↦ cc
    ]
