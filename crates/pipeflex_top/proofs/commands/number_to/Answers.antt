use Rattle.std.proofs.Common.{◌≡◌, ◌∙◌, ap, sym, pos, arith, rules, FitsSigned, w64, to_z-of_z}
use Rattle.std.specs.Fmt.{decimal, signed_decimal}
use Rattle.text_words.specs.Numbers.{IsNumber}
use Rattle.pipeflex_top.proofs.commands.number_to.Goals as goal

pub returns-in-Ok : goal.returns-in-Ok
returns-in-Ok c =
    let fits : FitsSigned w64 c.in-Ok.stated = search rules in
    let read = to_z-of_z fits in
    λ n. (
      λ some.
          let found = (c.within_range.ensures n).0 some in
          let form : c.args.word.now ≡ decimal n = sym c.as_bytes.ensures.value ∙ c.in-Ok.ensures.form.form ∙ ap signed_decimal (sym read ∙ found.0) in
          (form, found.1, found.2),
      λ stated.
          let is : IsNumber c.as_bytes.result.now (pos n) = record { form = c.as_bytes.ensures.value ∙ stated.0; short = omega (arith, stated.2, c.ranges.most) } in
          let same : c.in-Ok.stated ≡ pos n = cc (c.in-Ok.is, c.number.ensures.only (pos n) is) in
          (c.within_range.ensures n).1 (read ∙ same, stated.1, stated.2),
    )

pub returns-in-Err : goal.returns-in-Err
returns-in-Err c = λ n. (
  λ some. absurd (cc some),
  λ stated.
      let is : IsNumber c.as_bytes.result.now (pos n) = record { form = c.as_bytes.ensures.value ∙ stated.0; short = omega (arith, stated.2, c.ranges.most) } in
      absurd (cc (c.in-Err.is, c.number.ensures.only (pos n) is)),
)
