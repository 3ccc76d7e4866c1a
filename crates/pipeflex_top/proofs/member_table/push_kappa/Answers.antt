use Rattle.std.proofs.Common.{◌≡◌, ◌++◌, ◌∙◌, OnOk, ap, subst, rules, FitsSigned, to_z-of_z}
use Rattle.std.specs.Fmt.{decimal, signed_decimal}
use Rattle.std.specs.Int.{w128}
use Rattle.flex_interval.specs.Ends.{Ends}
use Rattle.text_words.specs.Fields.{line}
use Rattle.pipeflex_top.specs.MemberTable.{kappa_words}
use Rattle.pipeflex_top.proofs.member_table.push_kappa.Goals as goal

pub returns-clause-bytes : goal.returns-clause-bytes
returns-clause-bytes c =
    let kappa = c.kappa.inside in
    let lo_fits : FitsSigned w128 kappa.lo = search rules in
    let hi_fits : FitsSigned w128 kappa.hi = search rules in
    let number : c.as_bytes-number.result.now ≡ decimal c.args.j = c.as_bytes-number.ensures.value ∙ c.format.ensures.text in
    let lo : c.as_bytes-lo.result.now ≡ signed_decimal kappa.lo = c.as_bytes-lo.ensures.value ∙ c.format-2.ensures.text ∙ ap signed_decimal (to_z-of_z lo_fits) in
    let hi : c.as_bytes-hi.result.now ≡ signed_decimal kappa.hi = c.as_bytes-hi.ensures.value ∙ c.format-3.ensures.text ∙ ap signed_decimal (to_z-of_z hi_fits) in
    let step = rw (number, lo, hi) at c.push_line.ensures.written in
    subst (λ (ends : Ends). OnOk c.push_line.result (c.push_line.new.out.items ≡ c.args.out.now.items ++ line (kappa_words c.args.j ends))) c.kappa.view_is step
