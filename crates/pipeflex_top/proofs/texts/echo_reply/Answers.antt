use Rattle.std.proofs.Common.{Err, ap, ◌∙◌}
use Rattle.pipeflex_top.specs.declared.commands.Reading.TheVariants.{Echo}
use Rattle.pipeflex_top.proofs.texts.echo_reply.Goals as goal

pub returns-in-Err-Refused : goal.returns-in-Err-Refused
returns-in-Err-Refused c =
    let refused = c.in-Err-Refused in
    let is = refused.is ∙ ap Err refused.field-0-is in
    c.refusal_reply.ensures Echo c.args.text.now (c.accept.ensures.refused _ _ (rw (refused.number-is, refused.line-is) is))
