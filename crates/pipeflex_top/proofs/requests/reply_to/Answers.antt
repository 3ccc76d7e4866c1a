use Rattle.std.proofs.Common.{◌∙◌, ap, Some}
use Rattle.pipeflex_top.specs.declared.commands.Command.TheVariants.{Read, Generate, Summary}
use Rattle.pipeflex_top.proofs.RunLemmas.{Answers-made, by_workers, have_workers}
use Rattle.pipeflex_top.proofs.requests.reply_to.Goals as goal

pub reply_to_source-requires-after_bounds : goal.reply_to_source-requires-after_bounds
reply_to_source-requires-after_bounds g c κs within =
    let asked = (c.command_of.ensures (Read c.in-Some-Read.reading)).0 (c.in-Some-Read.is ∙ ap Some c.in-Some-Read.field-0-is) in
    have_workers _ c.in-Some-Read.reading asked

pub text_reply-requires : goal.text_reply-requires
text_reply-requires g c =
    let asked = (c.command_of.ensures (Generate c.in-Some-Generate.loops)).0 (c.in-Some-Generate.is ∙ ap Some c.in-Some-Generate.field-0-is) in
    asked.1

pub summary_reply-requires-clause-loops : goal.summary_reply-requires-clause-loops
summary_reply-requires-clause-loops g c κs within =
    let asked = (c.command_of.ensures (Summary c.in-Some-Summary.loops c.in-Some-Summary.workers)).0 (c.in-Some-Summary.is ∙ ap Some c.in-Some-Summary.field-0-is) in
    asked.1

pub summary_reply-requires-clause-some : goal.summary_reply-requires-clause-some
summary_reply-requires-clause-some g c κs within =
    let asked = (c.command_of.ensures (Summary c.in-Some-Summary.loops c.in-Some-Summary.workers)).0 (c.in-Some-Summary.is ∙ ap Some c.in-Some-Summary.field-0-is) in
    (by_workers _ _ _ asked.0).0

pub summary_reply-requires-clause-few : goal.summary_reply-requires-clause-few
summary_reply-requires-clause-few g c κs within =
    let asked = (c.command_of.ensures (Summary c.in-Some-Summary.loops c.in-Some-Summary.workers)).0 (c.in-Some-Summary.is ∙ ap Some c.in-Some-Summary.field-0-is) in
    (by_workers _ _ _ asked.0).1

pub returns-in-Some-Read-clause-answers : goal.returns-in-Some-Read-clause-answers
returns-in-Some-Read-clause-answers g c =
    let asked = (c.command_of.ensures (Read c.in-Some-Read.reading)).0 (c.in-Some-Read.is ∙ ap Some c.in-Some-Read.field-0-is) in
    c.reply_to_source.ensures.answers c.args.words.now asked

pub returns-in-Some-Read-clause-unread : goal.returns-in-Some-Read-clause-unread
returns-in-Some-Read-clause-unread g c =
    let asked = (c.command_of.ensures (Read c.in-Some-Read.reading)).0 (c.in-Some-Read.is ∙ ap Some c.in-Some-Read.field-0-is) in
    λ none. absurd (none (c.in-Some-Read.reading, asked))

pub returns-in-Some-Summary-clause-answers : goal.returns-in-Some-Summary-clause-answers
returns-in-Some-Summary-clause-answers g c =
    let command = Summary c.in-Some-Summary.loops c.in-Some-Summary.workers in
    let asked = (c.command_of.ensures command).0 (c.in-Some-Summary.is ∙ ap Some c.in-Some-Summary.field-0-is) in
    Answers-made c.args.words.now command _ _ _ c.summary_reply.result.status asked c.summary_reply.ensures
