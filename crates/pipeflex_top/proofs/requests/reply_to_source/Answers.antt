use Rattle.std.proofs.Common.{◌≤◌, inl, sym, subst, length}
use Rattle.pipeflex_top.specs.declared.commands.Command.TheVariants.{Read}
use Rattle.pipeflex_top.specs.Run.{Answers, IsAnswer, message_bytes}
use Rattle.pipeflex_top.proofs.RunLemmas.{Answers-taken}
use Rattle.pipeflex_top.proofs.requests.reply_to_source.Goals as goal

pub returns-in-Ok-clause-answers : goal.returns-in-Ok-clause-answers
returns-in-Ok-clause-answers g c = λ words asked.
    let reply = c.reply_to_text.result in
    let taken = c.in-Ok.ensures in
    let short : length c.in-Ok.text.items ≤ 4194305 = subst (λ count. count ≤ 4194305) c.in-Ok.text.ok.0 taken.bound in
    let answer = subst (λ text. IsAnswer c.args.reading text reply.output.items (message_bytes reply.message) reply.status) c.deref.ensures.value c.reply_to_text.ensures in
    Answers-taken words c.args.reading _ _ c.in-Ok.text.items _ _ _ asked taken.taken taken.whole short answer

pub returns-in-Err-Read-clause-answers : goal.returns-in-Err-Read-clause-answers
returns-in-Err-Read-clause-answers g c = λ words asked.
    let line = c.line_only.ensures in
    subst (Answers words _ _ _ _) (sym line.status) (
      (c.args.reading, asked),
      record {
        part = c.in-Err-Read.ensures.lost;
        empty = line.output;
        told = line.message;
      },
    )

pub returns-in-Err-NoMemory-clause-answers : goal.returns-in-Err-NoMemory-clause-answers
returns-in-Err-NoMemory-clause-answers g c = λ words asked.
    let line = c.line_only-in-Err-NoMemory.ensures in
    subst (Answers words _ _ _ _) (sym line.status) (
      (Read c.args.reading, asked),
      record {
        part = c.in-Err-NoMemory.ensures.lost;
        empty = line.output;
        told = line.message;
      },
    )
