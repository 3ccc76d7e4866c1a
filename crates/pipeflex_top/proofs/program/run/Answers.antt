use Rattle.std.proofs.Common.{◌≡◌, ◌≢◌, sym, subst, ◌∙◌, inl, inr}
use Rattle.flex_io.specs.Sink.{WritesAll, WritesPart, HasRoom}
use Rattle.flex_io.specs.declared.outcome.Status.{Status}
use Rattle.flex_io.specs.declared.outcome.Status.TheVariants.{Done, Uncertified, ReadFault, WriteFault}
use Rattle.model_types.specs.Lists.{Lists}
use Rattle.pipeflex_top.specs.declared.commands.Reading.TheVariants.{Members, Analyse}
use Rattle.pipeflex_top.specs.Enclosure.{PrintsEnclosures}
use Rattle.pipeflex_top.specs.Run.{Answers, IsOutput, message_bytes}
use Rattle.pipeflex_top.proofs.RunLemmas.{Decides-answer, made-answer, told_of, usage-answer, written-answer}
use Rattle.pipeflex_top.proofs.program.run.Goals as goal

pub returns-clause-ended : goal.returns-clause-ended
returns-clause-ended g c = λ whole.
    let reply = c.reply_to-reply in
    let written = rw (c.deref.ensures.value, c.bytes.ensures) at c.deliver.ensures.whole whole in
    (reply.result.output.items, message_bytes reply.result.message, subst (Answers _ _ _ _ _) (sym (c.deliver.ensures.ended whole)) reply.ensures.answers, written.0, written.1)

pub returns-clause-broke_off : goal.returns-clause-broke_off
returns-clause-broke_off g c = λ broke.
    let reply = c.reply_to-reply in
    let part = rw (c.deref.ensures.value, c.bytes.ensures) at c.deliver.ensures.broke_off broke in
    (reply.result.output.items, message_bytes reply.result.message, reply.result.status, (reply.ensures.answers, reply.ensures.read_fault), part.0, part.1, part.2)

pub returns-clause-write_fault : goal.returns-clause-write_fault
returns-clause-write_fault g c = c.deliver.ensures.write_fault

pub returns-clause-read_fault : goal.returns-clause-read_fault
returns-clause-read_fault g c = λ read.
    let apart : ¬ (◌≡◌ {A = Status} ReadFault WriteFault) = λ same. cc same in
    let whole : c.deliver.result ≢ WriteFault = λ broke. apart (sym read ∙ broke) in
    c.reply_to-reply.ensures.read_fault.rose (sym (c.deliver.ensures.ended whole) ∙ read)

pub returns-clause-source_steady : goal.returns-clause-source_steady
returns-clause-source_steady g c = λ sound whole.
    c.reply_to-reply.ensures.read_fault.steady (λ read. sound (c.deliver.ensures.ended whole ∙ read))

pub returns-clause-wrong_words : goal.returns-clause-wrong_words
returns-clause-wrong_words g c = λ wrong out err.
    let reply = c.reply_to-reply in
    let whole : c.deliver.result ≢ WriteFault = λ broke. elim (c.deliver.ensures.write_fault broke) [ inl rose ↦ out rose | inr rose ↦ err rose ] in
    usage-answer _ _ _ _ _ _ (subst (Answers _ _ _ _ _) (sym (c.deliver.ensures.ended whole)) reply.ensures.answers) wrong

pub returns-clause-decided : goal.returns-clause-decided
returns-clause-decided g c = λ form source out err.
    let reply = c.reply_to-reply in
    let whole : c.deliver.result ≢ WriteFault = λ broke. elim (c.deliver.ensures.write_fault broke) [ inl rose ↦ out rose | inr rose ↦ err rose ] in
    let same = c.deliver.ensures.ended whole in
    let sound : c.deliver.result ≢ ReadFault = λ read. source (reply.ensures.read_fault.rose (sym same ∙ read)) in
    Decides-answer c.acceptance_is_determined.ensures.never_both _ _ _ _ _ _ (subst (Answers _ _ _ _ _) (sym same) reply.ensures.answers) form sound

pub returns-clause-made : goal.returns-clause-made
returns-clause-made g c = λ command asks none out err.
    let reply = c.reply_to-reply in
    let whole : c.deliver.result ≢ WriteFault = λ broke. elim (c.deliver.ensures.write_fault broke) [ inl rose ↦ out rose | inr rose ↦ err rose ] in
    made-answer _ _ _ _ _ _ command (subst (Answers _ _ _ _ _) (sym (c.deliver.ensures.ended whole)) reply.ensures.answers) asks none

pub returns-clause-enclosed : goal.returns-clause-enclosed
returns-clause-enclosed g c = λ done members.
    let reply = c.reply_to-reply in
    let apart : ¬ (◌≡◌ {A = Status} Done WriteFault) = λ same. cc same in
    let whole : c.deliver.result ≢ WriteFault = λ broke. apart (sym done ∙ broke) in
    let told = written-answer _ _ _ _ _ _ Members reply.ensures.answers members (inl (sym (c.deliver.ensures.ended whole) ∙ done)) in
    told_of (λ m. IsOutput Members m reply.result.output.items reply.result.status) PrintsEnclosures (λ m made. made.1) _ told

pub returns-clause-certified : goal.returns-clause-certified
returns-clause-certified g c = λ workers asks written.
    let reply = c.reply_to-reply in
    let whole : c.deliver.result ≢ WriteFault = λ broke. elim written [ inl done ↦ (let same : ◌≡◌ {A = Status} Done WriteFault = sym done ∙ broke in absurd (cc same)) | inr some ↦ (let same : ◌≡◌ {A = Status} Uncertified WriteFault = sym some ∙ broke in absurd (cc same)) ] in
    let answers = subst (Answers _ _ _ _ _) (sym (c.deliver.ensures.ended whole)) reply.ensures.answers in
    let told = written-answer _ _ _ _ _ _ (Analyse workers) answers asks written in
    let all = rw (c.deref.ensures.value, c.bytes.ensures) at c.deliver.ensures.whole whole in
    told_of _ _ (λ m made. (reply.result.output.items, all.0, made)) _ told
