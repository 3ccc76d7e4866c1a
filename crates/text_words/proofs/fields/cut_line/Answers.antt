use Rattle.std.proofs.Common.{refl, ◌==◌}
use Rattle.std.proofs.lemmas.List.Splits.{slice_split_none, slice_split_at}
use Rattle.text_words.proofs.fields.cut_line.Goals as goal

pub returns-in-Some : goal.returns-in-Some
returns-in-Some c = record {
  lines = rw c.in-Some.ensures.parts.whole (slice_split_at (λ b. b == 10) c.in-Some.line.now 10 c.in-Some.rest.now c.in-Some.ensures.parts.lacks refl);
}

pub returns-in-None : goal.returns-in-None
returns-in-None c = record { lines = slice_split_none (λ b. b == 10) c.args.text.now c.in-None.ensures.parts }
