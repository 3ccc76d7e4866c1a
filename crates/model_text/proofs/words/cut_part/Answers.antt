use Rattle.std.proofs.Common.{◌+◌}
use Rattle.std.proofs.lemmas.List.{take_rest}
use Rattle.model_text.specs.Words.{is_blank}
use Rattle.model_text.proofs.WordLemmas.{slice_split-Some, slice_split-None}
use Rattle.model_text.proofs.words.cut_part.Goals as goal

pub returns-in-Some : goal.returns-in-Some
returns-in-Some c = rw (take_rest c.args.bytes.now (c.in-Some.at + 1)) (slice_split-Some is_blank c.args.bytes.now c.in-Some.at 0 c.in-Some.ensures)

pub returns-in-None : goal.returns-in-None
returns-in-None c = slice_split-None is_blank c.args.bytes.now c.in-None.ensures
