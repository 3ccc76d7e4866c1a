use Rattle.std.proofs.Common.{length, option_copied}
use Rattle.text_words.specs.Fields.{lines_left}
use Rattle.model_text.specs.Rows.{kind_made}
use Rattle.model_text.proofs.KindLines.{IsReadUpTo}
use Rattle.model_text.proofs.reader.record_line.Given as goal

abbrev pub invariant-loop-rest : goal.invariant-loop-rest
invariant-loop-rest l = IsReadUpTo l.text (lines_left (option_copied l.rest)) (kind_made l.form) l.line l.made l.number

abbrev pub decreases-loop-rest : goal.decreases-loop-rest
decreases-loop-rest l = length (lines_left (option_copied l.rest))
