use Rattle.std.proofs.Common.{◌≡◌, ◌+◌, length, option_copied}
use Rattle.text_words.specs.Fields.{lines, lines_left}
use Rattle.model_text.specs.Grammar.{after_lines}
use Rattle.model_text.proofs.reader.take_lines.Given as goal

-- what is read so far, with the lines left, is what the whole text gives
abbrev pub invariant-loop-rest : goal.invariant-loop-rest
invariant-loop-rest l = record {
  same : after_lines l.initial.reading 1 (lines l.text) ≡ after_lines l.reading l.line (lines_left (option_copied l.rest));
  counted : l.line + length (lines_left (option_copied l.rest)) ≡ 1 + length (lines l.text);
}

abbrev pub decreases-loop-rest : goal.decreases-loop-rest
decreases-loop-rest l = length (lines_left (option_copied l.rest))
