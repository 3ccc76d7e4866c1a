-- The whole report.
use Rattle.std.specs.Prelude.{ℕ, List, ◌++◌}
use Rattle.std.specs.List.{flat_map}
use Rattle.model_types.specs.Lists.{Lists}
use Rattle.model_types.specs.declared.answers.CaseAnswer.{CaseAnswer}
use Rattle.model_types.specs.declared.answers.CheckAnswer.{CheckAnswer}
use Rattle.text_words.specs.Fields.{line}
use Rattle.report.specs.Report.{case_lines, end_lines, head_lines}
use Rattle.report.specs.Checks.{check_lines}

-- the bytes of the report of a model whose cases and checks have these answers
abbrev pub report_of : Lists → List CaseAnswer → List CheckAnswer → List ℕ
report_of m answers checks = flat_map line (head_lines m ++ case_lines m m.cases answers ++ check_lines m m.checks checks ++ end_lines)
