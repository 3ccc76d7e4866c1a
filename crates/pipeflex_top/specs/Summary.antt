-- The summary of the report of a generated model.
use Rattle.std.specs.Prelude.{◌≡◌, ℕ, List, [], ◌∷◌, codes}
use Rattle.std.specs.Fmt.{decimal}
use Rattle.flex_io.specs.declared.Status.{Status}
use Rattle.model_gen.specs.Text.{generated}
use Rattle.pipeflex_top.specs.Analysis.{EndsWith, Reports, analysis_of}
use Rattle.text_words.specs.Fields.{line}

-- the words of its line: the loops, and the report's counts of nodes and of cases with and without a certificate
abbrev pub summary_words : ℕ → ℕ → ℕ → ℕ → List (List ℕ)
summary_words loops nodes certified uncertified =
    codes "summary" ∷ decimal loops ∷ codes "nodes" ∷ decimal nodes ∷ codes "certified" ∷ decimal certified ∷ codes "uncertified" ∷ decimal uncertified ∷ []

-- the generated text of so many loops has a report, whose counts the output tells, and the run ends as its answers say
pub record IsSummary (loops : ℕ) (output : List ℕ) (status : Status) : Type 0 where
  pub bytes : List ℕ
  pub nodes : ℕ
  pub certified : ℕ
  pub uncertified : ℕ
  pub report : Reports (generated loops) bytes nodes certified uncertified
  pub line_is : output ≡ line (summary_words loops nodes certified uncertified)
  pub ends : EndsWith (analysis_of report.model report.tree) status
