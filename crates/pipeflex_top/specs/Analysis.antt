-- The report of an analysis, and its counts.
use Rattle.std.specs.Prelude.{◌≡◌, ℕ, ◌<◌, List, [], length, Bool, true, false, not, Option, Some, None}
use Rattle.std.specs.List.{count_by}
use Rattle.accepted_text.specs.Accepted.{IsModelTree, IsAcceptedAs, IsRefusedBy}
use Rattle.case_run.specs.Answers.{answers_of}
use Rattle.case_run.specs.Causes.{Plan, plan}
use Rattle.case_run.specs.Runs.{forces_of, shared_structure}
use Rattle.code_stress.specs.Checks.{checks_of}
use Rattle.elim_tree.specs.Fronts.{Fronts, parents_in}
use Rattle.flex_io.specs.declared.Status.{Status}
use Rattle.flex_io.specs.declared.Status.TheVariants.{Done, Uncertified}
use Rattle.lists.specs.Order.{IsOrder}
use Rattle.member_set.specs.declared.members.Built.{Built}
use Rattle.model_types.specs.Lists.{Lists}
use Rattle.model_types.specs.declared.answers.CaseAnswer.{CaseAnswer}
use Rattle.model_types.specs.declared.answers.CaseAnswer.TheVariants as cases
use Rattle.model_types.specs.declared.answers.CheckAnswer.{CheckAnswer}
use Rattle.report.specs.Whole.{report_of}
use Rattle.pipeflex_top.specs.Told.{IsReportText}
use Rattle.pipeflex_top.specs.declared.answers.Answer.{Answer}
use Rattle.pipeflex_top.specs.declared.answers.Answer.TheVariants.{Report, Refused}

-- a model may be analysed in the order of a tree: the tree is the model's, and its order has each node once
pub record MayAnalyse (m : Lists) (t : Fronts) : Type 0 where
  pub tree : IsModelTree m t
  pub permutation : IsOrder t.order
  pub nodes : length t.order ≡ length m.nodes

-- the case has a certificate
abbrev pub is_certified : CaseAnswer → Bool
is_certified (cases.Certified u loads states) = true
is_certified (cases.Uncertified cause guess) = false

-- how many of some cases have a certificate, and how many have none
abbrev pub certified_count : List CaseAnswer → ℕ
certified_count = count_by is_certified

abbrev pub uncertified_count : List CaseAnswer → ℕ
uncertified_count = count_by (λ answer. not (is_certified answer))

-- how a run ends that has written the report of these answers: Done where no case is without a certificate, else Uncertified
abbrev pub EndsWith : List CaseAnswer → Status → Type 0
EndsWith answers Done = uncertified_count answers ≡ 0
EndsWith answers Uncertified = 0 < uncertified_count answers
EndsWith answers _ = ⊥

-- the order in which the nodes of a model are eliminated by a tree
abbrev pub plan_by : Fronts → Plan
plan_by t = plan t.order (parents_in t)

-- the answers of the cases of a model whose nodes are eliminated in the order of a tree
abbrev pub analysis_of : Lists → Fronts → List CaseAnswer
analysis_of m t = answers_of m (plan_by t)

-- a structure; one with no member where there is none
abbrev pub built_or_empty : Option Built → Built
built_or_empty (Some b) = b
built_or_empty None = record { members = []; unilateral = []; stations = []; at = [] }

-- the answers of its checks, by the structure that these cases share and the forces of its members in each that is certified; where
-- they share none, none is certified
abbrev pub checks_in : Lists → Fronts → List CheckAnswer
checks_in m t = checks_of m (built_or_empty (shared_structure m (plan_by t))) (forces_of m (plan_by t))

-- the bytes of the report of these answers
abbrev pub report_by : Lists → Fronts → List ℕ
report_by m t = report_of m (analysis_of m t) (checks_in m t)

-- a text is accepted, these bytes are the report of its model, by the model's tree, which tells what holds, and so many nodes, cases
-- with a certificate and cases without one stand in it
pub record Reports (text bytes : List ℕ) (nodes certified uncertified : ℕ) : Type 0 where
  pub model : Lists
  pub tree : Fronts
  pub text_is : IsAcceptedAs text model tree
  pub written : bytes ≡ report_by model tree
  pub told : IsReportText model bytes
  pub nodes_are : nodes ≡ length model.nodes
  pub certified_are : certified ≡ certified_count (analysis_of model tree)
  pub uncertified_are : uncertified ≡ uncertified_count (analysis_of model tree)

-- the answer to a text: its report, or its refusal
abbrev pub Answered : List ℕ → Answer → Type 0
Answered text (Report bytes nodes certified uncertified) = Reports text bytes.items nodes certified uncertified
Answered text (Refused number line) = IsRefusedBy text number line

-- the output is the report of the answers of the model's cases and checks, by its assembly tree, and the run ends as those of the
-- cases say
pub record IsReport (m : Lists) (output : List ℕ) (status : Status) : Type 0 where
  pub tree : Fronts
  pub tree_is : IsModelTree m tree
  pub written : output ≡ report_by m tree
  pub ends : EndsWith (analysis_of m tree) status

-- a model has one report, and a run that writes it one ending
abbrev pub ReportIsDetermined : Type 0
ReportIsDetermined = (m : Lists) (first second : List ℕ) (status other : Status) →
    IsReport m first status → IsReport m second other → (first ≡ second) × (status ≡ other)

-- an accepted text has a report, whose run ends as its answers say
abbrev pub ReportExists : Type 0
ReportExists = (text : List ℕ) (m : Lists) (t : Fronts) → IsAcceptedAs text m t → (output : List ℕ) × (status : Status) × IsReport m output status
