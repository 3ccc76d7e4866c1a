-- What the cases of a model come to beside their answers: the structure that they share, and the force of each of its members.
use Rattle.std.specs.Prelude.{◌≡◌, ℕ, ⊤, nat_lt, if◌then◌else◌, List, length, map, drop, Option, Some, None, option_map, Result, Ok, Err}
use Rattle.std.specs.Result.{result_ok}
use Rattle.flex_interval.specs.Ends.{Ends}
use Rattle.lists.specs.Listed.{listed}
use Rattle.lists.specs.Results.{and_then}
use Rattle.member_set.specs.declared.members.Built.{Built}
use Rattle.model_types.specs.Lists.{Lists}
use Rattle.model_types.specs.declared.answers.CaseAnswer.{CaseAnswer}
use Rattle.model_types.specs.declared.answers.CaseAnswer.TheVariants.{Certified, Uncertified}
use Rattle.model_types.specs.Fits.{bounds_of}
use Rattle.certificate.specs.declared.bounds.Enclosure.{Enclosure}
use Rattle.case_run.specs.declared.cases.CaseRun.{CaseRun}
use Rattle.case_run.specs.Causes.{Plan}
use Rattle.case_run.specs.Reasons.{Reason}
use Rattle.case_run.specs.Answers.{base_of, enclosure_in, answer_with}

-- the force of each member, where there are bounds
abbrev pub forces_with : Result Enclosure Reason → Option (List Ends)
forces_with (Ok e) = Some e.force
forces_with (Err reason) = None

-- the force of each member in a case that is certified, of elements and then of restraints, in order
abbrev pub case_forces : Lists → Plan → ℕ → Option (List Ends)
case_forces m p case = forces_with (and_then (base_of m p) (enclosure_in m p case))

-- the same of all cases, in order
abbrev pub forces_of : Lists → Plan → List (Option (List Ends))
forces_of m p = listed (length m.cases) (case_forces m p)

-- the structure that the cases of a model share, where it has a case, and a margin
abbrev pub shared_structure : Lists → Plan → Option Built
shared_structure m p = if nat_lt 0 (length m.cases) then option_map (λ shared. shared.structure) (result_ok (base_of m p)) else None

-- what a case comes to by its bounds: its answer, and its forces
abbrev pub run_with : ℕ → Result Enclosure Reason → CaseRun
run_with first bounds = record { answer = answer_with first bounds; forces = forces_with bounds }

-- the forces of a case are told with its answer: where that is certified there are some, and it has those of the members from
-- `first` on as bounds; another has none
abbrev pub AreToldWith : ℕ → CaseAnswer → Option (List Ends) → Type 0
AreToldWith first (Certified u loads states) (Some forces) = loads ≡ map bounds_of (drop first forces)
AreToldWith first (Certified u loads states) None = ⊥
AreToldWith first (Uncertified cause guess) (Some forces) = ⊥
AreToldWith first (Uncertified cause guess) None = ⊤

-- forces are those of a structure: where there are any, there is a structure, and they are one for each of its members
abbrev pub AreForcesOf : Option Built → Option (List Ends) → Type 0
AreForcesOf structure None = ⊤
AreForcesOf (Some b) (Some forces) = length forces ≡ length b.members
AreForcesOf None (Some forces) = ⊥
