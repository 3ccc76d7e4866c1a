-- The fault of a case that the fault of a step becomes: the cause that it names, or that memory ran out.
use Rattle.std.specs.Prelude.{ℕ, Option, Some, None}
use Rattle.model_types.specs.declared.answers.Cause.TheVariants as causes
use Rattle.structure.specs.declared.fault.BuildFault.{BuildFault}
use Rattle.structure.specs.declared.fault.BuildFault.TheVariants as builds
use Rattle.assembly.specs.declared.fault.AssembleFault.{AssembleFault}
use Rattle.assembly.specs.declared.fault.AssembleFault.TheVariants as assemblies
use Rattle.factor.specs.declared.fault.ScalarFault.{ScalarFault}
use Rattle.factor.specs.declared.fault.ScalarFault.TheVariants as factors
use Rattle.solve.specs.declared.fault.SolveFault.{SolveFault}
use Rattle.solve.specs.declared.fault.SolveFault.TheVariants as solutions
use Rattle.restraint_search.specs.declared.trial.TrialFault.{TrialFault}
use Rattle.restraint_search.specs.declared.trial.TrialFault.TheVariants as trials
use Rattle.restraint_search.specs.declared.fault.SearchFault.{SearchFault}
use Rattle.restraint_search.specs.declared.fault.SearchFault.TheVariants as searches
use Rattle.cholesky_laws.specs.Factor.{low, too_wide}
use Rattle.case_run.specs.Causes.{width_matrix}
use Rattle.case_run.specs.Reasons.{Reason, because, matrix_reason, breakdown_reason}
use Rattle.case_run.specs.Trials.{solve_reason}
use Rattle.case_run.specs.declared.fault.CaseFault.{CaseFault}
use Rattle.case_run.specs.declared.fault.CaseFault.TheVariants.{Because, NoMemory}

-- an element leaves its limits
abbrev pub build_fault : BuildFault → CaseFault
build_fault (builds.Wide element) = Because (causes.WidthElement element)
build_fault builds.NoMemory = NoMemory

-- a row of the matrix leaves its limits
abbrev pub assemble_fault : AssembleFault → CaseFault
assemble_fault (assemblies.Wide row) = Because (width_matrix row)
assemble_fault assemblies.NoMemory = NoMemory

-- a pivot is below 1, or a node's columns leave their limits
abbrev pub scalar_fault : ScalarFault → CaseFault
scalar_fault (factors.Pivot node dof) = Because (causes.Pivot (record { 0 = node }) dof)
scalar_fault (factors.Wide node) = Because (causes.WidthFactor (record { 0 = node }))
scalar_fault factors.NoMemory = NoMemory

-- the reason that a fault of a case tells; none where memory ran out
abbrev pub reason_told : CaseFault → Option Reason
reason_told (Because cause) = Some (because cause)
reason_told NoMemory = None

-- ---- the faults of a trial

abbrev pub assembly_trial_fault : AssembleFault → TrialFault
assembly_trial_fault (assemblies.Wide row) = trials.Matrix row
assembly_trial_fault assemblies.NoMemory = trials.NoMemory

abbrev pub scalar_trial_fault : ScalarFault → TrialFault
scalar_trial_fault (factors.Pivot node dof) = trials.Pivot node dof
scalar_trial_fault (factors.Wide node) = trials.Factor node
scalar_trial_fault factors.NoMemory = trials.NoMemory

abbrev pub solve_trial_fault : SolveFault → TrialFault
solve_trial_fault solutions.Wide = trials.Solve
solve_trial_fault solutions.NoMemory = trials.NoMemory

-- the reason that the fault of a trial tells in a turn; none where memory ran out
abbrev pub trial_told : ℕ → TrialFault → Option Reason
trial_told turn (trials.Matrix row) = Some (matrix_reason row)
trial_told turn (trials.Pivot node dof) = Some (breakdown_reason (low node dof))
trial_told turn (trials.Factor node) = Some (breakdown_reason (too_wide node))
trial_told turn trials.Solve = Some (solve_reason turn)
trial_told turn trials.NoMemory = None

-- the fault of a case whose trial in a turn has a fault
abbrev pub turn_fault : ℕ → TrialFault → CaseFault
turn_fault turn (trials.Matrix row) = Because (width_matrix row)
turn_fault turn (trials.Pivot node dof) = Because (causes.Pivot (record { 0 = node }) dof)
turn_fault turn (trials.Factor node) = Because (causes.WidthFactor (record { 0 = node }))
turn_fault turn trials.Solve = Because (causes.WidthSolve turn)
turn_fault turn trials.NoMemory = NoMemory

-- the fault of a case whose search has a fault
abbrev pub search_fault : SearchFault → CaseFault
search_fault searches.Turns = Because causes.Turns
search_fault (searches.Trial turn fault) = turn_fault turn fault
search_fault searches.NoMemory = NoMemory
