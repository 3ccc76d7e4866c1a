-- Why a case has no certificate, and the factor of a matrix or why there is none.
use Rattle.std.specs.Prelude.{ℕ, List, [], Result, ℤ}
use Rattle.int_laws.specs.Matrices.{Entries}
use Rattle.lists.specs.Results.{named}
use Rattle.model_types.specs.declared.answers.Cause.{Cause}
use Rattle.model_types.specs.declared.answers.Cause.TheVariants as causes
use Rattle.cholesky_laws.specs.Recurrence.{scaled_stiffness}
use Rattle.cholesky_laws.specs.Factor.{factor_of, Breakdown, low, too_wide}
use Rattle.case_run.specs.Causes.{Plan, width_matrix, width_load}
use Rattle.case_run.specs.Certified.{margin_cause}

-- why a case has no certificate: the cause, and the displacements that were reached where the cause is `state`
pub record Reason : Type 0 where
  pub cause : Cause
  pub guess : List ℤ

abbrev pub because : Cause → Reason
because cause = record { cause = cause; guess = [] }

abbrev pub element_reason : ℕ → Reason
element_reason number = because (causes.WidthElement (record { 0 = number }))

abbrev pub matrix_reason : ℕ → Reason
matrix_reason row = because (width_matrix row)

abbrev pub breakdown_reason : Breakdown → Reason
breakdown_reason (low node freedom) = because (causes.Pivot (record { 0 = node }) freedom)
breakdown_reason (too_wide node) = because (causes.WidthFactor (record { 0 = node }))

abbrev pub margin_reason : ℕ → Reason
margin_reason row = because (margin_cause row)

abbrev pub load_reason : ℕ → Reason
load_reason row = because (width_load row)

abbrev pub bounds_reason : Reason
bounds_reason = because causes.WidthResidual

-- the factor of the middles at a shift
abbrev pub factor_at : Plan → Entries → ℤ → Result Entries Reason
factor_at p middles shift = named breakdown_reason (factor_of (scaled_stiffness middles p.order shift) p.order p.parents)
