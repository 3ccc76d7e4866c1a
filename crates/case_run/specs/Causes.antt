-- In which order a model is worked through, and the cause that a row names.
use Rattle.std.specs.Prelude.{ℕ, ◌/◌, ◌%◌, List, Option}
use Rattle.model_types.specs.declared.answers.Cause.{Cause}
use Rattle.model_types.specs.declared.answers.Cause.TheVariants as causes

-- in which order the nodes are eliminated, and the parent of each place of the order
pub record Plan : Type 0 where
  pub order : List ℕ
  pub parents : List (Option ℕ)

abbrev pub plan : List ℕ → List (Option ℕ) → Plan
plan order parents = record { order = order; parents = parents }

-- the node and the freedom of a row
abbrev pub at_row : (ℕ → ℕ → Cause) → ℕ → Cause
at_row cause row = cause (row / 6) (row % 6)

abbrev pub width_matrix : ℕ → Cause
width_matrix = at_row (λ node freedom. causes.WidthMatrix (record { 0 = node }) freedom)

abbrev pub width_load : ℕ → Cause
width_load = at_row (λ node freedom. causes.WidthLoad (record { 0 = node }) freedom)
