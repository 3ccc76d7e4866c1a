-- What a front holds before its children, and what its elimination answers.
use Rattle.std.specs.Prelude.{ℕ, suc, ◌*◌, List, length, Result, Ok, Err, ℤ, pos}
use Rattle.lists.specs.Listed.{listed}
use Rattle.sym_blocks.specs.Matrix.{Matrix, entry}
use Rattle.cholesky_laws.specs.Recurrence.{scaled_stiffness}
use Rattle.cholesky_laws.specs.Factor.{Breakdown, low, too_wide}
use Rattle.cholesky_laws.specs.Fronts.{Front, Space, Eliminated, lower}
use Rattle.dense_front.specs.declared.front.FrontValue.{FrontValue}
use Rattle.dense_front.specs.declared.front.FrontValue.TheVariants as V

-- a front's own columns of a matrix less a shift, whose nodes stand in its rows
abbrev pub own_columns : Matrix → ℤ → List ℕ → List (List ℤ)
own_columns k shift nodes = listed 6 (λ c. listed (6 * length nodes) (λ r. scaled_stiffness (entry k) nodes shift r c))

-- the front of these nodes and later places, with its own entries of a matrix less a shift
abbrev pub front_with : Matrix → ℤ → List ℕ → List ℕ → Front
front_with k shift nodes later = record { nodes = nodes; later = later; own = own_columns k shift nodes }

-- a front before it is loaded: zeros
abbrev pub blank : ℕ → List ℕ → List ℕ → Space
blank f nodes later = record { front = f; nodes = nodes; later = later; entries = lower (6 * suc (length later)) (6 * suc (length later)) (λ r c. pos 0) }

-- the value that an answer is
abbrev pub value_of : FrontValue → Result Eliminated Breakdown
value_of (V.Ok columns update) = Ok (record { columns = columns; update = update })
value_of (V.Pivot front dof) = Err (low front dof)
value_of (V.Wide front) = Err (too_wide front)
