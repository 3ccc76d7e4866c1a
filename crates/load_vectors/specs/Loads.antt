-- The loads of a case: for each row the sum of what acts on its node in its freedom.
use Rattle.std.specs.Prelude.{◌≡◌, ℕ, ◌*◌, ◌/◌, ◌%◌, ◌<◌, ◌==◌, List, length, filter, map, Result, Ok, IsOk, IsErr, is_err, pos}
use Rattle.std.specs.List.{fold}
use Rattle.flex_interval.specs.Ends.{Ends}
use Rattle.flex_interval.specs.Fraction.{Fraction, Within, whole, plus}
use Rattle.flex_interval.specs.Operations.{add_of}
use Rattle.lists.specs.Listed.{listed}
use Rattle.lists.specs.Results.{and_then, unless}
use Rattle.lists.specs.Search.{first_below}
use Rattle.member_set.specs.Members.{nothing, load_of}
use Rattle.member_set.specs.Interval.{Outcome, found, limited_force}
use Rattle.model_types.specs.Lists.{Lists}
use Rattle.load_vectors.specs.NodeLoads.{NodeLoad, Reading, IsReading, loads_in}

-- the loads that are on a row's node, in order
abbrev pub on_row : List NodeLoad → ℕ → List NodeLoad
on_row loads row = filter (λ p. p.node == row / 6) loads

-- a sum and one term more
abbrev pub then_add : Outcome → Outcome → Outcome
then_add sum term = and_then sum (λ total. and_then term (λ e. add_of total e))

-- the sum of their parts in the row's freedom, from left to right
abbrev pub sum_on : List NodeLoad → ℕ → Outcome
sum_on loads row = fold then_add (Ok nothing) (map (λ p. p.part (row % 6)) (on_row loads row))

-- the same of the exact parts
abbrev pub exact_sum_on : Reading → List NodeLoad → ℕ → Fraction
exact_sum_on x loads row = fold plus (whole (pos 0)) (map (λ p. p.exact x (row % 6)) (on_row loads row))

-- ---- the load of a row

-- the sum of all that acts in the case, below 2^66 in size as a whole
unfoldable pub row_load : Lists → ℕ → ℕ → Outcome
row_load m case row = and_then (sum_on (loads_in m case) row) limited_force

-- the loads of all rows, or the first row that has none within its limit
abbrev pub loads_of : Lists → ℕ → Result (List Ends) ℕ
loads_of m case =
    unless (first_below (6 * length m.nodes) (λ row. is_err (row_load m case row))) (listed (6 * length m.nodes) (λ row. found (row_load m case row)))

-- the loads of all rows
pub record AreLoads (m : Lists) (case : ℕ) (loads : List Ends) : Type 0 where
  pub one_each : length loads ≡ 6 * length m.nodes
  pub value : (row : ℕ) → row < 6 * length m.nodes → row_load m case row ≡ Ok (load_of loads row)

-- the row is the first that has no load within its limit
pub record IsFirstWideLoad (m : Lists) (case row : ℕ) : Type 0 where
  pub in_range : row < 6 * length m.nodes
  pub wide : IsErr (row_load m case row)
  pub before : (i : ℕ) → i < row → IsOk (row_load m case i)

-- the exact load of a row: all that acts, exact
abbrev pub exact_row_load : Lists → ℕ → Reading → ℕ → Fraction
exact_row_load m case x row = exact_sum_on x (loads_in m case) row

-- each exact load lies in its interval, for all pi and lengths within their enclosures
abbrev pub EncloseLoads : Lists → ℕ → List Ends → Type 0
EncloseLoads m case loads = (x : Reading) → IsReading x → (row : ℕ) → row < 6 * length m.nodes → Within (load_of loads row) (exact_row_load m case x row)
