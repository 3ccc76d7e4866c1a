-- What the loads are after some of what acts, and within their limit.
use Rattle.std.specs.Prelude.{◌≡◌, ◌≢◌, ℕ, ◌+◌, ◌*◌, ◌/◌, ◌^◌, ◌<◌, ◌≤◌, List, ◌++◌, length, Ok, IsOk, IsErr, unsigned_abs}
use Rattle.std.specs.List.{slice_index_or}
use Rattle.flex_interval.specs.Ends.{Ends}
use Rattle.flex_interval.specs.Fraction.{Within}
use Rattle.flex_interval.specs.Operations.{add_of}
use Rattle.member_set.specs.Members.{nothing, load_of}
use Rattle.member_set.specs.Interval.{limited_force}
use Rattle.model_types.specs.Lists.{Lists}
use Rattle.load_vectors.specs.NodeLoads.{NodeLoad, Reading, IsReading}
use Rattle.load_vectors.specs.Loads.{sum_on, exact_sum_on}

-- no greater in size than n loads on a node can be, each of at most 2^100 units
pub record IsOfLoads (n : ℕ) (e : Ends) : Type 0 where
  pub lo_most : unsigned_abs e.lo ≤ n * 2 ^ 100
  pub hi_most : unsigned_abs e.hi ≤ n * 2 ^ 100

-- the same of the three parts of a vector
pub record IsVectorOfLoads (v : List Ends) : Type 0 where
  pub x : IsOfLoads 1 (slice_index_or v 0 nothing)
  pub y : IsOfLoads 1 (slice_index_or v 1 nothing)
  pub z : IsOfLoads 1 (slice_index_or v 2 nothing)

-- ---- one load

-- six intervals have the parts of a load, hold its exact parts, and are no greater than it may be
pub record ArePartsOf (p : NodeLoad) (parts : List Ends) : Type 0 where
  pub value : (freedom : ℕ) → freedom < 6 → p.part freedom ≡ Ok (slice_index_or parts freedom nothing)
  pub within : (x : Reading) → IsReading x → (freedom : ℕ) → freedom < 6 → Within (slice_index_or parts freedom nothing) (p.exact x freedom)
  pub size : (freedom : ℕ) → freedom < 6 → IsOfLoads 1 (slice_index_or parts freedom nothing)

-- six intervals are added to the rows of a node
pub record AddsParts (old new : List Ends) (node : ℕ) (parts : List Ends) : Type 0 where
  pub one_each : length new ≡ length old
  pub here : (freedom : ℕ) → freedom < 6 → add_of (load_of old (6 * node + freedom)) (slice_index_or parts freedom nothing) ≡ Ok (load_of new (6 * node + freedom))
  pub elsewhere : (row : ℕ) → row / 6 ≢ node → load_of new row ≡ load_of old row

-- ---- their sums

-- the interval is the sum of the loads on a row, and holds what the exact ones add up to
pub record IsTotal (loads : List NodeLoad) (row : ℕ) (e : Ends) : Type 0 where
  pub value : sum_on loads row ≡ Ok e
  pub within : (x : Reading) → IsReading x → Within e (exact_sum_on x loads row)

-- the same on all rows of a model
pub record AreTotals (m : Lists) (loads : List NodeLoad) (totals : List Ends) : Type 0 where
  pub one_each : length totals ≡ 6 * length m.nodes
  pub total : (row : ℕ) → row < 6 * length m.nodes → IsTotal loads row (load_of totals row)

-- whatever was added up before, more loads are added
abbrev pub AddsLoads : Lists → List NodeLoad → List Ends → List Ends → Type 0
AddsLoads m more old new = (before : List NodeLoad) → AreTotals m before old → AreTotals m (before ++ more) new

-- each of them is no greater than n loads
abbrev pub AreOfLoads : ℕ → List Ends → Type 0
AreOfLoads n totals = (row : ℕ) → row < length totals → IsOfLoads n (load_of totals row)

-- the row is the first whose load reaches the limit
pub record IsFirstOver (loads : List Ends) (row : ℕ) : Type 0 where
  pub in_range : row < length loads
  pub over : IsErr (limited_force (load_of loads row))
  pub before : (i : ℕ) → i < row → IsOk (limited_force (load_of loads i))
