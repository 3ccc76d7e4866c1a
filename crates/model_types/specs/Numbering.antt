-- How a table finds a record by its name.
use Rattle.std.specs.Prelude.{◌≡◌, ℕ, List, position, nat_eq}
use Rattle.std.specs.Cmp.Lexicographic.{pointwise, slice_cmp}
use Rattle.std.specs.Ordering.{nat_cmp}
use Rattle.std.specs.BTreeMap.{BTreeMap, get}

-- the map has the number of each name, and no other
abbrev pub IsNumbering : BTreeMap (List ℕ) ℕ → List (List ℕ) → Type 0
IsNumbering numbers names = (name : List ℕ) → get (slice_cmp nat_cmp) numbers name ≡ position (pointwise nat_eq name) names
