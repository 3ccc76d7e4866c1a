-- The pairs of a line, as they are written from lists of states and bounds.
use Rattle.std.specs.Prelude.{ℕ, List, length, slice_get, Bool, ℤ}
use Rattle.std.specs.List.{flat_map}
use Rattle.lists.specs.Listed.{listed}
use Rattle.model_types.specs.declared.answers.Bounds.{Bounds}
use Rattle.report.specs.Report.{Word, bounds_at, printed, told_words}

-- a pair of bounds in a unit that is m / n of theirs, behind the state of its place where there is one
abbrev pub told_pair : ℤ → ℤ → List Bool → List Bounds → ℕ → List Word
told_pair n m states bounds f = told_words (slice_get states f) (printed n m (bounds_at bounds f))

-- each of them
abbrev pub told_pairs : ℤ → ℤ → List Bool → List Bounds → List Word
told_pairs n m states bounds = flat_map (λ words. words) (listed (length bounds) (told_pair n m states bounds))
