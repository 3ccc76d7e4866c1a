-- The record at a place.
use Rattle.std.specs.Prelude.{ℕ, List, Option, None, Some, slice_get}

-- the record at a place, where there is one
abbrev pub found_at : {X : Type 0} → List X → Option ℕ → Option X
found_at xs None = None
found_at xs (Some i) = slice_get xs i
