-- Lists made place by place.
use Rattle.std.specs.Prelude.{ℕ, List, map}
use Rattle.std.specs.List.{range_with_len}

-- the list of f 0 to f (n - 1)
abbrev pub listed : {X : Type 0} → ℕ → (ℕ → X) → List X
listed n f = map f (range_with_len 0 n)
