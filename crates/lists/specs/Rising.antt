-- Rising lists of numbers: sets kept in order.
use Rattle.std.specs.Prelude.{ℕ, ◌<◌, List, AllPairs, Contains, ◌⊎◌, ◌↔◌}

-- each number is less than those after it
abbrev pub IsRising : List ℕ → Type 0
IsRising xs = AllPairs (λ x y. x < y) xs

-- the numbers above `least` are put in, and the list stays in order
pub record InsertsLater (old new numbers : List ℕ) (least : ℕ) : Type 0 where
  pub rising : IsRising new
  pub members : (x : ℕ) → Contains new x ↔ (Contains old x ⊎ (Contains numbers x × (least < x)))
