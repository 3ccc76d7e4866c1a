-- The turns of the search, counted from 1: the states are tried, and violated ones flip.
use Rattle.std.specs.Prelude.{ℕ, zero, suc, ◌≡◌, ◌<◌, ◌≤◌, ◌⊎◌, List, Bool, not, length}
use Rattle.restraint_search.specs.Trials.{Finding, is_closed, IsViolated, SomeViolated}

-- what flips in a turn: whatever is violated in the first eight turns, later the least number that is
abbrev pub Flips : ℕ → List Bool → ℕ → Type 0
Flips turn violated k = IsViolated violated k × ((turn ≤ 8) ⊎ ((j : ℕ) → j < k → IsViolated violated j → ⊥))

-- the states after a turn: what flips is the opposite of what it was, and nothing else changes
pub record Follows (turn : ℕ) (violated before after : List Bool) : Type 0 where
  pub count : length after ≡ length before
  pub flipped : (k : ℕ) → k < length before → Flips turn violated k → is_closed after k ≡ not (is_closed before k)
  pub kept : (k : ℕ) → k < length before → (Flips turn violated k → ⊥) → is_closed after k ≡ is_closed before k

-- the states after that many turns, in each of which a state was violated
abbrev pub AfterTurns : Finding → List Bool → ℕ → List Bool → Type 0
AfterTurns finds start zero states = states ≡ start
AfterTurns finds start (suc turns) states =
    (before : List Bool) × (violated : List Bool)
    × AfterTurns finds start turns before × finds before violated × SomeViolated violated × Follows (suc turns) violated before states
