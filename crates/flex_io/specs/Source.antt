-- What reads take from a source, where it tells the bytes that it has left.
use Rattle.std.specs.Prelude.{◌≡◌, ℕ, ◌≤◌, ◌↔◌, List, [], Option, IfSome, length}
use Rattle.std.specs.Io.KnownBytes.{Consumes}

-- a read that gave n bytes gave none exactly at the end of input
abbrev pub EndsAtZero : Option (List ℕ) → ℕ → Type 0
EndsAtZero left n = IfSome left (λ bytes. (n ≡ 0) ↔ (bytes ≡ []))

-- some first bytes were taken, at most so many
abbrev pub ConsumesAtMost : Option (List ℕ) → Option (List ℕ) → ℕ → Type 0
ConsumesAtMost old new most = (bytes : List ℕ) × Consumes old new bytes × (length bytes ≤ most)
