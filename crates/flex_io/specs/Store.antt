-- A sink in memory.
use Rattle.std.specs.Prelude.{ℕ, List}

-- the bytes that it holds, the room that it has left in bytes, and its count of faults
pub record Store : Type 0 where
  pub bytes : List ℕ
  pub room : ℕ
  pub faults : ℕ
