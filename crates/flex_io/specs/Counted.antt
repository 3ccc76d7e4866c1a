-- A stream that is handed on.
use Rattle.std.specs.Prelude.{ℕ}

-- the reader or writer that the stream stands on, and its count of faults
pub record Counted (T : Type 0) : Type 0 where
  pub inner : T
  pub faults : ℕ
