-- What an `Iv` is: an interval of whole numbers, by its ends.
use Rattle.std.specs.Prelude.{◌^◌, ◌<◌, ℤ, ◌≤ℤ◌, unsigned_abs}

pub record Ends : Type 0 where
  pub lo : ℤ
  pub hi : ℤ

-- every `Iv` holds a number, and its ends are below 2^126 in size
pub record IsInterval (e : Ends) : Type 0 where
  pub ordered : e.lo ≤ℤ e.hi
  pub lo_small : unsigned_abs e.lo < 2 ^ 126
  pub hi_small : unsigned_abs e.hi < 2 ^ 126

-- its ends are far below the limit, so that no product of two such ends reaches it
pub record IsNarrow (e : Ends) : Type 0 where
  pub lo_narrow : unsigned_abs e.lo < 2 ^ 62
  pub hi_narrow : unsigned_abs e.hi < 2 ^ 62
