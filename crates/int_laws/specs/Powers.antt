-- Powers of whole numbers.
use Rattle.std.specs.Prelude.{ℕ, ℤ, pos, ◌*ℤ◌}
use Prim.Native.Nat.{zero, suc}

-- x^p: a square is the product x x and a cube x x x, as they are written
abbrev pub power : ℤ → ℕ → ℤ
power x zero = pos 1
power x (suc zero) = x
power x (suc (suc p)) = power x (suc p) *ℤ x
