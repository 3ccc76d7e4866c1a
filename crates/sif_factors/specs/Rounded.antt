-- The interval that each step of a factor answers, operation by operation.
use Rattle.std.specs.Prelude.{◌^◌, ℤ, pos, ◌*ℤ◌, Result, Ok}
use Rattle.flex_interval.specs.Ends.{Ends}
use Rattle.flex_interval.specs.declared.fault.IvFault.{IvFault}
use Rattle.flex_interval.specs.Operations.{point_of, add_of, max_of, mul_of, ratio_of, cbrt_of}
use Rattle.lists.specs.Results.{and_then}

-- 1/h in 2^-40, for h = p / n
unfoldable pub inverse_of : ℤ → ℤ → Result Ends IvFault
inverse_of n p = ratio_of (point_of n) (pos (2 ^ 40)) p

-- 1/h^2 in 2^-40
unfoldable pub inverse_square_of : ℤ → ℤ → Result Ends IvFault
inverse_square_of n p = and_then (inverse_of n p) (λ x. mul_of x x 40)

-- x^3, in 2^-40
unfoldable pub cube_of : Ends → Result Ends IvFault
cube_of x = and_then (mul_of x x 40) (λ square. mul_of square x 40)

-- x^3 y^2 in 2^-40, for x = n / p and y = m / q
unfoldable pub padded_of : ℤ → ℤ → ℤ → ℤ → Result Ends IvFault
padded_of n p m q =
    and_then (inverse_of n p) (λ x. and_then (cube_of x) (λ cube. and_then (inverse_square_of m q) (λ square. mul_of cube square 40)))

-- max(1, c / h^(2/3)) in 2^-30, from 1/h^2 in 2^-40, for c^3 = n / m
unfoldable pub index_of : Ends → ℤ → ℤ → Result Ends IvFault
index_of inverse_square n m =
    and_then (ratio_of inverse_square n m) (λ cube. and_then (cbrt_of cube 50) (λ root. Ok (max_of root (point_of (pos (2 ^ 30))))))

-- three quarters of an index and one quarter
unfoldable pub in_plane_index_of : Ends → Result Ends IvFault
in_plane_index_of index = and_then (ratio_of index (pos 3) (pos 4)) (λ part. add_of part (point_of (pos (2 ^ 28))))

-- max(1, 1.65/h) in 2^-56, for h = p / n
unfoldable pub flexibility_factor_of : ℤ → ℤ → Result Ends IvFault
flexibility_factor_of n p = and_then (ratio_of (point_of (pos 165 *ℤ n)) (pos (2 ^ 56)) (pos 100 *ℤ p)) (λ k. Ok (max_of k (point_of (pos (2 ^ 56)))))
