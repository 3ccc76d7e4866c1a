-- Half of a bend's angle, its cosine and its sine, by the half-angle formulas. The bend's angle is in thousandths of a degree.
use Rattle.std.specs.Prelude.{◌≡◌, ℕ, ◌*◌, ◌^◌, Bool, ◌==◌, ◌||◌, pos, ◌≤ℤ◌, Result, Ok, if◌then◌else◌}
use Rattle.flex_interval.specs.Ends.{Ends}
use Rattle.flex_interval.specs.Operations.{point_of, add_of, sub_of, ratio_of, sqrt_of}
use Rattle.lists.specs.Results.{and_then}
use Rattle.flex_interval.specs.declared.fault.IvFault.{IvFault}
use Rattle.angle_table.specs.Pi.{pi_ends}
use Rattle.angle_table.specs.declared.angle.Half.{Half}

-- the angles that a bend may have
abbrev pub is_bend_angle : ℕ → Bool
is_bend_angle angle = angle == 22500 || angle == 30000 || angle == 45000 || angle == 60000 || angle == 90000 || angle == 180000

-- 1, in 2^-56
abbrev pub one : Ends
one = point_of (pos (2 ^ 56))

-- the root of 1/2 is the cosine of 45 degrees, and the root of 3/4 that of 30 degrees
unfoldable pub cosine_of_45 : Result Ends IvFault
cosine_of_45 = sqrt_of (point_of (pos (2 ^ 55))) 56

unfoldable pub cosine_of_30 : Result Ends IvFault
cosine_of_30 = sqrt_of (point_of (pos (3 * 2 ^ 54))) 56

-- the cosine of the half of an angle from its cosine: the root of (1 + cos) / 2
unfoldable pub half_cosine_of : Ends → Result Ends IvFault
half_cosine_of cosine = and_then (add_of one cosine) (λ sum. and_then (ratio_of sum (pos 1) (pos 2)) (λ square. sqrt_of square 56))

-- and its sine: the root of (1 - cos) / 2
unfoldable pub half_sine_of : Ends → Result Ends IvFault
half_sine_of cosine = and_then (sub_of one cosine) (λ rest. and_then (ratio_of rest (pos 1) (pos 2)) (λ square. sqrt_of square 56))

-- the cosine of half of a bend's angle
unfoldable pub cosine_of : ℕ → Result Ends IvFault
cosine_of angle =
    if angle == 22500 then and_then (and_then cosine_of_45 half_cosine_of) half_cosine_of
    else if angle == 30000 then and_then cosine_of_30 half_cosine_of
    else if angle == 45000 then and_then cosine_of_45 half_cosine_of
    else if angle == 60000 then cosine_of_30
    else if angle == 90000 then cosine_of_45
    else Ok (point_of (pos 0))

-- and its sine
unfoldable pub sine_of : ℕ → Result Ends IvFault
sine_of angle =
    if angle == 22500 then and_then (and_then cosine_of_45 half_cosine_of) half_sine_of
    else if angle == 30000 then and_then cosine_of_30 half_sine_of
    else if angle == 45000 then and_then cosine_of_45 half_sine_of
    else if angle == 60000 then Ok (point_of (pos (2 ^ 55)))
    else if angle == 90000 then cosine_of_45
    else Ok one

-- the intervals of half of a bend's angle
pub record HalfEnds (angle : ℕ) (h : Half) : Type 0 where
  pub a : ratio_of pi_ends (pos angle) (pos 360000) ≡ Ok h.a
  pub cos : cosine_of angle ≡ Ok h.cos
  pub sin : sine_of angle ≡ Ok h.sin

-- the ends of a sine rise, from 0 to 1
pub record IsSine (sine : Ends) : Type 0 where
  pub least : pos 0 ≤ℤ sine.lo
  pub ordered : sine.lo ≤ℤ sine.hi
  pub most : sine.hi ≤ℤ pos (2 ^ 56)

-- so do those of the half of every angle
abbrev pub SinesAreSines : Type 0
SinesAreSines = (angle : ℕ) (sine : Ends) → sine_of angle ≡ Ok sine → IsSine sine
