-- The interval that each operation answers, or its fault: exact ends, rounded outwards.
use Rattle.std.specs.Prelude.{ℕ, suc, ◌^◌, Bool, ◌&&◌, ℤ, pos, negsuc, ◌+ℤ◌, ◌-ℤ◌, ◌*ℤ◌, neg_ℤ, unsigned_abs, int_lt, int_le, nat_lt, Result, Ok, Err, if◌then◌else◌}
use Rattle.std.specs.Int.{int_min, int_max}
use Rattle.int_laws.specs.Division.{floor_of, ceil_of}
use Rattle.lists.specs.Results.{and_then}
use Rattle.int_laws.specs.Root.{root_of, root_up_of, cube_root_of, cube_root_up_of}
use Rattle.flex_interval.specs.Ends.{Ends}
use Rattle.flex_interval.specs.declared.fault.IvFault.{IvFault}
use Rattle.flex_interval.specs.declared.fault.IvFault.TheVariants as fault
use Rattle.flex_interval.specs.declared.fault.Wide.{Wide}

abbrev pub least : ℤ → ℤ → ℤ → ℤ → ℤ
least p q r s = int_min (int_min p q) (int_min r s)

abbrev pub greatest : ℤ → ℤ → ℤ → ℤ → ℤ
greatest p q r s = int_max (int_max p q) (int_max r s)

abbrev pub ends : ℤ → ℤ → Ends
ends lo hi = record { lo = lo; hi = hi }

-- below 2^126 in size
abbrev pub is_small : ℤ → Bool
is_small x = nat_lt (unsigned_abs x) (2 ^ 126)

-- the same where a call has `Wide` as its only fault: any fault of a step becomes it
abbrev pub or_wide : {A B : Type 0} → Result A IvFault → (A → Result B Wide) → Result B Wide
or_wide (Ok a) next = next a
or_wide (Err e) next = Err (record {})

-- x, where it is small
abbrev pub small_of : ℤ → Result ℤ IvFault
small_of x = if is_small x then Ok x else Err fault.Wide

-- the product of x and y, where it is small
abbrev pub product_of : ℤ → ℤ → Result ℤ IvFault
product_of x y = small_of (x *ℤ y)

-- the number v alone
abbrev pub point_of : ℤ → Ends
point_of v = ends v v

unfoldable pub neg_of : Ends → Ends
neg_of a = ends (neg_ℤ a.hi) (neg_ℤ a.lo)

unfoldable pub add_of : Ends → Ends → Result Ends IvFault
add_of a b = and_then (small_of (a.lo +ℤ b.lo)) (λ lo. and_then (small_of (a.hi +ℤ b.hi)) (λ hi. Ok (ends lo hi)))

unfoldable pub sub_of : Ends → Ends → Result Ends IvFault
sub_of a b = and_then (small_of (a.lo -ℤ b.hi)) (λ lo. and_then (small_of (a.hi -ℤ b.lo)) (λ hi. Ok (ends lo hi)))

abbrev pub holds_zero : Ends → Bool
holds_zero b = int_le b.lo (pos 0) && int_le (pos 0) b.hi

-- half the sum of the ends, rounded down
abbrev pub middle_of : Ends → ℤ
middle_of e = floor_of (e.lo +ℤ e.hi) (pos 2)

-- how far the upper end is from the middle
abbrev pub radius_of : Ends → ℤ
radius_of e = e.hi -ℤ middle_of e

-- the sizes of the numbers of a
unfoldable pub abs_of : Ends → Ends
abs_of a = if holds_zero a then ends (pos 0) (int_max (neg_ℤ a.lo) a.hi) else (if int_lt (pos 0) a.lo then a else neg_of a)

unfoldable pub max_of : Ends → Ends → Ends
max_of a b = ends (int_max a.lo b.lo) (int_max a.hi b.hi)

unfoldable pub min_of : Ends → Ends → Ends
min_of a b = ends (int_min a.lo b.lo) (int_min a.hi b.hi)

-- a n
unfoldable pub multiple_of : Ends → ℤ → Result Ends IvFault
multiple_of a n = and_then (product_of a.lo n) (λ x. and_then (product_of a.hi n) (λ y. Ok (ends (int_min x y) (int_max x y))))

-- the least and the greatest of the products of an end by an end
unfoldable pub products_of : Ends → Ends → Result Ends IvFault
products_of a b =
    and_then (product_of a.lo b.lo) (λ p. and_then (product_of a.hi b.lo) (λ q.
    and_then (product_of a.lo b.hi) (λ r. and_then (product_of a.hi b.hi) (λ s.
    Ok (ends (least p q r s) (greatest p q r s))))))

-- a b / 2^s
unfoldable pub mul_of : Ends → Ends → ℕ → Result Ends IvFault
mul_of a b s = and_then (products_of a b) (λ e. Ok (ends (floor_of e.lo (pos (2 ^ s))) (ceil_of e.hi (pos (2 ^ s)))))

-- a n / m, for a positive m
unfoldable pub ratio_of : Ends → ℤ → ℤ → Result Ends IvFault
ratio_of a n m = and_then (multiple_of a n) (λ e. Ok (ends (floor_of e.lo m) (ceil_of e.hi m)))

-- 2^s a
unfoldable pub shifted_of : Ends → ℕ → Result Ends IvFault
shifted_of a s = and_then (product_of a.lo (pos (2 ^ s))) (λ x. and_then (product_of a.hi (pos (2 ^ s))) (λ y. Ok (ends x y)))

-- x / y rounded down, and up, for a y of either sign
abbrev pub quotient_down : ℤ → ℤ → ℤ
quotient_down x (pos y) = floor_of x (pos y)
quotient_down x (negsuc y) = floor_of (neg_ℤ x) (pos (suc y))

abbrev pub quotient_up : ℤ → ℤ → ℤ
quotient_up x (pos y) = ceil_of x (pos y)
quotient_up x (negsuc y) = ceil_of (neg_ℤ x) (pos (suc y))

-- the least quotient of an end by an end rounded down, and the greatest rounded up
unfoldable pub quotients : Ends → Ends → Ends
quotients a b = ends
    (least (quotient_down a.lo b.lo) (quotient_down a.lo b.hi) (quotient_down a.hi b.lo) (quotient_down a.hi b.hi))
    (greatest (quotient_up a.lo b.lo) (quotient_up a.lo b.hi) (quotient_up a.hi b.lo) (quotient_up a.hi b.hi))

-- 2^s a / b; that b holds 0 is looked at first
unfoldable pub div_of : Ends → Ends → ℕ → Result Ends IvFault
div_of a b s = if holds_zero b then Err fault.Zero else and_then (shifted_of a s) (λ e. Ok (quotients e b))

-- the square root of 2^s a, for an a that is nowhere negative
unfoldable pub sqrt_of : Ends → ℕ → Result Ends IvFault
sqrt_of a s = and_then (shifted_of a s) (λ e. Ok (ends (root_of e.lo) (root_up_of e.hi)))

-- the cube root of 2^s a, for an a that is nowhere negative
unfoldable pub cbrt_of : Ends → ℕ → Result Ends IvFault
cbrt_of a s = and_then (shifted_of a s) (λ e. Ok (ends (cube_root_of e.lo) (cube_root_up_of e.hi)))
