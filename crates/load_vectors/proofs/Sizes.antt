-- How great multiples and sums of loads are, so that none leaves the intervals' limit.
use Rattle.std.proofs.Common.{◌≡◌, refl, ap, ℕ, ◌+◌, ◌^◌, ◌<◌, ◌≤◌, arith, sym, ◌∙◌, ℤ, pos, neg_ℤ, ◌+ℤ◌, ◌-ℤ◌, ◌*ℤ◌, ◌≤ℤ◌, ◌<ℤ◌, Ok, Err, unsigned_abs}
use Rattle.std.specs.Prelude.{IsOk}
use Rattle.std.specs.Int.{int_min, int_max}
use Rattle.std.proofs.lemmas.Nat.{mul-le}
use Rattle.std.proofs.lemmas.Int.{ints, clamps, unsigned_abs-mul}
use Rattle.std.proofs.lemmas.Bool.Decides.{nat_tests}
use Rattle.int_laws.proofs.Sums.{int_sums}
use Rattle.int_laws.proofs.Products.{le_mul, le_of_mul, lt_of_mul, mul_comm, neg-mul}
use Rattle.int_laws.specs.Division.{IsFloor, IsCeiling, floor_of, ceil_of}
use Rattle.int_laws.proofs.DivisionLemmas.{floor_of-is, ceil_of-is}
use Rattle.flex_interval.specs.Ends.{Ends}
use Rattle.flex_interval.specs.Operations.{ends, small_of, multiple_of, ratio_of, add_of}
use Rattle.flex_interval.proofs.SmallRatios.{product_is, ratio_ends}
use Rattle.member_set.specs.Interval.{Outcome}
use Rattle.member_set.specs.Members.{nothing}
use Rattle.model_types.specs.Ranges.{IsIn}
use Rattle.model_types.specs.declared.ranges.TheConstants.{LOAD}
use Rattle.load_vectors.specs.NodeLoads.{units_of}
use Rattle.load_vectors.specs.Totals.{IsOfLoads}

small_of-ok : (x : ℤ) → unsigned_abs x < 2 ^ 126 → small_of x ≡ Ok x
small_of-ok x small = grind (arith, nat_tests)

-- ---- a number of at most m d in size, divided by d, is of at most m
floor_low : (n d m q : ℤ) → pos 0 <ℤ d → (neg_ℤ m *ℤ d) ≤ℤ n → IsFloor n d q → neg_ℤ m ≤ℤ q
floor_low n d m q positive low floor =
    let less = lt_of_mul d (neg_ℤ m) (q +ℤ pos 1) (omega (arith, int_sums)) (omega (arith, int_sums, floor.next_above)) in
    omega (arith, int_sums)

floor_high : (n d m q : ℤ) → pos 0 <ℤ d → n ≤ℤ (m *ℤ d) → IsFloor n d q → q ≤ℤ m
floor_high n d m q positive high floor = le_of_mul d q m positive (omega (arith, int_sums, floor.at_most))

ceiling_low : (n d m q : ℤ) → pos 0 <ℤ d → (neg_ℤ m *ℤ d) ≤ℤ n → IsCeiling n d q → neg_ℤ m ≤ℤ q
ceiling_low n d m q positive low ceiling = le_of_mul d (neg_ℤ m) q positive (omega (arith, int_sums, ceiling.at_least))

ceiling_high : (n d m q : ℤ) → pos 0 <ℤ d → n ≤ℤ (m *ℤ d) → IsCeiling n d q → q ≤ℤ m
ceiling_high n d m q positive high ceiling =
    let less = lt_of_mul d (q -ℤ pos 1) m (omega (arith, int_sums)) (omega (arith, int_sums, ceiling.previous_below)) in
    omega (arith, int_sums)

size_from : (x : ℤ) (m : ℕ) → neg_ℤ (pos m) ≤ℤ x → x ≤ℤ pos m → unsigned_abs x ≤ m
size_from x m low high = omega (arith, int_sums)

-- ---- a number of at most 2^108 in size, divided by 256 or more, is of at most 2^100
room : (m : ℤ) → pos 256 ≤ℤ m → pos (2 ^ 108) ≤ℤ (pos (2 ^ 100) *ℤ m)
room m large =
    let more : (pos 256 *ℤ pos (2 ^ 100)) ≤ℤ (m *ℤ pos (2 ^ 100)) = le_mul (pos (2 ^ 100)) (omega (arith, ints)) large in
    omega (arith, int_sums, more, mul_comm m (pos (2 ^ 100)))

floor_size : (x m : ℤ) → pos 256 ≤ℤ m → unsigned_abs x ≤ 2 ^ 108 → unsigned_abs (floor_of x m) ≤ 2 ^ 100
floor_size x m large small =
    let positive : pos 0 <ℤ m = omega (arith, int_sums) in
    let low : (neg_ℤ (pos (2 ^ 100)) *ℤ m) ≤ℤ x = omega (arith, int_sums, neg-mul (pos (2 ^ 100)) m, room m large) in
    let high : x ≤ℤ (pos (2 ^ 100) *ℤ m) = omega (arith, int_sums, room m large) in
    let floor = floor_of-is x m positive in
    size_from (floor_of x m) (2 ^ 100) (floor_low x m (pos (2 ^ 100)) _ positive low floor) (floor_high x m (pos (2 ^ 100)) _ positive high floor)

ceiling_size : (x m : ℤ) → pos 256 ≤ℤ m → unsigned_abs x ≤ 2 ^ 108 → unsigned_abs (ceil_of x m) ≤ 2 ^ 100
ceiling_size x m large small =
    let positive : pos 0 <ℤ m = omega (arith, int_sums) in
    let low : (neg_ℤ (pos (2 ^ 100)) *ℤ m) ≤ℤ x = omega (arith, int_sums, neg-mul (pos (2 ^ 100)) m, room m large) in
    let high : x ≤ℤ (pos (2 ^ 100) *ℤ m) = omega (arith, int_sums, room m large) in
    let ceiling = ceil_of-is x m positive in
    size_from (ceil_of x m) (2 ^ 100) (ceiling_low x m (pos (2 ^ 100)) _ positive low ceiling) (ceiling_high x m (pos (2 ^ 100)) _ positive high ceiling)

quotients_size : (x y m : ℤ) → pos 256 ≤ℤ m → unsigned_abs x ≤ 2 ^ 108 → unsigned_abs y ≤ 2 ^ 108 → IsOfLoads 1 (ends (floor_of x m) (ceil_of y m))
quotients_size x y m large x_small y_small = record { lo_most = floor_size x m large x_small; hi_most = ceiling_size y m large y_small }

-- ---- multiples of a number from 0 on
product_size : (x n : ℤ) → pos 0 ≤ℤ x → x ≤ℤ pos (2 ^ 68) → unsigned_abs n ≤ 2 ^ 40 → unsigned_abs (x *ℤ n) ≤ 2 ^ 108
product_size x n low high factor =
    let size : unsigned_abs x ≤ 2 ^ 68 = omega (arith, int_sums) in
    rw (unsigned_abs-mul x n) (mul-le (unsigned_abs x) (unsigned_abs n) (2 ^ 68) (2 ^ 40) size factor)

pub record IsMultiplicand (a : Ends) (n : ℤ) : Type 0 where
  pub lo : pos 0 ≤ℤ a.lo
  pub ordered : a.lo ≤ℤ a.hi
  pub hi : a.hi ≤ℤ pos (2 ^ 68)
  pub factor : unsigned_abs n ≤ 2 ^ 40

products_size : (a : Ends) (n : ℤ) → IsMultiplicand a n → (unsigned_abs (a.lo *ℤ n) ≤ 2 ^ 108) × (unsigned_abs (a.hi *ℤ n) ≤ 2 ^ 108)
products_size a n h =
    let lo = h.lo in
    let ordered = h.ordered in
    let hi = h.hi in
    (product_size a.lo n lo (omega (arith, int_sums)) h.factor, product_size a.hi n (omega (arith, int_sums)) hi h.factor)

pub multiple_is : (a : Ends) (n m : ℤ) → IsMultiplicand a n → ratio_of a n m ≡ Ok (ratio_ends a n m)
unfolding ratio_of multiple_of
multiple_is a n m h =
    let sizes = products_size a n h in
    rw (product_is a.lo n (omega (arith, sizes.0)), product_is a.hi n (omega (arith, sizes.1))) refl

pub multiple_size : (a : Ends) (n m : ℤ) → pos 256 ≤ℤ m → IsMultiplicand a n → IsOfLoads 1 (ratio_ends a n m)
multiple_size a n m large h =
    let sizes = products_size a n h in
    quotients_size (int_min (a.lo *ℤ n) (a.hi *ℤ n)) (int_max (a.lo *ℤ n) (a.hi *ℤ n)) m large
    (omega (arith, int_sums, clamps, sizes.0, sizes.1)) (omega (arith, int_sums, clamps, sizes.0, sizes.1))

-- ---- a part in mN
min_self : (x : ℤ) → int_min x x ≡ x
min_self x = omega (arith, int_sums, clamps)

abbrev part_ends : ℤ → Ends
part_ends x = ends (floor_of x (pos 1000)) (ceil_of x (pos 1000))

ratio_from : (p n : ℤ) → unsigned_abs (p *ℤ n) < 2 ^ 126 → ratio_of (ends p p) n (pos 1000) ≡ Ok (part_ends (p *ℤ n))
unfolding ratio_of multiple_of
ratio_from p n small = rw (small_of-ok (p *ℤ n) small, min_self (p *ℤ n)) refl

pub units_of-ok : (p : ℤ) → IsIn LOAD p → (e : Ends) × (units_of p ≡ Ok e) × IsOfLoads 1 e
units_of-ok p range =
    let up : pos 0 ≤ℤ pos (2 ^ 40) = omega (arith, ints) in
    let low : (neg_ℤ (pos (10 ^ 12)) *ℤ pos (2 ^ 40)) ≤ℤ (p *ℤ pos (2 ^ 40)) = le_mul (pos (2 ^ 40)) up range.least in
    let high : (p *ℤ pos (2 ^ 40)) ≤ℤ (pos (10 ^ 12) *ℤ pos (2 ^ 40)) = le_mul (pos (2 ^ 40)) up range.most in
    let small : unsigned_abs (p *ℤ pos (2 ^ 40)) ≤ 2 ^ 108 = omega (arith, int_sums, low, high) in (
      part_ends (p *ℤ pos (2 ^ 40)),
      ratio_from p (pos (2 ^ 40)) (omega (arith, small)),
      quotients_size (p *ℤ pos (2 ^ 40)) (p *ℤ pos (2 ^ 40)) (pos 1000) (omega (arith, ints)) small small,
    )

-- ---- sums
pub add_of-ok : (a b : Ends) → unsigned_abs (a.lo +ℤ b.lo) < 2 ^ 126 → unsigned_abs (a.hi +ℤ b.hi) < 2 ^ 126 → add_of a b ≡ Ok (ends (a.lo +ℤ b.lo) (a.hi +ℤ b.hi))
unfolding add_of
add_of-ok a b lo hi = rw (small_of-ok (a.lo +ℤ b.lo) lo, small_of-ok (a.hi +ℤ b.hi) hi) refl

pub add_of-room : (a b : Ends) → IsOfLoads 20000 a → IsOfLoads 1 b → add_of a b ≡ Ok (ends (a.lo +ℤ b.lo) (a.hi +ℤ b.hi))
add_of-room a b room one =
    add_of-ok a b (omega (arith, int_sums, room.lo_most, one.lo_most)) (omega (arith, int_sums, room.hi_most, one.hi_most))

-- the interval of an outcome
abbrev ends_of : Outcome → Ends
ends_of (Ok e) = e
ends_of (Err _) = nothing

pub same_outcome : {a b : Ends} (r : Outcome) → r ≡ Ok a → r ≡ Ok b → a ≡ b
same_outcome r first second = ap ends_of (sym first ∙ second)

pub sum_size : (n : ℕ) (a b e : Ends) → IsOfLoads 20000 a → IsOfLoads n a → IsOfLoads 1 b → add_of a b ≡ Ok e → IsOfLoads (n + 1) e
sum_size n a b e room size one sum =
    let is = same_outcome (add_of a b) sum (add_of-room a b room one) in
    rw is
    (record {
      lo_most = omega (arith, int_sums, size.lo_most, one.lo_most);
      hi_most = omega (arith, int_sums, size.hi_most, one.hi_most);
    })

-- the sum of a load and what came before
pub IsOk-sum : (a b : Ends) → IsOfLoads 20000 a → IsOfLoads 1 b → IsOk (add_of a b)
IsOk-sum a b room one = rw (add_of-room a b room one) refl
