-- How heavy a metre of pipe can be.
use Rattle.std.proofs.Common.{◌≡◌, refl, ◌*◌, ◌^◌, arith, ℤ, pos, ◌+ℤ◌, ◌-ℤ◌, ◌*ℤ◌, ◌≤ℤ◌, ◌<ℤ◌, Ok}
use Rattle.std.specs.Prelude.{false}
use Rattle.std.specs.Int.{int_min, int_max}
use Rattle.std.proofs.lemmas.Int.{ints, clamps}
use Rattle.int_laws.proofs.Sums.{int_sums}
use Rattle.int_laws.proofs.Products.{le_of_mul, product_most, square_le, square_nonnegative, mul_nonnegative}
use Rattle.int_laws.specs.Division.{floor_of, ceil_of}
use Rattle.int_laws.proofs.DivisionLemmas.{floor_of-is, ceil_of-is}
use Rattle.angle_table.specs.Pi.{pi_ends}
use Rattle.flex_interval.specs.Ends.{Ends}
use Rattle.flex_interval.specs.Operations.{ends, point_of, add_of}
use Rattle.flex_interval.proofs.SmallRatios.{IsSmall, ratio_ends, small_ratio, ratio_lo, ratio_hi}
use Rattle.flex_interval.proofs.SmallSums.{small_sum}
use Rattle.model_types.specs.Ranges.{MaterialInForm}
use Rattle.model_types.specs.declared.records.Material.{Material}
use Rattle.model_types.specs.declared.records.Section.{Section}
use Rattle.section_data.specs.Tube.{IsTube, inside_diameter, difference_of_squares, weight_factor, weight_of}
use Rattle.load_vectors.specs.Weights.{metre_weight_of}
use Rattle.load_vectors.proofs.Sizes.{same_outcome}

ratio_ordered : (a : Ends) (n m : ℤ) → pos 0 <ℤ m → (ratio_ends a n m).lo ≤ℤ (ratio_ends a n m).hi
ratio_ordered a n m positive =
    let least = int_min (a.lo *ℤ n) (a.hi *ℤ n) in
    let most = int_max (a.lo *ℤ n) (a.hi *ℤ n) in
    let floor = floor_of-is least m positive in
    let ceiling = ceil_of-is most m positive in
    let order : least ≤ℤ most = omega (arith, int_sums, clamps) in
    le_of_mul m (floor_of least m) (ceil_of most m) positive (omega (arith, int_sums, floor.at_most, ceiling.at_least, order))

wall_low : (s : Section) → IsTube s → pos 0 ≤ℤ difference_of_squares s false
wall_low s tube =
    let is : inside_diameter s false ≡ s.d -ℤ (pos 2 *ℤ s.t) = refl in
    let bore = tube.bore in
    let wall : pos 100 ≤ℤ s.t = tube.form.t.least in
    let low : pos 0 ≤ℤ inside_diameter s false = rw is (omega (arith, int_sums, bore)) in
    let thin : inside_diameter s false ≤ℤ s.d = rw is (omega (arith, ints, wall)) in
    omega (arith, int_sums, square_le (inside_diameter s false) s.d low thin)

wall_high : (s : Section) → IsTube s → difference_of_squares s false ≤ℤ pos (4 * 10 ^ 12)
wall_high s tube =
    let least : pos 0 ≤ℤ s.d = omega (arith, int_sums, tube.form.d.least) in
    omega (arith, int_sums, square_le s.d (pos 2000000) least tube.form.d.most, square_nonnegative (inside_diameter s false))

-- the area
area_small : (s : Section) → IsTube s → IsSmall pi_ends (difference_of_squares s false)
area_small s tube =
    let low = wall_low s tube in
    let high = wall_high s tube in
    record {
      lo = omega (arith, ints);
      ordered = omega (arith, ints);
      factor = low;
      small = omega (arith, int_sums, product_most (pos 226375608064910089) (difference_of_squares s false) (pos 226375608064910089) (pos (4 * 10 ^ 12)) (omega (arith, ints)) low (omega (arith, ints)) high);
    }

abbrev area_ends : Section → Ends
area_ends s = ratio_ends pi_ends (difference_of_squares s false) (pos (2 ^ 42))

area_high : (s : Section) → IsTube s → (area_ends s).hi ≤ℤ pos (2 ^ 58)
area_high s tube =
    ratio_hi pi_ends (difference_of_squares s false) (pos (2 ^ 42)) (pos (2 ^ 58)) (omega (arith, ints)) (area_small s tube)
    (omega (arith, int_sums, product_most (pos 226375608064910089) (difference_of_squares s false) (pos 226375608064910089) (pos (4 * 10 ^ 12)) (omega (arith, ints)) (wall_low s tube) (omega (arith, ints)) (wall_high s tube)))

-- a weight from the area
pub record IsHeavy (w : Ends) : Type 0 where
  pub lo : pos 0 ≤ℤ w.lo
  pub hi : w.hi ≤ℤ pos (2 ^ 62)

factor_low : (m : Material) → MaterialInForm m → pos 0 ≤ℤ weight_factor m
factor_low m form = mul_nonnegative m.rho (pos (980665 * 2 ^ 24)) form.rho.least (omega (arith, ints))

factor_high : (m : Material) → MaterialInForm m → weight_factor m ≤ℤ pos (2 ^ 59)
factor_high m form = omega (arith, int_sums, product_most m.rho (pos (980665 * 2 ^ 24)) (pos 30000) (pos (980665 * 2 ^ 24)) (omega (arith, ints)) (omega (arith, ints)) form.rho.most (omega (arith, ints)))

weight_bounds : (area : Ends) (s : Section) (m : Material) (w : Ends) → IsTube s → MaterialInForm m → pos 0 ≤ℤ area.lo → area.lo ≤ℤ area.hi → area.hi ≤ℤ pos (2 ^ 58) → weight_of area s m ≡ Ok w → IsHeavy w
unfolding weight_of
weight_bounds area s m w tube form lo ordered hi is =
    let n = weight_factor m in
    let n_low = factor_low m form in
    let n_high = factor_high m form in
    let d : pos 0 <ℤ pos (10 ^ 17) = omega (arith, ints) in
    let e : pos 0 <ℤ pos 1000 = omega (arith, ints) in
    let product = product_most area.hi n (pos (2 ^ 58)) (pos (2 ^ 59)) (omega (arith, ints)) n_low hi n_high in
    let pipe_small : IsSmall area n = record { lo = lo; ordered = ordered; factor = n_low; small = omega (arith, int_sums, product) } in
    let pipe = ratio_ends area n (pos (10 ^ 17)) in
    let pipe_low : pos 0 ≤ℤ pipe.lo = ratio_lo area n (pos (10 ^ 17)) d pipe_small in
    let pipe_high : pipe.hi ≤ℤ pos (2 ^ 61) = ratio_hi area n (pos (10 ^ 17)) (pos (2 ^ 61)) d pipe_small (omega (arith, int_sums, product)) in
    let extra = point_of s.extra in
    let extra_low : pos 0 ≤ℤ s.extra = tube.form.extra.least in
    let extra_product = product_most s.extra (pos (2 ^ 40)) (pos 100000000) (pos (2 ^ 40)) (omega (arith, ints)) (omega (arith, ints)) tube.form.extra.most (omega (arith, ints)) in
    let rest_small : IsSmall extra (pos (2 ^ 40)) = record { lo = extra_low; ordered = omega (arith, int_sums); factor = omega (arith, ints); small = omega (arith, int_sums, extra_product) } in
    let rest = ratio_ends extra (pos (2 ^ 40)) (pos 1000) in
    let rest_low : pos 0 ≤ℤ rest.lo = ratio_lo extra (pos (2 ^ 40)) (pos 1000) e rest_small in
    let rest_high : rest.hi ≤ℤ pos (2 ^ 61) = ratio_hi extra (pos (2 ^ 40)) (pos 1000) (pos (2 ^ 61)) e rest_small (omega (arith, int_sums, extra_product)) in
    let pipe_order : pipe.lo ≤ℤ pipe.hi = ratio_ordered area n (pos (10 ^ 17)) d in
    let rest_order : rest.lo ≤ℤ rest.hi = ratio_ordered extra (pos (2 ^ 40)) (pos 1000) e in
    let sum : add_of pipe rest ≡ Ok (ends (pipe.lo +ℤ rest.lo) (pipe.hi +ℤ rest.hi)) =
    small_sum pipe rest pipe_low pipe_order (omega (arith, int_sums)) rest_low rest_order (omega (arith, int_sums)) in
    let both : add_of pipe rest ≡ Ok w = rw (small_ratio area n (pos (10 ^ 17)) pipe_small, small_ratio extra (pos (2 ^ 40)) (pos 1000) rest_small) at is in
    rw (same_outcome (add_of pipe rest) both sum) (record { lo = omega (arith, int_sums); hi = omega (arith, int_sums) })

pub metre_bounds : (s : Section) (m : Material) (w : Ends) → IsTube s → MaterialInForm m → metre_weight_of s m ≡ Ok w → IsHeavy w
metre_bounds s m w tube form is =
    let d : pos 0 <ℤ pos (2 ^ 42) = omega (arith, ints) in
    let small = area_small s tube in
    let area = rw (small_ratio pi_ends (difference_of_squares s false) (pos (2 ^ 42)) small) at is in
    weight_bounds (area_ends s) s m w tube form (ratio_lo pi_ends (difference_of_squares s false) (pos (2 ^ 42)) d small) (ratio_ordered pi_ends (difference_of_squares s false) (pos (2 ^ 42)) d) (area_high s tube) area
