-- The stress range factor f = 6 N^-0.2 of N cycles, and at most a cap (ASME B31.3-2016, 302.3.5(d)). Its fifth power is compared, since a root need not be a fraction: f^5 N = 6^5.
use Rattle.std.specs.Prelude.{ℕ, ◌+◌, ◌*◌, ◌/◌, ◌^◌, ◌⊎◌, nat_le, nat_eq, pos, ◌*ℤ◌, ◌≤ℤ◌, Result, Ok, if◌then◌else◌}
use Rattle.int_laws.specs.Powers.{power}
use Rattle.lists.specs.Results.{and_then}
use Rattle.lists.specs.Search.{greatest_to}
use Rattle.flex_interval.specs.Ends.{Ends}
use Rattle.flex_interval.specs.declared.fault.IvFault.{IvFault}
use Rattle.flex_interval.specs.Operations.{ends, point_of, ratio_of, min_of}

-- 6^5, in the unit of the fifth powers of numbers in 2^-20
abbrev pub power_of_six : ℕ
power_of_six = 6 ^ 5 * 2 ^ 100

-- e encloses the factor in 2^-20: 6 N^-0.2 or the cap in thousandths, whichever is the lesser
pub record EnclosesCycleFactor (cycles cap : ℕ) (e : Ends) : Type 0 where
  pub lo_from_zero : pos 0 ≤ℤ e.lo
  pub lower : (power e.lo 5 *ℤ pos cycles) ≤ℤ pos power_of_six
  pub lower_cap : (e.lo *ℤ pos 1000) ≤ℤ pos (cap * 2 ^ 20)
  pub upper : (pos power_of_six ≤ℤ (power e.hi 5 *ℤ pos cycles)) ⊎ (pos (cap * 2 ^ 20) ≤ℤ (e.hi *ℤ pos 1000))

-- the fifth root of n, rounded down
unfoldable pub fifth_root_of : ℕ → ℕ
fifth_root_of n = greatest_to n (λ k. nat_le (k ^ 5) n)

-- 6 N^-0.2 in 2^-20, rounded down
abbrev pub factor_down : ℕ → ℕ
factor_down cycles = fifth_root_of (power_of_six / cycles)

-- the same rounded up
abbrev pub factor_up : ℕ → ℕ
factor_up cycles = if nat_eq (factor_down cycles ^ 5 * cycles) power_of_six then factor_down cycles else factor_down cycles + 1

-- the factor, in 2^-20
unfoldable pub cycle_factor_of : ℕ → ℕ → Result Ends IvFault
cycle_factor_of cycles cap =
    and_then (ratio_of (point_of (pos cap)) (pos (2 ^ 20)) (pos 1000)) (λ most. Ok (min_of (ends (pos (factor_down cycles)) (pos (factor_up cycles))) most))
