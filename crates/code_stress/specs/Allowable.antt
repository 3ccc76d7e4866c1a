-- The allowable stresses (ASME B31.3-2016, 302.3.5 and 302.3.6), in 2^-16 Pa, by the basic allowable stresses SC, cold, and SH, hot, in kPa.
use Rattle.std.specs.Prelude.{Bool, ℤ, pos, ◌+ℤ◌, ◌*ℤ◌, ◌≤ℤ◌, int_lt, Option, Some, None, Result, Ok, if◌then◌else◌}
use Rattle.lists.specs.Results.{and_then}
use Rattle.flex_interval.specs.Ends.{Ends}
use Rattle.flex_interval.specs.Fraction.{Fraction, Within, whole, scaled, plus, minus}
use Rattle.flex_interval.specs.declared.fault.IvFault.{IvFault}
use Rattle.flex_interval.specs.Operations.{point_of, sub_of, mul_of}

-- a basic allowable stress from 1 to 2,000,000 kPa
pub record IsAllowable (c : ℤ) : Type 0 where
  pub low : pos 1 ≤ℤ c
  pub high : c ≤ℤ pos 2000000

-- from 100 to 200 percent
pub record IsPercent (p : ℤ) : Type 0 where
  pub low : pos 100 ≤ℤ p
  pub high : p ≤ℤ pos 200

-- c kPa in 2^-16 Pa
abbrev pub kilopascals : ℤ → ℤ
kilopascals c = pos 65536000 *ℤ c

-- a stress is below SH
abbrev pub is_below : Ends → ℤ → Bool
is_below sl sh = int_lt sl.hi (kilopascals sh)

-- ---- exact

-- 1.25 SC + 0.25 SH
unfoldable pub basic_range : ℤ → ℤ → Fraction
basic_range sc sh = plus (scaled (whole (kilopascals sc)) (pos 5) (pos 4)) (scaled (whole (kilopascals sh)) (pos 1) (pos 4))

-- 1.25 (SC + SH)
unfoldable pub full_range : ℤ → ℤ → Fraction
full_range sc sh = scaled (plus (whole (kilopascals sc)) (whole (kilopascals sh))) (pos 5) (pos 4)

-- what f is taken of, where the sustained stress, if it is given, is s
abbrev pub stress_range : Option Ends → Fraction → ℤ → ℤ → Fraction
stress_range None s sc sh = basic_range sc sh
stress_range (Some sl) s sc sh = if is_below sl sh then minus (full_range sc sh) s else basic_range sc sh

-- s is the sustained stress, where one is given
abbrev pub IsSustained : Option Ends → Fraction → Type 0
IsSustained None s = Unit {0}
IsSustained (Some sl) s = Within sl s

-- ---- rounded
abbrev pub occasional_whole : ℤ → ℤ → ℤ
occasional_whole sh percent = pos 655360 *ℤ (sh *ℤ percent)

abbrev pub basic_whole : ℤ → ℤ → ℤ
basic_whole sc sh = pos 16384000 *ℤ ((pos 5 *ℤ sc) +ℤ sh)

abbrev pub full_whole : ℤ → ℤ → ℤ
full_whole sc sh = pos 81920000 *ℤ (sc +ℤ sh)

abbrev pub range_of : Option Ends → ℤ → ℤ → Result Ends IvFault
range_of None sc sh = Ok (point_of (basic_whole sc sh))
range_of (Some sl) sc sh = if is_below sl sh then sub_of (point_of (full_whole sc sh)) sl else Ok (point_of (basic_whole sc sh))

unfoldable pub expansion_allowable_of : Ends → ℤ → ℤ → Option Ends → Result Ends IvFault
expansion_allowable_of f sc sh sustained = and_then (range_of sustained sc sh) (λ range. mul_of f range 20)
