-- The lower end of a part of an interval.
use Rattle.std.proofs.Common.{◌≡◌, ap, arith, Bool, true, false, ℤ, pos, ◌*ℤ◌, ◌≤ℤ◌, ◌<ℤ◌, Result, Ok, Err, if◌then◌else◌}
use Rattle.std.proofs.lemmas.Int.{clamps}
use Rattle.std.specs.Int.{int_min, int_max}
use Rattle.int_laws.proofs.DivisionLemmas.{floor_of-is, floor_greatest}
use Rattle.int_laws.proofs.Products.{le_mul}
use Rattle.int_laws.proofs.Sums.{int_sums}
use Rattle.int_laws.specs.Division.{floor_of, ceil_of}
use Rattle.flex_interval.specs.Ends.{Ends}
use Rattle.flex_interval.specs.Operations.{ends, is_small, ratio_of, multiple_of}
use Rattle.flex_interval.specs.declared.fault.IvFault.{IvFault}
use Rattle.flex_interval.specs.declared.fault.IvFault.TheVariants as fault
use Rattle.lists.specs.Results.{and_then}

abbrev tested : Bool → ℤ → Result ℤ IvFault
tested t x = if t then Ok x else Err fault.Wide

abbrev quotient_of : Ends → ℤ → Result Ends IvFault
quotient_of e m = Ok (ends (floor_of e.lo m) (ceil_of e.hi m))

lower_end : (s t : Bool) (x y m : ℤ) (e : Ends) →
    and_then (and_then (tested s x) (λ x. and_then (tested t y) (λ y. Result.Ok (ends (int_min x y) (int_max x y))))) (λ e. quotient_of e m) ≡ Ok e → e.lo ≡ floor_of (int_min x y) m
lower_end true true x y m e is = let same : e ≡ ends (floor_of (int_min x y) m) (ceil_of (int_max x y) m) = cc in ap (λ (e : Ends). e.lo) same
lower_end true false x y m e is = absurd (cc)
lower_end false t x y m e is = absurd (cc)

-- what is at most a n / m is at most its lower end
pub ratio_low : (a e : Ends) (n m k : ℤ) → ratio_of a n m ≡ Ok e → a.lo ≤ℤ a.hi → pos 0 ≤ℤ n → pos 0 <ℤ m → (k *ℤ m) ≤ℤ (a.lo *ℤ n) → k ≤ℤ e.lo
unfolding ratio_of multiple_of
ratio_low a e n m k is ordered from_zero positive least =
    let order = le_mul n from_zero ordered in
    let low : int_min (a.lo *ℤ n) (a.hi *ℤ n) ≡ a.lo *ℤ n = omega (arith, int_sums, clamps) in
    let end : e.lo ≡ floor_of (a.lo *ℤ n) m = rw low at (lower_end (is_small (a.lo *ℤ n)) (is_small (a.hi *ℤ n)) (a.lo *ℤ n) (a.hi *ℤ n) m e is) in
    rw end (floor_greatest k positive (floor_of-is (a.lo *ℤ n) m positive) least)
