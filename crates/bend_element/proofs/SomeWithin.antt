-- The enclosures of lengths hold numbers.
use Rattle.std.proofs.Common.{◌*◌, ◌^◌, Bool, true, false, if◌then◌else◌, arith, Result, Ok, Err, ℕ, ℤ, pos, ◌+ℤ◌, ◌*ℤ◌, ◌≤ℤ◌}
use Rattle.std.specs.Prelude.{IfOk}
use Rattle.std.specs.Ordering.{int_eq}
use Rattle.std.proofs.lemmas.Int.{ints}
use Rattle.int_laws.proofs.Sums.{int_sums}
use Rattle.int_laws.proofs.Products.{one-mul, mul_comm}
use Rattle.int_laws.specs.Powers.{power}
use Rattle.int_laws.specs.Root.{root_of, root_up_of}
use Rattle.flex_interval.specs.Ends.{Ends}
use Rattle.flex_interval.specs.Fraction.{Fraction, Within}
use Rattle.flex_interval.specs.Operations.{ends, is_small, point_of, shifted_of, sqrt_of}
use Rattle.flex_interval.specs.declared.fault.IvFault.{IvFault}
use Rattle.flex_interval.specs.declared.fault.IvFault.TheVariants as fault
use Rattle.lists.specs.Results.{and_then}
use Rattle.member_pairs.specs.Lengths.{length_of, IsLengthWithin}
use Rattle.member_pairs.specs.Span.{Span, square_of}
use Rattle.bend_element.specs.Normal.{IsNormalLengthWithin, normal_length_of, normal_shift}

-- an interval whose ends are in order holds its lower end
pub lower_within : (e : Ends) → e.lo ≤ℤ e.hi → Within e (record { num = e.lo; den = pos 1 })
lower_within e order =
    record {
      defined = omega (arith, ints);
      at_least = omega (arith, int_sums, mul_comm e.lo (pos 1), one-mul e.lo);
      at_most = omega (arith, int_sums, order, mul_comm e.hi (pos 1), one-mul e.hi);
    }

root_order : (n : ℤ) → root_of n ≤ℤ root_up_of n
unfolding root_up_of
root_order n = elim (int_eq (power (root_of n) 2) n) as (λ t. root_of n ≤ℤ (if t then root_of n else root_of n +ℤ pos 1)) [
  | true ↦ omega (arith, int_sums)
  | false ↦ omega (arith, int_sums)
]

abbrev tested : Bool → ℤ → Result ℤ IvFault
tested t n = if t then Ok n else Err fault.Wide

root_holds : (t : Bool) (n : ℤ) (l : Fraction) → Within (ends (root_of n) (root_up_of n)) l →
    IfOk (and_then (and_then (tested t n) (λ x. and_then (tested t n) (λ y. Result.Ok (ends x y)))) (λ e. Ok (ends (root_of e.lo) (root_up_of e.hi)))) (λ e. Within e l)
root_holds true n l within = within
root_holds false n l within = tt

-- the enclosure of a root holds a number
root_exists : (n : ℤ) (s : ℕ) → (l : Fraction) × IfOk (sqrt_of (point_of n) s) (λ e. Within e l)
unfolding sqrt_of shifted_of
root_exists n s =
    let scaled = n *ℤ pos (2 ^ s) in
    (record { num = root_of scaled; den = pos 1 }, root_holds (is_small scaled) scaled _ (lower_within (ends (root_of scaled) (root_up_of scaled)) (root_order scaled)))

pub length_exists : (d : Span) → (l : Fraction) × IsLengthWithin d l
unfolding length_of
length_exists d = root_exists (square_of d) 72

pub normal_length_exists : (n : Span) → (l : Fraction) × IsNormalLengthWithin n l
unfolding normal_length_of
normal_length_exists n = root_exists (square_of n) (2 * normal_shift n)
