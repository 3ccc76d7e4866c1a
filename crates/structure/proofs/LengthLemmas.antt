-- What the enclosure of a length holds.
use Rattle.std.proofs.Common.{◌≡◌, ◌^◌, Bool, true, false, if◌then◌else◌, arith, Result, Ok, Err, ℤ, pos, ◌*ℤ◌, ◌≤ℤ◌, ◌<ℤ◌}
use Rattle.std.specs.Prelude.{IfOk}
use Rattle.int_laws.proofs.Sums.{int_sums}
use Rattle.int_laws.proofs.Products.{le_mul, le_of_mul, le_of_square, mul_mul_mul_comm, mul_nonnegative, mul_positive, square_nonnegative, zero-mul}
use Rattle.int_laws.proofs.RootLemmas.{root_of-is, root_up_of-is}
use Rattle.int_laws.specs.Root.{root_of, root_up_of}
use Rattle.flex_interval.specs.Fraction.{Fraction, Within}
use Rattle.flex_interval.specs.Operations.{ends, is_small, shifted_of, sqrt_of}
use Rattle.flex_interval.specs.declared.fault.IvFault.{IvFault}
use Rattle.flex_interval.specs.declared.fault.IvFault.TheVariants as fault
use Rattle.lists.specs.Results.{and_then}
use Rattle.member_pairs.specs.Lengths.{length_of, IsLengthWithin}
use Rattle.member_pairs.specs.Span.{Span, square_of, IsLengthOf}

abbrev tested : Bool → ℤ → Result ℤ IvFault
tested t n = if t then Ok n else Err fault.Wide

root_holds : (t : Bool) (n : ℤ) (l : Fraction) → Within (ends (root_of n) (root_up_of n)) l →
    IfOk (and_then (and_then (tested t n) (λ x. and_then (tested t n) (λ y. Result.Ok (ends x y)))) (λ e. Ok (ends (root_of e.lo) (root_up_of e.hi)))) (λ e. Within e l)
root_holds true n l within = within
root_holds false n l within = tt

-- a number between the roots of the square is within the enclosure of the length
pub length_holds : (d : Span) (l : Fraction) → Within (ends (root_of (square_of d *ℤ pos (2 ^ 72))) (root_up_of (square_of d *ℤ pos (2 ^ 72)))) l → IsLengthWithin d l
unfolding length_of sqrt_of shifted_of
length_holds d l within = root_holds (is_small (square_of d *ℤ pos (2 ^ 72))) (square_of d *ℤ pos (2 ^ 72)) l within

-- a root is between the root rounded down and that rounded up
between_roots : (n : ℤ) (l : Fraction) → pos 0 <ℤ l.den → pos 0 <ℤ l.num → (l.num *ℤ l.num) ≡ (n *ℤ (l.den *ℤ l.den)) → Within (ends (root_of n) (root_up_of n)) l
between_roots n l defined positive square =
    let some : pos 0 <ℤ (l.den *ℤ l.den) = mul_positive l.den l.den defined defined in
    let from_zero : pos 0 ≤ℤ n = le_of_mul (l.den *ℤ l.den) (pos 0) n some (omega (arith, int_sums, zero-mul (l.den *ℤ l.den), square, square_nonnegative l.num)) in
    let down = root_of-is n from_zero in
    let up = root_up_of-is n from_zero in
    let any : pos 0 ≤ℤ (l.den *ℤ l.den) = omega (arith, int_sums, some) in
    let low : ((root_of n *ℤ root_of n) *ℤ (l.den *ℤ l.den)) ≤ℤ (n *ℤ (l.den *ℤ l.den)) = le_mul (l.den *ℤ l.den) any down.at_most in
    let high : (n *ℤ (l.den *ℤ l.den)) ≤ℤ ((root_up_of n *ℤ root_up_of n) *ℤ (l.den *ℤ l.den)) = le_mul (l.den *ℤ l.den) any up.at_least in
    record {
      defined = defined;
      at_least = le_of_square (root_of n *ℤ l.den) l.num (omega (arith, int_sums, positive)) (rw (mul_mul_mul_comm (root_of n) l.den (root_of n) l.den, square) low);
      at_most =
          le_of_square l.num (root_up_of n *ℤ l.den) (mul_nonnegative (root_up_of n) l.den up.nonnegative (omega (arith, int_sums, defined)))
          (rw (mul_mul_mul_comm (root_up_of n) l.den (root_up_of n) l.den, square) high);
    }

-- the exact length is
pub exact_length : (d : Span) (l : Fraction) → IsLengthOf d l → IsLengthWithin d l
exact_length d l is = length_holds d l (between_roots (square_of d *ℤ pos (2 ^ 72)) l is.defined is.positive is.square)
