-- A vector across a plane has a unit vector: its length is above 0, and leaves room for its parts.
use Rattle.std.proofs.Common.{◌≡◌, ℕ, ◌+◌, ◌*◌, ◌^◌, ◌<◌, ◌≤◌, Bool, true, false, refl, ap, sym, ◌∙◌, arith, ℤ, pos, neg_ℤ, ◌*ℤ◌, ◌≤ℤ◌, ◌<ℤ◌, unsigned_abs, Result, Ok, Err, if◌then◌else◌}
use Rattle.std.specs.Prelude.{IsOk}
use Rattle.std.proofs.lemmas.Bool.Decides.{nat_tests}
use Rattle.std.proofs.lemmas.Int.{ints, unsigned_abs-mul}
use Rattle.std.proofs.lemmas.Nat.{mul-le, pow-add, pow_pos}
use Rattle.int_laws.proofs.Products.{le_mul, le_of_square, mul_assoc, mul_comm, mul_mul_mul_comm, mul_positive, neg-mul, mul-neg, square_nonnegative}
use Rattle.int_laws.proofs.RootLemmas.{root_of-is}
use Rattle.int_laws.proofs.Sums.{int_sums}
use Rattle.int_laws.specs.Root.{root_of, root_up_of}
use Rattle.flex_interval.specs.Ends.{Ends}
use Rattle.flex_interval.specs.Operations.{div_of, ends, holds_zero, is_small, point_of, quotients, shifted_of, sqrt_of}
use Rattle.flex_interval.specs.declared.fault.IvFault.{IvFault}
use Rattle.flex_interval.specs.declared.fault.IvFault.TheVariants as fault
use Rattle.lists.specs.Results.{and_then}
use Rattle.member_pairs.specs.Span.{square_of}
use Rattle.bend_element.specs.Normal.{normal_parts, unit_part_of, unit_parts_of}
use Rattle.bend_element.specs.declared.normal.Normal.{Normal}

-- ---- the length

abbrev tested : Bool → ℤ → Result ℤ IvFault
tested t x = if t then Ok x else Err fault.Wide

abbrev roots : Ends → Result Ends IvFault
roots e = Ok (ends (root_of e.lo) (root_up_of e.hi))

tested_root : (t : Bool) (x : ℤ) (e : Ends) → and_then (and_then (tested t x) (λ lo. and_then (tested t x) (λ hi. Result.Ok (ends lo hi)))) roots ≡ Ok e →
    (t ≡ true) × (e.lo ≡ root_of x)
tested_root true x e is = let same : e ≡ ends (root_of x) (root_up_of x) = cc in (refl, ap (λ (e : Ends). e.lo) same)
tested_root false x e is = absurd (cc)

root_found : (n : ℤ) (s : ℕ) (e : Ends) → sqrt_of (point_of n) s ≡ Ok e → (is_small (n *ℤ pos (2 ^ s)) ≡ true) × (e.lo ≡ root_of (n *ℤ pos (2 ^ s)))
unfolding sqrt_of shifted_of
root_found n s e is = tested_root (is_small (n *ℤ pos (2 ^ s))) (n *ℤ pos (2 ^ s)) e is

small_size : (x : ℤ) → is_small x ≡ true → unsigned_abs x < 2 ^ 126
small_size x is = grind (arith, nat_tests)

size_small : (x : ℤ) → unsigned_abs x < 2 ^ 126 → is_small x ≡ true
size_small x size = grind (arith, nat_tests)

power_of_two : (s : ℕ) → pos 0 <ℤ pos (2 ^ s)
power_of_two s = omega (arith, int_sums, pow_pos s)

root_positive : (n : ℤ) → pos 0 <ℤ n → pos 0 <ℤ root_of n
root_positive n positive =
    let root = root_of-is n (omega (arith, int_sums, positive)) in
    omega (arith, int_sums, root.greatest (pos 1) (omega (arith, int_sums, positive)))

-- ---- a part

double : (s : ℕ) → pos (2 ^ (2 * s)) ≡ pos (2 ^ s) *ℤ pos (2 ^ s)
double s = ap pos (ap (λ (k : ℕ). 2 ^ k) (omega arith) ∙ pow-add 2 s s)

size_of_root : (q : ℤ) → (q *ℤ q) ≤ℤ pos (2 ^ 126) → unsigned_abs q ≤ 2 ^ 63
size_of_root q small =
    let up = le_of_square q (pos (2 ^ 63)) (omega (arith, ints)) (omega (arith, ints, small)) in
    let down = le_of_square (neg_ℤ q) (pos (2 ^ 63)) (omega (arith, ints)) (omega (arith, ints, small, neg-mul q (neg_ℤ q), mul-neg q q)) in
    omega (arith, ints, up, down)

-- a part times the unit of the length is at most the length
part_size : (p n : ℤ) (s : ℕ) → (p *ℤ p) ≤ℤ n → unsigned_abs (n *ℤ pos (2 ^ (2 * s))) < 2 ^ 126 → unsigned_abs (p *ℤ pos (2 ^ s)) ≤ 2 ^ 63
part_size p n s square small =
    let unit = pos (2 ^ s) in
    let more = le_mul (unit *ℤ unit) (square_nonnegative unit) square in
    let turned : ((p *ℤ unit) *ℤ (p *ℤ unit)) ≡ ((p *ℤ p) *ℤ (unit *ℤ unit)) = mul_mul_mul_comm p unit p unit in
    let most : unsigned_abs (n *ℤ (unit *ℤ unit)) < 2 ^ 126 = rw (double s) at small in
    size_of_root (p *ℤ unit) (rw turned (omega (arith, ints, more, most)))

part_small : (p n : ℤ) (s : ℕ) → (p *ℤ p) ≤ℤ n → unsigned_abs (n *ℤ pos (2 ^ (2 * s))) < 2 ^ 126 → unsigned_abs (p *ℤ pos (2 ^ (56 + s))) < 2 ^ 126
part_small p n s square small =
    let shifted : p *ℤ pos (2 ^ (56 + s)) ≡ (p *ℤ pos (2 ^ s)) *ℤ pos (2 ^ 56) =
    ap (λ (k : ℤ). p *ℤ k) (ap pos (pow-add 2 56 s) ∙ mul_comm (pos (2 ^ 56)) (pos (2 ^ s))) ∙ sym (mul_assoc p (pos (2 ^ s)) (pos (2 ^ 56))) in
    let size = mul-le (unsigned_abs (p *ℤ pos (2 ^ s))) (2 ^ 56) (2 ^ 63) (2 ^ 56) (part_size p n s square small) (omega arith) in
    rw (shifted, unsigned_abs-mul (p *ℤ pos (2 ^ s)) (pos (2 ^ 56))) (omega (arith, size))

without_zero : (e : Ends) → pos 0 <ℤ e.lo → holds_zero e ≡ false
without_zero e positive = grind (arith, ints)

abbrev PartIsThere : ℤ → ℕ → Ends → Type 0
PartIsThere p s e = (x : Ends) × (unit_part_of p s e ≡ Ok x)

part_found : (p : ℤ) (s : ℕ) (e : Ends) → pos 0 <ℤ e.lo → unsigned_abs (p *ℤ pos (2 ^ (56 + s))) < 2 ^ 126 → PartIsThere p s e
unfolding unit_part_of div_of shifted_of
part_found p s e positive small =
    let whole = p *ℤ pos (2 ^ (56 + s)) in
    (quotients (point_of whole) e, rw (without_zero e positive, size_small whole small) refl)

-- ---- the vector

pub unit_parts_found : (n : Normal) (s : ℕ) (e : Ends) → pos 0 <ℤ square_of (normal_parts n) → sqrt_of (point_of (square_of (normal_parts n))) (2 * s) ≡ Ok e → IsOk (unit_parts_of n s e)
unfolding unit_parts_of
unit_parts_found n s e not_zero is =
    let square = square_of (normal_parts n) in
    let found = root_found square (2 * s) e is in
    let small = small_size (square *ℤ pos (2 ^ (2 * s))) found.0 in
    let positive : pos 0 <ℤ e.lo = rw found.1 (root_positive (square *ℤ pos (2 ^ (2 * s))) (mul_positive square (pos (2 ^ (2 * s))) not_zero (power_of_two (2 * s)))) in
    let part = λ (p : ℤ) (in_square : (p *ℤ p) ≤ℤ square). part_found p s e positive (part_small p square s in_square small) in
    let x = part n.x (omega (arith, int_sums, square_nonnegative n.y, square_nonnegative n.z)) in
    let y = part n.y (omega (arith, int_sums, square_nonnegative n.x, square_nonnegative n.z)) in
    let z = part n.z (omega (arith, int_sums, square_nonnegative n.x, square_nonnegative n.y)) in
    rw (x.1, y.1, z.1) refl
