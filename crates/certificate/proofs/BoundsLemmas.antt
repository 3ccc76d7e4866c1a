-- Why the bounds hold: they are the given displacements and forces, each wider by a radius that is enough.
use Rattle.std.proofs.Common.{◌≡◌, ℕ, suc, ◌+◌, ◌<◌, ◌^◌, add-one, refl, sym, ◌∙◌, ap, subst, arith, List, length, get_or, slice_set, get_or-set_same, Ok, Err, ℤ, pos, ◌+ℤ◌, ◌*ℤ◌, ◌≤ℤ◌}
use Rattle.std.specs.Prelude.{IsOk}
use Rattle.std.proofs.lemmas.Bool.Decides.{nat_tests}
use Rattle.std.proofs.lemmas.List.{get_or_read_under}
use Rattle.int_laws.specs.Sums.{sum_below}
use Rattle.int_laws.proofs.Sums.{int_sums}
use Rattle.int_laws.proofs.Products.{le_of_mul, le_mul, one-mul, mul_comm, square_nonnegative}
use Rattle.int_laws.proofs.SumLaws.{sum_below-le_more}
use Rattle.int_laws.specs.Division.{IsCeiling}
use Rattle.int_laws.proofs.DivisionLemmas.{ceiling_least}
use Rattle.flex_interval.specs.Ends.{Ends}
use Rattle.flex_interval.specs.Fraction.{Within}
use Rattle.lists.specs.Results.{and_then}
use Rattle.member_set.specs.declared.members.Member.{Member}
use Rattle.member_set.specs.declared.members.Law.{Law}
use Rattle.member_set.specs.declared.members.Built.{Built}
use Rattle.member_set.specs.Members.{nothing, member_of, law_of, force_of}
use Rattle.member_set.specs.Realisation.{fraction}
use Rattle.member_set.specs.Interval.{Outcome, found, limited_force, law_force_of, member_force_of, reach_of, points, forces_of, HaveForces}
use Rattle.bound_laws.specs.Nearness.{greater_size, widened}
use Rattle.certificate.specs.Widening.{IsLimited, AreLimited}

-- ---- forces are limited

limited_is : (f e : Ends) → limited_force f ≡ Ok e → IsLimited e
limited_is f e is = record { lower = grind (arith, nat_tests); upper = grind (arith, nat_tests) }

-- what a chain that ends with the limit answers
limited_after : (o : Outcome) (e : Ends) → and_then o limited_force ≡ Ok e → IsLimited e
limited_after (Ok f) e is = limited_is f e is
limited_after (Err fault) e is = absurd (cc)

limited_last : (o : Outcome) (next : Ends → Outcome) (e : Ends) → and_then o (λ x. and_then (next x) limited_force) ≡ Ok e → IsLimited e
limited_last (Ok x) next e is = limited_after (next x) e is
limited_last (Err fault) next e is = absurd (cc)

pub member_limited : (m : Member) (law : Law) (u : List ℤ) (e : Ends) → member_force_of m law u ≡ Ok e → IsLimited e
unfolding member_force_of
member_limited m law u e is = limited_last (reach_of m (points u)) (law_force_of m law) e is

pub forces_limited : (b : Built) (laws : List Law) (u : List ℤ) (forces : List Ends) → HaveForces b (forces_of b laws u) forces → AreLimited forces
forces_limited b laws u forces are k inside =
    member_limited (member_of b k) (law_of laws k) u (force_of forces k) (are.value k (omega (arith, are.one_each)))

-- ---- an interval that was found
pub found_is : (o : Outcome) (e : Ends) → o ≡ Ok e → found o ≡ e
found_is o e is = ap found is

pub found_ok : (o : Outcome) (e : Ends) → o ≡ Ok e → IsOk o
found_ok o e is = subst (λ (x : Outcome). IsOk x) (sym is) refl

-- ---- the sum of squares, row by row

-- the square of an interval's greater size
abbrev pub square_of : Ends → ℤ
square_of e = greater_size e *ℤ greater_size e

pub sum_more : (n s t : ℕ) (e : ℕ → Ends) (here : Ends) → e n ≡ here → pos s ≡ sum_below n (λ row. square_of (e row)) →
    pos t ≡ pos s +ℤ square_of here → pos t ≡ sum_below (n + 1) (λ row. square_of (e row))
sum_more n s t e here is before now =
    rw (add-one n)
    (now ∙ ap (λ (z : ℤ). z +ℤ square_of here) before ∙ ap (λ (x : Ends). sum_below n (λ row. square_of (e row)) +ℤ square_of x) (sym is))

pub sum_too_long : (n m s : ℕ) (e : ℕ → Ends) (here : Ends) → n < m → e n ≡ here → pos s ≡ sum_below n (λ row. square_of (e row)) →
    pos (2 ^ 126) ≤ℤ (pos s +ℤ square_of here) → pos (2 ^ 126) ≤ℤ sum_below m (λ row. square_of (e row))
sum_too_long n m s e here inside is before long =
    let all = sum_below-le_more (suc n) m (λ row. square_of (e row)) (omega arith) (λ i _. square_nonnegative (greater_size (e i))) in
    let own = ap square_of is in
    omega (arith, int_sums, all, own, before, long)

-- ---- a force, widened
pub force_wider : (k n : ℕ) (old now : List Ends) (f w : Ends) (radius full : ℤ) → length now ≡ n → k < n →
    f ≡ get_or now k f → force_of now k ≡ force_of old k → radius ≡ full → w ≡ widened f radius → force_of (slice_set now k w) k ≡ widened (force_of old k) full
force_wider k n old now f w radius full one_each inside force_is kept radius_is wider =
    let force = get_or_read_under now k n f nothing force_is inside (sym one_each) in
    get_or-set_same now k w nothing (omega (arith, one_each))
    ∙ wider
    ∙ ap (λ (e : Ends). widened e radius) (force ∙ kept)
    ∙ ap (λ (x : ℤ). widened (force_of old k) x) radius_is

-- ---- roundings
pub ceiling_bounded : (n d q limit : ℤ) → pos 1 ≤ℤ d → pos 0 ≤ℤ limit → n ≤ℤ limit → IsCeiling n d q → q ≤ℤ limit
ceiling_bounded n d q limit one up below is =
    let more = le_mul limit up one in
    ceiling_least limit (omega (arith, int_sums)) is (omega (arith, int_sums, more, one-mul limit, mul_comm d limit))

-- ---- the law

-- an interval that holds a number has its ends in order
pub ordered : (e : Ends) (n q : ℤ) → Within e (fraction n q) → e.lo ≤ℤ e.hi
ordered e n q within = le_of_mul q e.lo e.hi within.defined (omega (arith, int_sums, within.at_least, within.at_most))
