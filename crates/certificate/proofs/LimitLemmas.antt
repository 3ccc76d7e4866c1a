-- Bounds are below a limit, since displacements, forces and radii are.
use Rattle.std.proofs.Common.{◌≡◌, ℕ, ◌^◌, ◌<◌, ◌≤◌, List, length, get_or, All, refl, sym, subst, arith, Ok, Err, ℤ, pos, ◌+ℤ◌, ◌-ℤ◌, ◌≤ℤ◌, ◌<ℤ◌, unsigned_abs}
use Rattle.std.proofs.lemmas.List.Elements.{All-from_get_or}
use Rattle.std.specs.Prelude.{IsOk}
use Rattle.int_laws.proofs.Sums.{int_sums}
use Rattle.flex_interval.specs.Ends.{Ends}
use Rattle.member_set.specs.declared.members.Built.{Built}
use Rattle.member_set.specs.declared.members.Law.{Law}
use Rattle.member_set.specs.Interval.{Outcome, found, forces_of}
use Rattle.member_set.specs.Members.{IsModerate, member_of, law_of, nothing, row_count, system}
use Rattle.bound_laws.specs.Nearness.{RadiiAreNotNegative, alone, widened}
use Rattle.certificate.specs.declared.bounds.Enclosure.{Enclosure}
use Rattle.certificate.specs.Bounds.{AreBounds, HasLimitedEnds, BoundsAreLimited, displacement_radius, force_radius, sum_of_squares}
use Rattle.certificate.specs.Widening.{IsLimited}
use Rattle.certificate.proofs.BoundsLemmas.{member_limited}
use Rattle.certificate.proofs.BoundsLaw.{given_bounds}

lower_below : (z radius : ℤ) → unsigned_abs z ≤ 2 ^ 66 → pos 0 ≤ℤ radius → radius <ℤ pos (2 ^ 60) → unsigned_abs (z -ℤ radius) < 2 ^ 67
lower_below z radius small up below = omega (arith, int_sums)

upper_below : (z radius : ℤ) → unsigned_abs z ≤ 2 ^ 66 → pos 0 ≤ℤ radius → radius <ℤ pos (2 ^ 60) → unsigned_abs (z +ℤ radius) < 2 ^ 67
upper_below z radius small up below = omega (arith, int_sums)

widened_below : (e : Ends) (radius : ℤ) → IsLimited e → pos 0 ≤ℤ radius → radius <ℤ pos (2 ^ 60) → HasLimitedEnds (widened e radius)
widened_below e radius limited up below = (lower_below e.lo radius limited.lower up below, upper_below e.hi radius limited.upper up below)

alone_limited : (z : ℤ) → unsigned_abs z ≤ 2 ^ 60 → IsLimited (alone z)
alone_limited z small = record { lower = omega arith; upper = omega arith }

displacements_below : RadiiAreNotNegative → (b : Built) (laws : List Law) (loads : List Ends) (u : List ℤ) (lambda : ℤ) (e : Enclosure) → pos 1 ≤ℤ lambda
    → length u ≡ row_count b → IsModerate u → AreBounds (system b laws loads) u lambda e → All HasLimitedEnds e.u
displacements_below radii_up b laws loads u lambda e one rows moderate bounds =
    All-from_get_or HasLimitedEnds e.u nothing (λ row inside.
    let here : row < row_count b = omega (arith, inside, bounds.one_displacement_each) in
    let small : unsigned_abs (get_or u row (pos 0)) ≤ 2 ^ 60 = moderate row (pos 0) (omega (arith, here, rows)) in
    let radius_up = (radii_up lambda (sum_of_squares (system b laws loads) u) (pos 0) one).0 in
    subst HasLimitedEnds (sym (bounds.displacement row here))
    (widened_below (alone (get_or u row (pos 0))) (displacement_radius (system b laws loads) u lambda) (alone_limited (get_or u row (pos 0)) small) radius_up bounds.exist.near))

ok_found : (o : Outcome) → IsOk o → o ≡ Ok (found o)
ok_found (Ok e) is = refl
ok_found (Err fault) is = absurd (cc)

-- each force that was found is limited
found_limited : (b : Built) (laws : List Law) (u : List ℤ) (k : ℕ) → IsOk (forces_of b laws u k) → IsLimited (found (forces_of b laws u k))
found_limited b laws u k is =
    member_limited (member_of b k) (law_of laws k) u (found (forces_of b laws u k)) (ok_found (forces_of b laws u k) is)

forces_below : RadiiAreNotNegative → (b : Built) (laws : List Law) (loads : List Ends) (u : List ℤ) (lambda : ℤ) (e : Enclosure) → pos 1 ≤ℤ lambda → AreBounds (system b laws loads) u lambda e → All HasLimitedEnds e.force
forces_below radii_up b laws loads u lambda e one bounds =
    All-from_get_or HasLimitedEnds e.force nothing (λ k inside.
    let here : k < length b.members = omega (arith, inside, bounds.one_force_each) in
    let radius_up = (radii_up lambda (sum_of_squares (system b laws loads) u) (member_of b k).kappa.hi one).1 in
    subst HasLimitedEnds (sym (bounds.force k here))
    (widened_below (found (forces_of b laws u k)) (force_radius (system b laws loads) u lambda k) (found_limited b laws u k (bounds.exist.forces k here)) radius_up (bounds.exist.steady k here)))

pub bounds_limited : RadiiAreNotNegative → BoundsAreLimited
bounds_limited radii_up s u lambda e one rows moderate given =
    let bounds = given_bounds s u lambda e given in (
      displacements_below radii_up s.structure s.laws s.loads u lambda e one rows moderate bounds,
      forces_below radii_up s.structure s.laws s.loads u lambda e one bounds,
    )
