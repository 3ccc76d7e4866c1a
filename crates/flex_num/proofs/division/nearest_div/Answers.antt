use Rattle.std.proofs.Common.{rules, ◌≡◌, arith, pos, ◌+ℤ◌, ◌-ℤ◌, ◌<ℤ◌, ◌≤ℤ◌, FitsSigned, to_z, of_z, to_z-of_z}
use Rattle.std.proofs.lemmas.Int.{ints}
use Rattle.std.specs.Int.{w128, int_div_euclid, int_rem_euclid}
use Rattle.int_laws.proofs.DivisionLemmas.{nearest_of-is, nearest_unique, nearest_below, nearest_above, next_fits, rest_fits, remainder_positive}
use Rattle.flex_num.proofs.division.nearest_div.Goals as goal

pub overflow_sub-d : goal.overflow_sub-d
overflow_sub-d c =
    let fits : FitsSigned w128 c.rem_euclid-rest.result = search rules in
    rw (to_z-of_z fits, c.rem_euclid-rest.ensures.value, to_z-of_z c.ranges.n, to_z-of_z c.ranges.d) (rest_fits c.args.n c.args.d c.ranges.d c.requires)

less : (c : goal.Then-rest-d) → int_rem_euclid c.args.n c.args.d <ℤ (c.args.d -ℤ int_rem_euclid c.args.n c.args.d)
less c =
    let test : c.rem_euclid-rest.result <ℤ (c.args.d -ℤ c.rem_euclid-rest.result) = omega (arith, ints) in
    rw (c.rem_euclid-rest.ensures.value, to_z-of_z c.ranges.n, to_z-of_z c.ranges.d) at test

more : (c : goal.Else-rest-d) → (c.args.d -ℤ int_rem_euclid c.args.n c.args.d) ≤ℤ int_rem_euclid c.args.n c.args.d
more c =
    let test : (c.args.d -ℤ c.rem_euclid-rest.result) ≤ℤ c.rem_euclid-rest.result = omega (arith, ints) in
    rw (c.rem_euclid-rest.ensures.value, to_z-of_z c.ranges.n, to_z-of_z c.ranges.d) at test

floor_is : (c : goal.Else-rest-d) → to_z w128 (of_z w128 c.div_euclid-floor.result) ≡ int_div_euclid c.args.n c.args.d
floor_is c =
    let fits : FitsSigned w128 c.div_euclid-floor.result = search rules in
    rw (to_z-of_z fits) (rw (to_z-of_z c.ranges.n, to_z-of_z c.ranges.d) at c.div_euclid-floor.ensures)

next : (c : goal.Else-rest-d) → FitsSigned w128 (int_div_euclid c.args.n c.args.d +ℤ pos 1)
next c =
    let fits : FitsSigned w128 c.div_euclid-floor.result = search rules in
    let floor_fits = rw (c.div_euclid-floor.ensures, to_z-of_z c.ranges.n, to_z-of_z c.ranges.d) at fits in
    next_fits c.args.n c.args.d c.ranges.n floor_fits c.requires (remainder_positive (int_rem_euclid c.args.n c.args.d) c.args.d c.requires (more c))

pub overflow_add-result : goal.overflow_add-result
overflow_add-result c = rw (floor_is c) (next c)

pub returns-then-rest-d-clause-meaning : goal.returns-then-rest-d-clause-meaning
returns-then-rest-d-clause-meaning c =
    let fits : FitsSigned w128 c.div_euclid-floor.result = search rules in
    rw (to_z-of_z fits, c.div_euclid-floor.ensures, to_z-of_z c.ranges.n, to_z-of_z c.ranges.d) (nearest_below c.args.n c.args.d c.requires (less c))

pub returns-then-rest-d-clause-value : goal.returns-then-rest-d-clause-value
returns-then-rest-d-clause-value c = nearest_unique c.requires (returns-then-rest-d-clause-meaning c) (nearest_of-is c.args.n c.args.d c.requires)

pub returns-else-rest-d-clause-meaning : goal.returns-else-rest-d-clause-meaning
returns-else-rest-d-clause-meaning c = rw (floor_is c, to_z-of_z (next c)) (nearest_above c.args.n c.args.d c.requires (more c))

pub returns-else-rest-d-clause-value : goal.returns-else-rest-d-clause-value
returns-else-rest-d-clause-value c = nearest_unique c.requires (returns-else-rest-d-clause-meaning c) (nearest_of-is c.args.n c.args.d c.requires)
